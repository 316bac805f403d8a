-- `bookform::passing::each_stands`: the byte that is asked comes behind the run.
use Rattle.std.proofs.Common.{◌≡◌, ◌-◌, true, get_or, sym, ◌∙◌}
use Rattle.bookform.specs.Standing.{stands_behind}
use Rattle.bookform.proofs.Standings.{one_more}
use Rattle.bookform.proofs.passing.each_stands.Goals as goal

pub loop-at-preserved : goal.loop-at-preserved
loop-at-preserved g c =
    let bs = c.args.book.now in
    one_more (λ i. stands_behind g.row.BETWEEN (get_or bs (i - 1) 0) (get_or bs i 0) ≡ true) c.args.start c.loop-at.at c.loop-at.invariant
    (sym c.stands_at.ensures ∙ c.if-not-stands_at.false)
