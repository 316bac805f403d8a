-- `count_clauses` meets its contract: from a start that does not go on nothing is read.
use Rattle.std.proofs.Common.{sym, arith}
use Rattle.std.proofs.lemmas.Grind.{common_steps}
use Rattle.clause.proofs.Starting.{rests-answered}
use Rattle.clause.proofs.many.count_clauses.Goals as goal

pub returns-then-not-goes_on : goal.returns-then-not-goes_on
returns-then-not-goes_on c =
    rests-answered c.args.book.now.bytes.now c.args.text.now c.args.start c.args.slots _ (sym c.if-not-goes_on.ensures) c.requires.none_yet (grind (arith, common_steps))
