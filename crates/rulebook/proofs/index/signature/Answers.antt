-- `rulebook::index::signature`: the next byte is added, and the sums of a whole name are its signature.
use Rattle.std.proofs.Common.{sym, ◌∙◌, arith}
use Rattle.rulebook.proofs.Signatures.{signed-next, signed-end}
use Rattle.rulebook.proofs.index.signature.Goals as goal

pub loop-b-preserved : goal.loop-b-preserved
loop-b-preserved c =
    let l = c.loop-b in
    (omega arith, omega arith, rw (c.from.ensures, c.fold.ensures) (sym (signed-next c.args.name.now l.sum l.sums l.b-index (omega arith)) ∙ l.invariant.2))

pub returns-clause-value : goal.returns-clause-value
returns-clause-value c =
    let l = c.loop-b in
    sym (signed-end c.args.name.now l.sum l.sums l.b-index (omega arith)) ∙ l.invariant.2
