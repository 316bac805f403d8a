-- `run_alike` meets its contract: bytes that are the same are so with case ignored.
use Rattle.std.proofs.Common.{◌≡◌, true, not, eqb, sym, ◌∙◌, arith}
use borrow.Author.Tests.{ne_eqb}
use Rattle.std.proofs.lemmas.Bool.{false≢true}
use Rattle.ascii.specs.Text.{comparing}
use Rattle.directive.specs.Steps.{alike_to}
use Rattle.directive.proofs.Eights.{alike-exactly, run-eight}
use Rattle.directive.proofs.foreseen.run_alike.Goals as goal
use Rattle.directive.proofs.foreseen.run_alike.Goals.{then-eight_same, else-eight_same+then-this-ne0, else-eight_same+else-this-ne0}

pub loop-run-init : goal.loop-run-init
loop-run-init g c = (omega arith, omega arith, λ m l. absurd (omega arith))

pub loop-run-preserved : goal.loop-run-preserved
loop-run-preserved g c =
    let a = c.args.name.now in
    let b = c.args.letters.now in
    let i = c.loop-run.run in
    let f = comparing (not (eqb g.row.IGNORE_CASE 0)) in
    let e : alike_to f a i b i 7 ≡ true =
    elim c.if-eight_same.branch [
      | then-eight_same w ↦ alike-exactly a i b i f 7 (sym c.eight_same.ensures ∙ w.if-eight_same.true)
      | else-eight_same+then-this-ne0 w ↦ rw (ne_eqb g.row.IGNORE_CASE 0 w.if-this-ne0.true) (sym w.eight_folded.ensures ∙ sym w.value-is ∙ c.if-not-eight_folded.false)
      | else-eight_same+else-this-ne0 w ↦ absurd (false≢true (rw w.if-this-ne0.false at (sym w.value-is ∙ c.if-not-eight_folded.false)))
    ] in
    run-eight f a b i (omega (arith, c.min-most.ensures, c.loop-run-test.true)) (omega (arith, c.min-most.ensures, c.loop-run-test.true)) c.loop-run.invariant e
