-- `alike` meets its contract: eight bytes at once, and then what is left.
use Rattle.std.proofs.Common.{◌≡◌, ◌+◌, Bool, true, false, ◌&&◌, drop, sym, ap, ◌∙◌}
use Rattle.std.proofs.lemmas.Bool.{false≢true}
use Rattle.ascii.specs.Text.{same_by, comparing}
use Rattle.directive.specs.Steps.{alike_to}
use Rattle.directive.proofs.Eights.{alike-exactly, eight-behind}
use Rattle.directive.proofs.alike.alike.Goals as goal
use Rattle.directive.proofs.alike.alike.Goals.{then-eight_same, else-eight_same+then-ignore_case, else-eight_same+else-ignore_case}

pub loop-i-preserved : goal.loop-i-preserved
loop-i-preserved c =
    let i = c.loop-i.i in
    let a = c.args.a.now in
    let b = c.args.b.now in
    let f = comparing c.args.ignore_case in
    let e : alike_to f a i b i 7 ≡ true =
    elim c.if-eight_same.branch [
      | then-eight_same w ↦ alike-exactly a i b i f 7 (sym c.eight_same.ensures ∙ w.if-eight_same.true)
      | else-eight_same+then-ignore_case w ↦ rw w.if-ignore_case.true (sym w.eight_folded.ensures ∙ sym w.value-is ∙ c.if-not-eight_folded.false)
      | else-eight_same+else-ignore_case w ↦ absurd (false≢true (sym w.if-ignore_case.false ∙ sym w.value-is ∙ c.if-not-eight_folded.false))
    ] in
    record {
      within = c.loop-i-test.true;
      alike = ap (λ (t : Bool). t && same_by f (drop (i + 8) a) (drop (i + 8) b)) (sym e) ∙ sym (eight-behind f a b i c.loop-i-test.true c.requires) ∙ c.loop-i.invariant.alike;
    }

pub returns-then-not-eight_folded : goal.returns-then-not-eight_folded
returns-then-not-eight_folded c =
    let i = c.loop-i.i in
    let a = c.args.a.now in
    let b = c.args.b.now in
    let f = comparing c.args.ignore_case in
    let e : alike_to f a i b i 7 ≡ false =
    elim c.if-eight_same.branch [
      | then-eight_same w ↦ absurd (false≢true (sym c.if-not-eight_folded.true ∙ w.value-is ∙ w.if-eight_same.true))
      | else-eight_same+then-ignore_case w ↦ rw w.if-ignore_case.true (sym w.eight_folded.ensures ∙ sym w.value-is ∙ c.if-not-eight_folded.true)
      | else-eight_same+else-ignore_case w ↦ rw w.if-ignore_case.false (sym c.eight_same.ensures ∙ w.if-eight_same.false)
    ] in
    ap (λ (t : Bool). t && same_by f (drop (i + 8) a) (drop (i + 8) b)) (sym e) ∙ sym (eight-behind f a b i c.loop-i-test.true c.requires) ∙ c.loop-i.invariant.alike
