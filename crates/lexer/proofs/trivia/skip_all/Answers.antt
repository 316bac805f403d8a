-- `skip_all` meets its contract: skipping from each place that the loop comes to gives what it gives from the first.
use Rattle.std.proofs.Common.{◌≡◌, ◌+◌, ◌≤◌, ℕ, Some, None, refl, sym, ◌∙◌, length, drop, arith, length-drop}
use Rattle.std.proofs.lemmas.List.{take_rest}
use Rattle.lexer.specs.Trivia.{trivia_of, skip}
use Rattle.lexer.proofs.Skipping.{skip-end, skip-open, skip-none, skip-run}
use Rattle.lexer.proofs.trivia.skip_all.Goals as goal

pub loop-i-init : goal.loop-i-init
unfolding skip
loop-i-init c = (omega arith, omega arith, refl)

pub loop-i-preserved : goal.loop-i-preserved
loop-i-preserved c =
    let e : trivia_of c.args.fortran (drop c.loop-i.i c.args.text.now) ≡ Some c.in-Ok-Some.n = rw (take_rest, c.in-Ok-Some.is, c.in-Ok-Some.field-0-is) at c.trivia_of.ensures.value in
    let fits = rw (take_rest, c.in-Ok-Some.is, c.in-Ok-Some.field-0-is) at c.trivia_of.ensures.fits in
    let within : c.loop-i.i + c.in-Ok-Some.n ≤ length c.args.text.now = omega (arith, fits, length-drop {A = ℕ}) in (
      omega arith,
      within,
      sym (skip-run _ _ c.loop-i.i c.in-Ok-Some.n within e (λ z. absurd (omega (arith, z, fits)))) ∙ c.loop-i.invariant.2,
    )

pub returns-in-Ok-None-clause-value : goal.returns-in-Ok-None-clause-value
returns-in-Ok-None-clause-value c =
    let e : trivia_of c.args.fortran (drop c.loop-i.i c.args.text.now) ≡ Some 0 = rw (take_rest, c.in-Ok-None.is, c.in-Ok-None.field-0-is) at c.trivia_of.ensures.value in
    sym (skip-none _ _ _ c.loop-i-test.true e) ∙ c.loop-i.invariant.2

pub returns-in-Err-clause-value : goal.returns-in-Err-clause-value
returns-in-Err-clause-value c =
    let e : trivia_of c.args.fortran (drop c.loop-i.i c.args.text.now) ≡ None = rw (take_rest, c.in-Err.is) at c.trivia_of.ensures.value in
    rw c.at.ensures (sym (skip-open _ _ _ c.loop-i-test.true e) ∙ c.loop-i.invariant.2)

pub returns-clause-value : goal.returns-clause-value
returns-clause-value c = sym (skip-end _ _ _ c.loop-i-test.false) ∙ c.loop-i.invariant.2
