-- A comment's sign outside of literals ends the code; any other byte is one more of it.
use Rattle.std.proofs.Common.{◌≡◌, ◌+◌, ◌∙◌, true, sym, arith, drop, get_or}
use Rattle.validation.specs.declared.Quoting.TheVariants.{Outside}
use Rattle.validation.specs.Validation.{is_inside, code_length}
use Rattle.validation.proofs.Lines.{code-stop, code-more, code-end}
use Rattle.validation.proofs.code_length.Goals as goal
use Rattle.validation.proofs.code_length.Goals.{else-b-eq33-via-then-b-eq33+else-not-is_inside, else-b-eq33-via-else-b-eq33}

pub returns-then-not-is_inside-clause-value : goal.returns-then-not-is_inside-clause-value
returns-then-not-is_inside-clause-value c =
    omega (arith, c.loop-i.invariant, code-stop c.loop-i.quoting c.args.line.now c.loop-i.i c.loop-i-test.true c.if-b-eq33.true (sym c.is_inside.ensures ∙ c.if-not-is_inside.true))

pub loop-i-preserved : goal.loop-i-preserved
loop-i-preserved c =
    let s = c.args.line.now in
    let i = c.loop-i.i in
    let step : (get_or s i 0 ≡ 33 → is_inside c.loop-i.quoting ≡ true) → i + 1 + code_length c.after-quoting.result (drop (i + 1) s) ≡ code_length Outside s =
    λ f. rw c.after-quoting.ensures (omega (arith, c.loop-i.invariant, code-more c.loop-i.quoting s i c.loop-i-test.true f))
    in
    elim c.else-b-eq33.branch [
      | else-b-eq33-via-then-b-eq33+else-not-is_inside w ↦ step (λ e. sym w.is_inside.ensures ∙ w.if-not-is_inside.false)
      | else-b-eq33-via-else-b-eq33 w ↦ step (λ e. absurd (w.if-b-eq33.false e))
    ]

pub returns-clause-value : goal.returns-clause-value
returns-clause-value c = omega (arith, c.loop-i.invariant, code-end c.loop-i.quoting c.args.line.now c.loop-i.i c.loop-i-test.false)
