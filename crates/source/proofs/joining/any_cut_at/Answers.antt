-- Where a break of C stands there is no continuation of Fortran.
use Rattle.std.proofs.Common.{◌≡◌, ◌+◌, ◌<◌, sym, ◌∙◌, drop, arith}
use Rattle.std.proofs.lemmas.List.{take_rest}
use Rattle.lexer.specs.Continuation.{break_c, break_f}
use Rattle.lexer.proofs.Continuing.{if_any-is, if_any-some, one-break}
use Rattle.source.proofs.joining.any_cut_at.Goals as goal

pub returns-in-Some-clause-value : goal.returns-in-Some-clause-value
returns-in-Some-clause-value c =
    let e = rw take_rest at (sym c.break_c.ensures.value ∙ c.in-Some.is) in
    let x = drop c.args.at c.args.lines.now.text.now in
    let n = if_any-some (break_c x) c.in-Some.gone e in
    let some : 0 < break_c x = omega (arith, n) in
    let s : break_c x + break_f x ≡ c.in-Some.gone = omega (arith, n, one-break x some) in
    sym (rw s (if_any-is c.in-Some.gone n.1))
