-- What is passed, with the code of the rest, is the code of the whole.
use Rattle.std.proofs.Common.{◌≡◌, ◌+◌, drop}
use Rattle.validation.specs.declared.Quoting.TheVariants.{Outside}
use Rattle.validation.specs.Validation.{code_length}
use Rattle.validation.proofs.code_length.Given as goal

abbrev pub invariant-loop-i : goal.invariant-loop-i
invariant-loop-i l = l.i + code_length l.quoting (drop l.i l.line) ≡ code_length Outside l.line
