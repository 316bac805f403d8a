-- The fault from each line that the loop comes to is the fault of the whole.
use Rattle.std.proofs.Common.{◌≡◌, ◌-◌, ◌≤◌, length, drop}
use Rattle.validation.specs.Validation.{fault_from, fault}
use Rattle.validation.proofs.validate_logical_line.Given as goal

abbrev pub invariant-loop-at : goal.invariant-loop-at
invariant-loop-at l =
    record {
      within : l.at ≤ length l.line;
      rest : fault_from l.fn.dialect.language l.fn.dialect.prefix 0 l.at (drop l.at l.line) ≡ fault l.fn.dialect.language l.fn.dialect.prefix l.line;
    }

abbrev pub decreases-loop-at : goal.decreases-loop-at
decreases-loop-at l = length l.line - l.at
