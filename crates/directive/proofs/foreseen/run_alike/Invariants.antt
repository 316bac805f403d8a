-- The bytes that are passed are alike.
use Rattle.std.proofs.Common.{◌-◌, length, not, eqb}
use Rattle.ascii.specs.Text.{comparing}
use Rattle.directive.specs.Steps.{RunAlike}
use Rattle.directive.proofs.foreseen.run_alike.Given as goal

abbrev pub invariant-loop-run : goal.invariant-loop-run
invariant-loop-run g l = RunAlike (comparing (not (eqb g.row.IGNORE_CASE 0))) l.name l.letters l.run

abbrev pub decreases-loop-run : goal.decreases-loop-run
decreases-loop-run g l = length l.name - l.run
