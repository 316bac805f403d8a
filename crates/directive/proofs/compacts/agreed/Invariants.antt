-- The bytes that are passed are alike, if those that are known are.
use Rattle.std.proofs.Common.{◌-◌, ◌≤◌}
use Rattle.ascii.specs.Ascii.{exactly}
use Rattle.directive.specs.Steps.{RunAlike}
use Rattle.directive.proofs.compacts.agreed.Given as goal

abbrev pub invariant-loop-run : goal.invariant-loop-run
invariant-loop-run l = record {
  within : l.run ≤ l.most;
  alike : RunAlike exactly l.a l.b l.known → RunAlike exactly l.a l.b l.run;
}

abbrev pub decreases-loop-run : goal.decreases-loop-run
decreases-loop-run l = l.most - l.run
