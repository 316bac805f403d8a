-- Only words were put behind the letters; the place goes up.
use Rattle.std.proofs.Common.{◌≤◌, ◌-◌, length}
use Rattle.directive.specs.Steps.{Extended}
use Rattle.directive.proofs.foreseen.gather.Given as goal

abbrev pub invariant-loop-place : goal.invariant-loop-place
invariant-loop-place l = record {
  within : l.at ≤ length l.text;
  extended : Extended l.fn.letters l.letters;
}

abbrev pub decreases-loop-place : goal.decreases-loop-place
decreases-loop-place l = length l.text - l.at
