-- What is left of the texts is the same as the whole texts are.
use Rattle.std.proofs.Common.{◌≡◌, ◌≤◌, ◌-◌, length, drop}
use Rattle.ascii.specs.Text.{same_by, comparing}
use Rattle.directive.proofs.alike.alike.Given as goal

abbrev pub invariant-loop-i : goal.invariant-loop-i
invariant-loop-i l = record {
  within : l.i ≤ length l.a;
  alike : same_by (comparing l.ignore_case) (drop l.i l.a) (drop l.i l.b) ≡ same_by (comparing l.ignore_case) l.a l.b;
}

abbrev pub decreases-loop-i : goal.decreases-loop-i
decreases-loop-i l = length l.a - l.i
