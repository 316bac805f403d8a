-- What is written, with the places that are still to come, is all of them.
use Rattle.std.proofs.Common.{◌≡◌, ◌+◌, ◌++◌, ◌-◌, ◌≤◌, length, take}
use Rattle.source.specs.Staying.{counted}
use Rattle.source.proofs.runs.count_up.Given as goal

abbrev pub invariant-loop-k : goal.invariant-loop-k
invariant-loop-k l =
    record {
      beside : l.i ≡ l.from + l.k;
      within : l.k ≤ length l.map;
      places : take l.k l.map ++ counted l.i (length l.map - l.k) ≡ counted l.from (length l.map);
    }

abbrev pub decreases-loop-k : goal.decreases-loop-k
decreases-loop-k l = length l.map - l.k
