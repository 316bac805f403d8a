-- What is written, with the bytes that are still to come, is the run.
use Rattle.std.proofs.Common.{◌≡◌, ◌++◌, ◌-◌, ◌≤◌, length, take, drop}
use Rattle.source.proofs.runs.copy_by.Given as goal

abbrev pub invariant-loop-k : goal.invariant-loop-k
invariant-loop-k g l =
    record {
      within : l.k ≤ length l.run;
      bytes : take l.k l.slots ++ drop l.k l.run ≡ l.run;
    }

abbrev pub decreases-loop-k : goal.decreases-loop-k
decreases-loop-k g l = length l.run - l.k
