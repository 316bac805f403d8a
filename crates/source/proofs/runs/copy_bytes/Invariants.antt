-- What is written, with the bytes that are still to come, is the run.
use Rattle.std.proofs.Common.{◌≡◌, ◌++◌, ◌-◌, ◌≤◌, length, take, drop}
use Rattle.source.proofs.runs.copy_bytes.Given as goal

abbrev pub invariant-loop-k : goal.invariant-loop-k
invariant-loop-k l =
    record {
      within : l.k ≤ length l.slots;
      same : length l.run ≡ length l.slots;
      bytes : take l.k l.slots ++ drop l.k l.run ≡ l.run;
    }

abbrev pub decreases-loop-k : goal.decreases-loop-k
decreases-loop-k l = length l.slots - l.k
