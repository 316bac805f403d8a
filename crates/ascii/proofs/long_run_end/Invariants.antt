-- What is passed, with the run from there on, is the run from the start.
use Rattle.std.proofs.Common.{◌≡◌, ◌+◌, ◌-◌, ◌≤◌, length, drop}
use Rattle.ascii.specs.Text.{leading}
use Rattle.ascii.proofs.long_run_end.Given as goal

abbrev pub invariant-loop-i : goal.invariant-loop-i
invariant-loop-i g l =
    record {
      ordered : l.from ≤ l.i;
      within : l.i ≤ length l.text;
      run : l.i + leading g.S.ByteSet.holds (drop l.i l.text) ≡ l.from + leading g.S.ByteSet.holds (drop l.from l.text);
    }

abbrev pub decreases-loop-i : goal.decreases-loop-i
decreases-loop-i g l = length l.text - l.i
