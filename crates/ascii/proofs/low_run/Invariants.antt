-- What is passed, with the run from there on, is the run of the whole text.
use Rattle.std.proofs.Common.{◌≡◌, ◌+◌, ◌-◌, ◌≤◌, length, drop}
use Rattle.ascii.specs.Ascii.{is_low}
use Rattle.ascii.specs.Text.{leading}
use Rattle.ascii.proofs.low_run.Given as goal

abbrev pub invariant-loop-i : goal.invariant-loop-i
invariant-loop-i l =
    record {
      within : l.i ≤ length l.text;
      run : l.i + leading is_low (drop l.i l.text) ≡ leading is_low l.text;
    }

abbrev pub decreases-loop-i : goal.decreases-loop-i
decreases-loop-i l = length l.text - l.i
