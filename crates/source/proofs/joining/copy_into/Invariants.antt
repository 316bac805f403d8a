-- What is written, with what stays of the rest of the content, is the whole.
use Rattle.std.proofs.Common.{◌≡◌, ◌++◌, ◌-◌, ◌≤◌, length, take, map}
use Rattle.source.specs.Joining.{any_cut, byte_of}
use Rattle.source.specs.Staying.{staying}
use Rattle.source.proofs.joining.copy_into.Given as goal

abbrev pub invariant-loop-i : goal.invariant-loop-i
invariant-loop-i l =
    record {
      behind : l.k ≤ l.i;
      within : l.i ≤ length l.content;
      copy : take l.k l.copy ++ map byte_of (staying any_cut l.content l.i) ≡ map byte_of (staying any_cut l.content 0);
      text : l.lines.text.now ≡ l.content;
    }

abbrev pub decreases-loop-i : goal.decreases-loop-i
decreases-loop-i l = length l.content - l.i
