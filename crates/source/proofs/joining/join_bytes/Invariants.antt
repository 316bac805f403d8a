-- What is written, with what stays of the rest of the line, is what it was at first.
use Rattle.std.proofs.Common.{◌≡◌, ◌++◌, ◌-◌, ◌≤◌, length, take, map}
use Rattle.source.specs.Joining.{cut_of, byte_of, place_of}
use Rattle.source.specs.Staying.{staying}
use Rattle.source.proofs.joining.join_bytes.Given as goal

abbrev pub invariant-loop-i : goal.invariant-loop-i
invariant-loop-i g l =
    record {
      behind : l.k ≤ l.i;
      within : l.i ≤ length l.lines.text.now;
      text : take l.k l.text ++ map byte_of (staying (cut_of l.language) l.lines.text.now l.i) ≡ take l.at l.fn.text ++ map byte_of (staying (cut_of l.language) l.lines.text.now l.from);
      map : take l.k l.map ++ map place_of (staying (cut_of l.language) l.lines.text.now l.i) ≡ take l.at l.fn.map ++ map place_of (staying (cut_of l.language) l.lines.text.now l.from);
    }

abbrev pub decreases-loop-i : goal.decreases-loop-i
decreases-loop-i g l = l.stop - l.i
