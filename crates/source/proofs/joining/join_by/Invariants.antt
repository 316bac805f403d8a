-- What is written, with what stays of the rest of the line, is the whole.
use Rattle.std.proofs.Common.{◌≡◌, ◌++◌, ◌-◌, ◌<◌, ◌≤◌, length, take, map}
use Rattle.source.specs.Joining.{cut_of, byte_of, place_of}
use Rattle.source.specs.Staying.{staying}
use Rattle.source.proofs.joining.join_by.Given as goal

abbrev pub invariant-loop-i : goal.invariant-loop-i
invariant-loop-i g l =
    record {
      behind : l.k ≤ l.i;
      step : (0 < l.step) × (l.step ≤ 32);
      within : l.i ≤ length l.line;
      text : take l.k l.text ++ map byte_of (staying (cut_of l.language) l.line l.i) ≡ map byte_of (staying (cut_of l.language) l.line 0);
      map : take l.k l.map ++ map place_of (staying (cut_of l.language) l.line l.i) ≡ map place_of (staying (cut_of l.language) l.line 0);
    }

abbrev pub decreases-loop-i : goal.decreases-loop-i
decreases-loop-i g l = length l.line - l.i
