use Rattle.std.proofs.Common.{◌≡◌, ◌≤◌, ◌-◌, length}
use Rattle.code.specs.Code.{scan_at, onward}
use Rattle.delimiter.specs.Split.{next_solid}
use Rattle.delimiter.proofs.split.Split.next_solid.Given as goal

-- a turn passes over one byte of white space, and the solid byte that is left to find stays the same
abbrev pub invariant-loop-i : goal.invariant-loop-i
invariant-loop-i l =
    (l.i ≤ length l.text) × (next_solid (onward l.self.style l.text l.i) ≡ next_solid (scan_at l.self.style l.text l.from).codes)

abbrev pub decreases-loop-i : goal.decreases-loop-i
decreases-loop-i l = length l.text - l.i
