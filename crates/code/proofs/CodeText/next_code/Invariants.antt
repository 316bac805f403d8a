-- `CodeText::next_code`: a turn passes over a literal or comment, and the code bytes of what is left stay the same.
use Rattle.std.proofs.Common.{◌≡◌, ◌-◌, ◌≤◌, length}
use Rattle.code.specs.Code.{scan_at}
use Rattle.code.proofs.CodeText.next_code.Given as goal

abbrev pub invariant-loop-i : goal.invariant-loop-i
invariant-loop-i l = record {
  lower : l.from ≤ l.i;
  upper : l.i ≤ length l.self.text.now;
  same : (scan_at l.self.style l.self.text.now l.i).codes ≡ (scan_at l.self.style l.self.text.now l.from).codes;
}

abbrev pub decreases-loop-i : goal.decreases-loop-i
decreases-loop-i l = length l.self.text.now - l.i
