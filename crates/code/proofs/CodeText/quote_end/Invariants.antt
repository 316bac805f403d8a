-- `CodeText::quote_end`: a turn passes over one byte, or two where the second is hidden, and the end that is left to find stays the same.
use Rattle.std.proofs.Common.{◌≡◌, ◌-◌, ◌+◌, ◌≤◌, length, drop}
use Rattle.code.specs.Code.{more, literal}
use Rattle.code.proofs.CodeText.quote_end.Given as goal

abbrev pub invariant-loop-i : goal.invariant-loop-i
invariant-loop-i l = record {
  lower : l.from ≤ l.i;
  upper : l.i ≤ length l.self.text.now + 1;
  same : more l.i (literal l.self.style l.q 0 (drop l.i l.self.text.now)) ≡ more l.from (literal l.self.style l.q 0 (drop l.from l.self.text.now));
}

abbrev pub decreases-loop-i : goal.decreases-loop-i
decreases-loop-i l = length l.self.text.now - l.i
