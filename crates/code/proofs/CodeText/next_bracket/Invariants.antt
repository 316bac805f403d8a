-- `CodeText::next_bracket`: a turn passes over what changes no match, so that the match of what is left stays the same, whatever brackets are open.
use Rattle.std.proofs.Common.{◌≡◌, ◌-◌, ◌≤◌, ℕ, List, length, false}
use Rattle.code.specs.Bracket.{is_empty}
use Rattle.code.specs.Code.{scan_at}
use Rattle.code.specs.Matching.{match_from}
use Rattle.code.proofs.CodeText.next_bracket.Given as goal

abbrev pub invariant-loop-i : goal.invariant-loop-i
invariant-loop-i l = record {
  lower : l.from ≤ l.i;
  upper : l.i ≤ length l.self.text.now;
  same : (stack : List ℕ) → is_empty stack ≡ false →
      match_from stack (scan_at l.self.style l.self.text.now l.from).codes ≡ match_from stack (scan_at l.self.style l.self.text.now l.i).codes;
}

abbrev pub decreases-loop-i : goal.decreases-loop-i
decreases-loop-i l = length l.self.text.now - l.i
