-- `CodeText::match_nested`: a turn takes one bracket, and the match of what is left stays the same.
use Rattle.std.proofs.Common.{◌≡◌, ◌-◌, ◌≤◌, length, ◌∷◌, []}
use Rattle.code.specs.Code.{onward}
use Rattle.code.specs.Matching.{match_from}
use Rattle.code.proofs.CodeText.match_nested.Given as goal

abbrev pub invariant-loop-i : goal.invariant-loop-i
invariant-loop-i l = record {
  lower : l.first ≤ l.i;
  upper : l.i ≤ length l.self.text.now;
  same : match_from l.«open» (onward l.self.style l.self.text.now l.i) ≡ match_from (41 ∷ []) (onward l.self.style l.self.text.now l.first);
}

abbrev pub decreases-loop-i : goal.decreases-loop-i
decreases-loop-i l = length l.self.text.now - l.i
