-- `Split::past_words`: a turn passes over a byte of a word or of white space, or over a literal or comment, and the split of what is left stays the same.
use Rattle.std.proofs.Common.{◌≡◌, ℕ, ◌≤◌, ◌+◌, ◌-◌, length}
use Rattle.code.specs.Code.{scan_at}
use Rattle.code.specs.Marks.{clean}
use Rattle.delimiter.specs.Split.{Splitting, split_from}
use Rattle.delimiter.specs.Cutting.{with_previous, clean_to}
use Rattle.delimiter.proofs.split.Split.past_words.Given as goal

abbrev pub invariant-loop-i : goal.invariant-loop-i
invariant-loop-i l = record {
  lower : l.from ≤ l.i;
  upper : l.i ≤ length l.text + 1;
  passed : clean l.self.style l.text l.from ≡ clean_to l.self.style l.text l.i;
  same : (room : ℕ) (st : Splitting) → split_from l.text l.self.separator l.self.angles room (with_previous l.before st) (scan_at l.self.style l.text l.from).codes
      ≡ split_from l.text l.self.separator l.self.angles room (with_previous l.last st) (scan_at l.self.style l.text l.i).codes;
}

abbrev pub decreases-loop-i : goal.decreases-loop-i
decreases-loop-i l = length l.text - l.i
