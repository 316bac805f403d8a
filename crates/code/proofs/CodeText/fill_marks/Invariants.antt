-- `CodeText::fill_marks`: the cells from one on hold their marks, and the flags are those of its first place.
use Rattle.std.proofs.Common.{◌≡◌, ℕ, ◌+◌, ◌*◌, ◌/◌, ◌≤◌, length, get_or}
use Rattle.code.specs.Marks.{near_at, marks_from}
use Rattle.code.proofs.CodeText.fill_marks.Given as goal

abbrev pub invariant-loop-k : goal.invariant-loop-k
invariant-loop-k l = record {
  upper : l.k ≤ length l.self.text.now / 32 + 1;
  flags : l.near ≡ near_at l.self.style l.self.text.now (32 * l.k);
  cells : (j : ℕ) → l.k ≤ j → j ≤ length l.self.text.now / 32 → get_or l.marks j 0 ≡ marks_from l.self.style l.self.text.now (32 * j) 32;
}
