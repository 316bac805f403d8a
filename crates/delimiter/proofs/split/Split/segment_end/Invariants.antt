-- `Split::segment_end`: a turn takes one byte of code behind words, and the split of what is left stays the same.
use Rattle.std.proofs.Common.{◌≡◌, ℕ, ◌≤◌, ◌-◌, length}
use Rattle.code.specs.Code.{scan_at}
use Rattle.code.specs.Marks.{clean}
use Rattle.delimiter.specs.Split.{fresh, split_from}
use Rattle.delimiter.proofs.split.Split.segment_end.Given as goal

abbrev pub invariant-bytes : goal.invariant-bytes
invariant-bytes l = record {
  lower : l.from ≤ l.i;
  upper : l.i ≤ length l.text;
  waits : l.ternary ≤ l.i;
  passed : clean l.self.style l.text l.from ≡ clean l.self.style l.text l.i;
  same : (room : ℕ) → split_from l.text l.self.separator l.self.angles room (fresh l.before l.from) (scan_at l.self.style l.text l.from).codes
      ≡ split_from l.text l.self.separator l.self.angles room (record { stack = l.«open»; ternary = l.ternary; previous = l.previous; start = l.from }) (scan_at l.self.style l.text l.i).codes;
}

abbrev pub decreases-bytes : goal.decreases-bytes
decreases-bytes l = length l.text - l.i
