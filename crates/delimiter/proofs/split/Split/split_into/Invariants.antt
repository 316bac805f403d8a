-- `Split::split_into`: a turn writes one item, and the items that are written with those that remain stay the same.
use Rattle.std.proofs.Common.{◌≡◌, true, ◌+◌, ◌-◌, ◌/◌, ◌≤◌, [], length, take}
use Rattle.code.specs.Marks.{clean}
use Rattle.delimiter.specs.Cutting.{remaining, laid}
use Rattle.delimiter.proofs.split.Split.split_into.Given as goal

abbrev pub invariant-loop-from : goal.invariant-loop-from
invariant-loop-from l = record {
  slots : l.k ≤ l.room;
  upper : l.from ≤ length l.self.text.now + 1;
  empty : l.«open» ≡ [];
  passed : clean l.self.style l.self.text.now 0 ≡ clean l.self.style l.self.text.now l.from;
  same : clean l.self.style l.self.text.now 0 ≡ true → laid (take (l.k + l.k) l.items) (remaining l.self.style l.self.text.now l.self.separator l.self.angles (l.room - l.k) l.before l.from)
      ≡ laid [] (remaining l.self.style l.self.text.now l.self.separator l.self.angles (length l.fn.items / 2) 0 0);
}

abbrev pub decreases-loop-from : goal.decreases-loop-from
decreases-loop-from l = length l.self.text.now + 1 - l.from
