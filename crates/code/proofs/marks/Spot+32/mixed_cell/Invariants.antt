-- `Spot<32>::mixed_cell`: what is packed are the marks from the place on, and the flags are those there.
use Rattle.std.proofs.Common.{◌≡◌, ◌+◌, ◌*◌, ◌-◌, ◌≤◌}
use Rattle.code.specs.Marks.{near_at, marks_from}
use Rattle.code.proofs.marks.Spot+32.mixed_cell.Given as goal

abbrev pub invariant-loop-k : goal.invariant-loop-k
invariant-loop-k l = record {
  upper : l.k ≤ 4;
  flags : l.near ≡ near_at l.self.code.style l.self.code.text.now (l.self.at + 8 * l.k);
  marks : l.bits ≡ marks_from l.self.code.style l.self.code.text.now (l.self.at + 8 * l.k) (32 - 8 * l.k);
}
