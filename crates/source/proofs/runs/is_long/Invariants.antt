-- `is_long`: the bytes that were asked are all of the set, or not.
use Rattle.std.proofs.Common.{◌≡◌, take, drop}
use Rattle.std.specs.List.{list_all}
use Rattle.source.proofs.runs.is_long.Given as goal

abbrev pub invariant-loop-b : goal.invariant-loop-b
invariant-loop-b g l = l.all ≡ list_all g.S.ByteSet.holds (take l.b-index (drop l.from l.line))
