-- `code::block_end`: the end that is left to find stays the same.
use Rattle.std.proofs.Common.{◌≡◌, drop}
use Rattle.code.specs.Code.{more, block_end}
use Rattle.code.proofs.code.block_end.Given as goal

abbrev pub invariant-loop-i : goal.invariant-loop-i
invariant-loop-i l = more l.i (block_end (drop l.i l.text)) ≡ more l.from (block_end (drop l.from l.text))
