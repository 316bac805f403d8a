-- `rulebook::order::compare_from`: the names agree up to the place.
use Rattle.std.proofs.Common.{◌+◌}
use Rattle.rulebook.specs.Order.{Shared}
use Rattle.rulebook.proofs.order.compare_from.Given as goal

abbrev pub invariant-loop-i : goal.invariant-loop-i
invariant-loop-i l = Shared l.a l.b (l.from + l.i)
