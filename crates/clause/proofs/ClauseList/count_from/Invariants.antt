-- Of `count_from`: after so many turns the state is that of the definition.
use Rattle.std.proofs.Common.{◌≡◌}
use Rattle.clause.specs.Steps.{state_at}
use Rattle.clause.proofs.ClauseList.count_from.Given as goal

abbrev pub invariant-loop : goal.invariant-loop
invariant-loop l = l.s ≡ state_at l.fn.self.book.now.bytes.now l.fn.self.text.now l.fn.start l.counter
