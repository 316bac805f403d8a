-- Of `fill_records`: after so many turns the state is that of the definition, and so many slots are filled.
use Rattle.std.proofs.Common.{◌≡◌}
use Rattle.clause.specs.Steps.{state_at}
use Rattle.clause.proofs.Filling.{filled}
use Rattle.clause.proofs.ClauseList.fill_records.Given as goal

abbrev pub invariant-loop-i : goal.invariant-loop-i
invariant-loop-i l =
    (l.s ≡ state_at l.fn.self.book.now.bytes.now l.fn.self.text.now l.fn.start l.i)
    × (l.records ≡ filled l.fn.self.book.now.bytes.now l.fn.self.text.now l.fn.start l.fn.records l.i)
