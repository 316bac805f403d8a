-- `rulebook::names::Listed::first`: where entries lie inside a book, fewer of them do.
use Rattle.bookform.specs.Format.{lead_of}
use Rattle.rulebook.proofs.Laying.{laid-fewer}
use Rattle.rulebook.proofs.names.Listed.first.Goals as goal

pub invariant_of-result : goal.invariant_of-result
invariant_of-result c =
    let s = c.args.self in
    record { laid = laid-fewer (lead_of s.entries.kind) s.book.now c.args.count s.entries.count s.entries.first c.requires s.laid }
