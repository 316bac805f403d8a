-- `rulebook::index::NameIndex::last_named`: the slot tells of the last entry with the name's signature among those that are not passed yet.
use Rattle.bookform.specs.Format.{lead_of}
use Rattle.rulebook.proofs.Indexing.{Telling}
use Rattle.rulebook.proofs.index.NameIndex.last_named.Given as goal

abbrev pub invariant-loop-slot : goal.invariant-loop-slot
invariant-loop-slot l =
    let e = l.listed.entries in
    Telling (lead_of e.kind) e.first l.listed.book.now l.ignore_case l.name e.count l.slot

abbrev pub decreases-loop-slot : goal.decreases-loop-slot
decreases-loop-slot l = l.slot
