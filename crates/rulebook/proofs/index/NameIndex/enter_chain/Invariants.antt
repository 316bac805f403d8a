-- `rulebook::index::NameIndex::enter_chain`: the slot tells of the last earlier entry with the name's signature among those that are not asked yet.
use Rattle.std.proofs.Common.{true, ◌≤◌}
use Rattle.bookform.specs.Format.{lead_of}
use Rattle.rulebook.proofs.Indexing.{Telling}
use Rattle.rulebook.proofs.index.NameIndex.enter_chain.Given as goal

abbrev pub invariant-loop-behind : goal.invariant-loop-behind
invariant-loop-behind l =
    let e = l.earlier.entries in
    record {
      upper_bound : l.asked ≤ 8;
      telling : Telling (lead_of e.kind) e.first l.earlier.book.now true l.name e.count l.behind;
    }

abbrev pub decreases-loop-behind : goal.decreases-loop-behind
decreases-loop-behind l = l.behind
