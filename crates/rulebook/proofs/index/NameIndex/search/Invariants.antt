-- `rulebook::index::NameIndex::search`: the names in the places below are before the name, those in the places from the upper bound on behind it,
-- and one of each shares with it the bytes that are counted.
use Rattle.std.proofs.Common.{ℕ, ◌<◌, ◌≤◌, ◌-◌, get_or}
use Rattle.bookform.specs.Format.{lead_of}
use Rattle.rulebook.specs.Order.{rank}
use Rattle.rulebook.specs.Index.{name_told}
use Rattle.rulebook.proofs.Sorting.{End}
use Rattle.rulebook.proofs.index.NameIndex.search.Given as goal

abbrev pub invariant-loop-low : goal.invariant-loop-low
invariant-loop-low l =
    let e = l.listed.entries in
    record {
      lower_bound : l.low ≤ l.high;
      upper_bound : l.high ≤ e.count;
      before : (i : ℕ) → i < l.low → rank (name_told (lead_of e.kind) e.first l.listed.book.now (get_or l.self.slots i 0)) < rank l.name;
      behind : (i : ℕ) → l.high ≤ i → i < e.count → rank l.name < rank (name_told (lead_of e.kind) e.first l.listed.book.now (get_or l.self.slots i 0));
      low_end : 0 < l.low_shared → End (lead_of e.kind) e.first l.listed.book.now l.self.slots l.name 0 l.low l.low_shared;
      high_end : 0 < l.high_shared → End (lead_of e.kind) e.first l.listed.book.now l.self.slots l.name l.high e.count l.high_shared;
    }

abbrev pub decreases-loop-low : goal.decreases-loop-low
decreases-loop-low l = l.high - l.low
