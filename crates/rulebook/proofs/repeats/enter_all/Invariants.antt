-- `rulebook::repeats::enter_all`: the entries that are left repeat, after those that are done, what all of them repeat, and the index tells of
-- those that are done.
use Rattle.std.proofs.Common.{◌≡◌, [], ◌+◌, ◌-◌, ◌*◌, ◌≤◌}
use Rattle.bookform.specs.Format.{lead_of}
use Rattle.rulebook.specs.Book.{Laid, names_from, entries_from, place_after}
use Rattle.rulebook.specs.Check.{repeat_from}
use Rattle.rulebook.specs.Index.{Indexed}
use Rattle.rulebook.proofs.repeats.enter_all.Given as goal

abbrev pub invariant-loop-number : goal.invariant-loop-number
invariant-loop-number g l =
    let e = l.listed.entries in
    let lead = lead_of e.kind in
    let bs = l.listed.book.now in
    let done = l.number-iterator.count in
    let left = e.count - done in
    record {
      can_next : (goal.iterator-loop-number g).can_next l.number-iterator;
      is_finite : (goal.iterator-loop-number g).is_finite l.number-iterator;
      within : done ≤ e.count;
      laid : Laid lead left l.at bs;
      names : l.number-iterator.iter ≡ names_from lead left l.at bs;
      place : l.at ≡ place_after lead done e.first bs;
      lower_bound : e.first ≤ l.at;
      upper_bound : l.at ≤ e.first + done * 257;
      indexed : Indexed lead e.first done bs l.index;
      form : l.index.sorted ≡ l.initial.index.sorted;
      repeats : repeat_from (entries_from lead done e.first bs) (entries_from lead left l.at bs) ≡ repeat_from [] (entries_from lead e.count e.first bs);
    }
