-- `rulebook::index::NameIndex::enter_sorted`: a search finds an entry that has the name, or where in the order the new one belongs.
use Rattle.std.proofs.Common.{sym, ◌∙◌, arith}
use mathlib.Core.Bool.{true≢false}
use Rattle.bookform.specs.Format.{lead_of}
use Rattle.rulebook.proofs.Sorting.{is-named, not-named, sorted-next}
use Rattle.rulebook.proofs.index.NameIndex.enter_sorted.Goals as goal

pub returns-in-Ok : goal.returns-in-Ok
returns-in-Ok c =
    let e = c.args.earlier.entries in
    let d = c.requires.indexed in
    is-named (lead_of e.kind) e.first c.args.earlier.book.now (d.order c.requires.sorted) d.few c.args.name.now _ c.in-Ok.ensures.0 c.in-Ok.ensures.1

pub returns-in-Err : goal.returns-in-Err
returns-in-Err c =
    let e = c.args.earlier.entries in
    let bs = c.args.earlier.book.now in
    let d = c.requires.indexed in
    let s = d.order c.requires.sorted in
    let u = c.insert.ensures.unchanged in (
      not-named (lead_of e.kind) e.first bs s d.few c.args.name.now _ c.in-Err.ensures,
      record {
        low = d.low;
        few = omega (arith, c.requires.next.few);
        chains = λ f. absurd (true≢false (sym c.requires.sorted ∙ sym u.1 ∙ f));
        order = λ f. sorted-next (lead_of e.kind) e.first bs e.count c.in-Err.place c.args.slot c.args.self.now.slots c.insert.new.self.slots c.args.name.now
            c.requires.next.few s c.in-Err.ensures c.insert.ensures.inserted c.requires.next.named c.requires.next.is;
      },
      u.1,
    )
