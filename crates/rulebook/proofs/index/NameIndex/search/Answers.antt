-- `rulebook::index::NameIndex::search`: what the name in the middle is to the name, those on the one side of it are too; and what both ends share with
-- the name the middle shares too.
use Rattle.std.proofs.Common.{arith}
use Rattle.bookform.specs.Format.{lead_of}
use Rattle.rulebook.proofs.Sorting.{before-more, behind-more, middle-shared}
use Rattle.rulebook.proofs.index.NameIndex.search.Goals as goal

pub loop-low-preserved-in-Less : goal.loop-low-preserved-in-Less
loop-low-preserved-in-Less c =
    let e = c.args.listed.entries in
    let i = c.loop-low.invariant in
    let r = c.compare_from-order.ensures in
    let h = rw (c.in-Less.is, c.told.ensures.name) at r.order in
    record {
      lower_bound = omega arith;
      upper_bound = i.upper_bound;
      before = before-more (lead_of e.kind) e.first c.args.listed.book.now c.requires.sorted c.args.name.now _ (omega arith) h;
      behind = i.behind;
      low_end = λ o. record { place = _; from_on = omega arith; below = omega arith; is = rw c.told.ensures.name at r.shared };
      high_end = i.high_end;
    }

pub loop-low-preserved : goal.loop-low-preserved
loop-low-preserved c =
    let e = c.args.listed.entries in
    let i = c.loop-low.invariant in
    let r = c.compare_from-order.ensures in
    let h = rw (c.in-Greater.is, c.told.ensures.name) at r.order in
    record {
      lower_bound = omega arith;
      upper_bound = omega arith;
      before = i.before;
      behind = behind-more (lead_of e.kind) e.first c.args.listed.book.now c.requires.sorted c.args.name.now _ h;
      low_end = i.low_end;
      high_end = λ o. record { place = _; from_on = omega arith; below = omega arith; is = rw c.told.ensures.name at r.shared };
    }

pub compare_from-order-requires : goal.compare_from-order-requires
compare_from-order-requires c =
    let e = c.args.listed.entries in
    let i = c.loop-low.invariant in
    rw (c.told.ensures.name, c.min.ensures)
    (middle-shared (lead_of e.kind) e.first c.args.listed.book.now c.requires.sorted c.known_bytes.ensures c.args.name.now c.loop-low.low _ c.loop-low.high
    c.loop-low.low_shared c.loop-low.high_shared (omega arith) (omega arith) i.upper_bound i.low_end i.high_end)
