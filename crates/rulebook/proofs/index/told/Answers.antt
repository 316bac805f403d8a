-- `rulebook::index::told`: the name of an entry lies inside the book.
use Rattle.std.proofs.Common.{arith}
use Rattle.rulebook.proofs.Indexing.{inside-told}
use Rattle.rulebook.proofs.index.told.Goals as goal

pub overflow_add-entry : goal.overflow_add-entry
overflow_add-entry c = omega (arith, inside-told c.requires c.args.listed.laid)

pub name_at-range-requires : goal.name_at-range-requires
name_at-range-requires c = rw c.lead.ensures (inside-told c.requires c.args.listed.laid)

pub slice_bounds-result-end : goal.slice_bounds-result-end
slice_bounds-result-end c = rw (c.name_at-range.ensures, c.lead.ensures) (omega (arith, inside-told c.requires c.args.listed.laid))
