-- `rulebook::index::NameIndex::sorted_named`: the entry that a search finds is the only one that may have the name; where it finds none there is none.
use Rattle.std.proofs.Common.{sym, ◌∙◌}
use Rattle.bookform.specs.Format.{lead_of}
use Rattle.rulebook.proofs.Sorting.{missing, found-only}
use Rattle.rulebook.proofs.index.NameIndex.sorted_named.Goals as goal

pub returns-in_default : goal.returns-in_default
returns-in_default c =
    let e = c.args.listed.entries in
    sym (missing (lead_of e.kind) e.first c.args.listed.book.now c.requires.sorted c.requires.few c.args.ignore_case c.args.name.now _ c.in_default.ensures)

pub returns-then-same : goal.returns-then-same
returns-then-same c =
    let e = c.args.listed.entries in
    let h = rw c.told.ensures.name at (sym c.same.ensures ∙ c.if-same.true) in
    let f = found-only (lead_of e.kind) e.first c.args.listed.book.now c.requires.sorted c.requires.few c.args.ignore_case c.args.name.now c.in-Ok.place c.in-Ok.ensures.0 c.in-Ok.ensures.1 in
    rw c.told.ensures.entry (sym (rw h at f))

pub returns-else-same : goal.returns-else-same
returns-else-same c =
    let e = c.args.listed.entries in
    let h = rw c.told.ensures.name at (sym c.same.ensures ∙ c.if-same.false) in
    let f = found-only (lead_of e.kind) e.first c.args.listed.book.now c.requires.sorted c.requires.few c.args.ignore_case c.args.name.now c.in-Ok.place c.in-Ok.ensures.0 c.in-Ok.ensures.1 in
    sym (rw h at f)
