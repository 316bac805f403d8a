-- `rulebook::index::NameIndex::last_named`: the slot tells of an entry that has the name, or its link of the last one before it with the same signature.
use Rattle.std.proofs.Common.{sym, ◌∙◌, arith}
use Rattle.rulebook.proofs.Indexing.{told-entry, found-here, link-less, found-before, told-none}
use Rattle.rulebook.proofs.index.NameIndex.last_named.Goals as goal

pub told-requires : goal.told-requires
told-requires c = told-entry c.requires.few c.requires.chained c.loop-slot.invariant c.loop-slot-test.true

pub returns-then-same : goal.returns-then-same
returns-then-same c =
    let h = rw c.told.ensures.name at (sym c.same.ensures ∙ c.if-same.true) in
    rw c.told.ensures.entry (sym (found-here c.requires.few c.requires.chained c.loop-slot.invariant c.loop-slot-test.true h))

pub bounds-self-entry : goal.bounds-self-entry
bounds-self-entry c = rw c.told.ensures.entry (omega arith)

pub loop-slot-smaller : goal.loop-slot-smaller
loop-slot-smaller c = rw c.told.ensures.entry (link-less c.requires.few c.requires.chained c.loop-slot.invariant c.loop-slot-test.true)

pub loop-slot-preserved : goal.loop-slot-preserved
loop-slot-preserved c =
    let h = rw c.told.ensures.name at (sym c.same.ensures ∙ c.if-same.false) in
    rw c.told.ensures.entry (found-before c.requires.few c.requires.chained c.loop-slot.invariant c.loop-slot-test.true h)

pub returns : goal.returns
returns c = sym (told-none c.loop-slot.invariant c.loop-slot-test.false)
