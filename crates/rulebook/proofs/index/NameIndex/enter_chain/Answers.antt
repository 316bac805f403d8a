-- `rulebook::index::NameIndex::enter_chain`: one of those on its chain has the name, or else it is put before them.
use Rattle.std.proofs.Common.{sym, ◌∙◌, refl, ap, arith}
use Rattle.ascii.specs.Ascii.{fold}
use Rattle.bookform.specs.Format.{lead_of}
use Rattle.rulebook.specs.Signature.{signature}
use Rattle.rulebook.proofs.Repeating.{is_found}
use Rattle.rulebook.proofs.Indexing.{told-entry, found-here, link-less, found-before, told-none, indexed-next}
use Rattle.rulebook.proofs.LastNamed.{named-last}
use Rattle.rulebook.proofs.index.NameIndex.enter_chain.Goals as goal

pub told-requires : goal.told-requires
told-requires c =
    let d = c.requires.indexed in
    told-entry d.few (d.chains c.requires.chains) c.loop-behind.invariant.telling c.loop-behind-test.true

pub returns-then-same : goal.returns-then-same
returns-then-same c =
    let e = c.args.earlier.entries in
    let d = c.requires.indexed in
    let h = rw c.told.ensures.name at (sym c.same.ensures ∙ c.if-same.true) in
    named-last (lead_of e.kind) e.first c.args.earlier.book.now fold c.args.name.now e.count
    ∙ ap is_found (found-here d.few (d.chains c.requires.chains) c.loop-behind.invariant.telling c.loop-behind-test.true h)

pub bounds-self-entry : goal.bounds-self-entry
bounds-self-entry c = rw c.told.ensures.entry (omega arith)

pub loop-behind-smaller : goal.loop-behind-smaller
loop-behind-smaller c =
    let d = c.requires.indexed in
    rw c.told.ensures.entry (link-less d.few (d.chains c.requires.chains) c.loop-behind.invariant.telling c.loop-behind-test.true)

pub loop-behind-preserved : goal.loop-behind-preserved
loop-behind-preserved c =
    let d = c.requires.indexed in
    let h = rw c.told.ensures.name at (sym c.same.ensures ∙ c.if-same.false) in
    record {
      upper_bound = omega arith;
      telling = rw c.told.ensures.entry (found-before d.few (d.chains c.requires.chains) c.loop-behind.invariant.telling c.loop-behind-test.true h);
    }

pub returns : goal.returns
returns c =
    let e = c.args.earlier.entries in
    let d = c.requires.indexed in (
      named-last (lead_of e.kind) e.first c.args.earlier.book.now fold c.args.name.now e.count ∙ ap is_found (told-none c.loop-behind.invariant.telling c.loop-behind-test.false),
      rw c.requires.next.is
          (indexed-next (lead_of e.kind) e.first c.args.earlier.book.now c.args.self.now e.count c.signature-mark.result c.requires.next.few (omega arith) (omega arith)
          c.signature-mark.ensures.upper_bound (c.signature-mark.ensures.value ∙ ap signature c.requires.next.named) (d.chains c.requires.chains) d.low c.requires.chains),
      refl,
    )
