-- `rulebook::repeats::repeat_among`: a new index has chains with no entry.
use Rattle.bookform.specs.Format.{lead_of}
use Rattle.rulebook.proofs.Laying.{lead-small}
use Rattle.rulebook.proofs.Indexing.{indexed-none}
use Rattle.rulebook.proofs.repeats.repeat_among.Goals as goal

pub enter_all-requires-clause-empty : goal.enter_all-requires-clause-empty
enter_all-requires-clause-empty c =
    let e = c.args.listed.entries in
    indexed-none (lead_of e.kind) e.first c.args.listed.book.now c.args.index.now (lead-small e.kind) c.requires.blank
