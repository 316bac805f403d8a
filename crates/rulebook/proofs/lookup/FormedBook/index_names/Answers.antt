-- `rulebook::lookup::FormedBook::index_names`: the directives of the header repeat nothing, then its clauses; the index tells of both.
use Rattle.std.proofs.Common.{sym, ◌∙◌, refl, arith}
use Rattle.std.proofs.lemmas.Result.{err_from_is_err_and}
use Rattle.rulebook.specs.Book.{header_of}
use Rattle.rulebook.proofs.Finding.{header-directives, header-clauses}
use Rattle.rulebook.proofs.Indexes.{directives-fault, clauses-fault, count-directives, count-clauses, clauses-begin}
use Rattle.rulebook.proofs.lookup.FormedBook.index_names.Goals as goal

pub invariant_of-directives : goal.invariant_of-directives
invariant_of-directives c =
    let bs = c.args.self.bytes.now in
    record { laid = rw c.directives.ensures (header-directives bs (header_of bs) c.args.self.has_form refl) }

pub repeat_among-requires-clause-few : goal.repeat_among-requires-clause-few
repeat_among-requires-clause-few c =
    let bs = c.args.self.bytes.now in
    rw c.directives.ensures
    (omega (arith, count-directives bs (header_of bs) refl, c.args.self.in_range 7))

pub returns-in_err-end : goal.returns-in_err-end
returns-in_err-end c =
    let p = err_from_is_err_and c.from_residual.result c.from_residual.ensures.1 in
    let e = rw c.directives.ensures at c.in_err-end.ensures in
    rw (p.1, p.2) (e.0, directives-fault c.args.self.bytes.now c.args.self.has_form _ e.1)

pub clauses-requires : goal.clauses-requires
clauses-requires c =
    let bs = c.args.self.bytes.now in
    (rw c.directives.ensures at c.in_ok-end.ensures).2 ∙ sym (clauses-begin bs)

pub invariant_of-clauses : goal.invariant_of-clauses
invariant_of-clauses c =
    let bs = c.args.self.bytes.now in
    record { laid = rw c.clauses.ensures (header-clauses bs (header_of bs) c.args.self.has_form refl) }

pub repeat_among-requires-2-clause-few : goal.repeat_among-requires-2-clause-few
repeat_among-requires-2-clause-few c =
    let bs = c.args.self.bytes.now in
    rw c.clauses.ensures
    (omega (arith, count-clauses bs (header_of bs) refl, c.args.self.in_range 8))

pub returns-in_err-repeat_among : goal.returns-in_err-repeat_among
returns-in_err-repeat_among c =
    let p = err_from_is_err_and c.from_residual-in_err-repeat_among.result c.from_residual-in_err-repeat_among.ensures.1 in
    let d = rw c.directives.ensures at c.in_ok-end.ensures in
    let k = rw c.clauses.ensures at c.in_err-repeat_among.ensures in
    rw (p.1, p.2) (k.0, clauses-fault c.args.self.bytes.now c.args.self.has_form d.0 ∙ k.1)

pub returns : goal.returns
returns c =
    let d = rw c.directives.ensures at c.in_ok-end.ensures in
    let k = rw c.clauses.ensures at c.in_ok-repeat_among.ensures in (
      clauses-fault c.args.self.bytes.now c.args.self.has_form d.0 ∙ k.0,
      record { directives = record { told = d.1; single = d.0 }; clauses = record { told = k.1; single = k.0 } },
      d.2 ∙ sym (clauses-begin c.args.self.bytes.now),
    )
