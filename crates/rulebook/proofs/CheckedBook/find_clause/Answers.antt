-- `rulebook::CheckedBook::find_clause`: what is found among the clause entries is the entry of the definition.
use Rattle.std.proofs.Common.{sym, ◌∙◌, refl, arith}
use Rattle.rulebook.specs.Book.{header_of}
use Rattle.rulebook.proofs.Forms.{valid-form}
use Rattle.rulebook.proofs.Finding.{header-clauses, clause-found, entry_found, entry-missing}
use Rattle.rulebook.proofs.Indexes.{count-clauses}
use Rattle.rulebook.proofs.CheckedBook.find_clause.Goals as goal

pub invariant_of-listed : goal.invariant_of-listed
invariant_of-listed c =
    let b = c.args.self.now in
    record { laid = header-clauses _ _ (valid-form _ b.valid) b.header_read }

pub overflow_cast-result : goal.overflow_cast-result
overflow_cast-result c =
    let b = c.args.self.now in
    omega (arith, b.indexed.clauses.told.few, count-clauses b.bytes.now (header_of b.bytes.now) refl, clause-found _ _ b.header.default_rule _ _ _ (valid-form _ b.valid) b.header_read (sym c.look_up.ensures ∙ c.in-Some.is))

pub bounds-self-found : goal.bounds-self-found
bounds-self-found c =
    let b = c.args.self.now in
    (clause-found _ _ b.header.default_rule _ _ _ (valid-form _ b.valid) b.header_read (sym c.look_up.ensures ∙ c.in-Some.is)).0

pub returns-in-Some : goal.returns-in-Some
returns-in-Some c =
    let b = c.args.self.now in
    rw c.rule_said.ensures (sym (entry_found _ _ b.header_read _ (valid-form _ b.valid) _ (sym c.look_up.ensures ∙ c.in-Some.is)))

pub returns-in-None : goal.returns-in-None
returns-in-None c =
    let b = c.args.self.now in
    sym (entry-missing _ _ b.header_read _ (sym c.look_up.ensures ∙ c.in-None.is))
