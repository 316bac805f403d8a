-- `head_of` meets its contract: without a name it is refused, behind one the clauses start.
use Rattle.std.proofs.Common.{refl, sym, ap, ◌∙◌}
use Rattle.std.proofs.lemmas.Result.{err_from_is_err_and}
use Rattle.refusal.specs.Answer.{told}
use Rattle.rulebook.specs.Book.{book_of}
use Rattle.reader.proofs.Headed.{name-ends, heads-refused, heads-found}
use Rattle.reader.proofs.heading.head_of.Goals as goal

pub returns-in_err-name : goal.returns-in_err-name
returns-in_err-name c =
    let a = c.args in
    let p = err_from_is_err_and c.from_residual.result c.from_residual.ensures.1 in
    rw (p.1, p.2) (heads-refused a.book.now.bytes.now a.text.now a.dialect.language a.dialect.prefix a.slots c.in_err-name.field-0.0 (sym (ap told c.in_err-name.was) ∙ c.read_name.ensures))

pub start_at-requires : goal.start_at-requires
start_at-requires c =
    let a = c.args in
    name-ends (book_of a.book.now.bytes.now) a.dialect.language a.dialect.prefix a.slots a.text.now c.in_ok-name.name (sym (sym (ap told c.in_ok-name.was) ∙ c.read_name.ensures))

pub returns : goal.returns
returns c =
    let a = c.args in
    (refl, rw c.start_at.ensures (heads-found a.book.now.bytes.now a.text.now a.dialect.language a.dialect.prefix a.slots c.in_ok-name.name (sym (ap told c.in_ok-name.was) ∙ c.read_name.ensures) c.requires.short))
