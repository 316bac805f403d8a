-- `lex_name` meets its contract: trivia first, then the search from the place behind it.
use Rattle.std.proofs.Common.{sym, ap, ◌∙◌}
use Rattle.std.proofs.lemmas.Result.{err_from_is_err_and}
use Rattle.refusal.specs.Answer.{told}
use Rattle.rulebook.specs.Book.{book_of}
use Rattle.directive.specs.Name.{named}
use Rattle.rulebook.proofs.Finding.{book-case}
use Rattle.directive.proofs.Naming.{name-open, name-past}
use Rattle.directive.proofs.lex_name.Goals as goal

pub returns-in_err-start-clause-result_value : goal.returns-in_err-start-clause-result_value
returns-in_err-start-clause-result_value c =
    let b = c.args.book.now in
    let p = err_from_is_err_and c.from_residual.result c.from_residual.ensures.1 in
    rw (p.1, p.2) (sym (name-open (book_of b.bytes.now) c.args.text.now c.args.at c.in_err-start.field-0.0
    (rw (book-case b.bytes.now b.header b.header_read) (sym c.skip.ensures.value ∙ c.in_err-start.was))))

pub returns-in_err-found-clause-result_value : goal.returns-in_err-found-clause-result_value
returns-in_err-found-clause-result_value c =
    let b = c.args.book.now in
    let p = err_from_is_err_and c.from_residual-in_err-found.result c.from_residual-in_err-found.ensures.1 in
    let e = sym (ap told c.in_err-found.was) ∙ c.search.ensures.result_value in
    rw (p.1, p.2) (ap (named c.in_ok-start.start) e ∙ sym (name-past (book_of b.bytes.now) c.args.text.now c.args.at c.in_ok-start.start
    (rw (book-case b.bytes.now b.header b.header_read) (sym c.skip.ensures.value ∙ c.in_ok-start.was))))

pub returns-clause-result_value : goal.returns-clause-result_value
returns-clause-result_value c =
    let b = c.args.book.now in
    let e = sym (ap told c.in_ok-found.was) ∙ c.search.ensures.result_value in
    ap (named c.in_ok-start.start) e ∙ sym (name-past (book_of b.bytes.now) c.args.text.now c.args.at c.in_ok-start.start
    (rw (book-case b.bytes.now b.header b.header_read) (sym c.skip.ensures.value ∙ c.in_ok-start.was)))
