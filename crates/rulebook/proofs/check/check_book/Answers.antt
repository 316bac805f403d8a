-- `rulebook::check_book`: a book that was checked has no fault, and a refusal is at its fault.
use Rattle.std.proofs.Common.{◌≡◌, None, Err, ap}
use Rattle.std.proofs.lemmas.Result.{err_from_is_err_and}
use Rattle.rulebook.specs.Check.{book_fault, book_verdict}
use Rattle.rulebook.proofs.check.check_book.Goals as goal

pub returns-in_err-checked : goal.returns-in_err-checked
unfolding book_verdict
returns-in_err-checked c =
    let p = err_from_is_err_and c.from_residual.result c.from_residual.ensures.1 in
    rw (p.1, p.2, c.in_err-checked.ensures.1) (ap Err c.in_err-checked.ensures.0)

pub returns : goal.returns
unfolding book_verdict
returns c =
    let v : book_fault c.args.book.now ≡ None = rw c.in_ok-checked.ensures at c.in_ok-checked.field-0.valid in
    rw v
