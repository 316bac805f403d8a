-- `admitted` meets its contract: the verdict on the text, and then that on the book.
use Rattle.std.proofs.Common.{sym}
use Rattle.std.proofs.lemmas.Result.{err_from_is_err_and}
use Rattle.refusal.proofs.Admission.{admits-bad}
use Rattle.clause.proofs.Starting.{checked-admits}
use Rattle.clause.proofs.admitted.Goals as goal

pub returns-in_err-check_text : goal.returns-in_err-check_text
returns-in_err-check_text c =
    let p = err_from_is_err_and c.from_residual.result c.from_residual.ensures.1 in
    rw (p.1, p.2) (λ a. admits-bad c.args.text.now _ _ (sym c.in_err-check_text.ensures))

pub returns : goal.returns
returns c = checked-admits c.args.book.now c.args.text.now c.checked.result (sym c.in_ok-check_text.ensures) c.checked.ensures
