-- `sequence_answer` meets its contract: the verdicts on text and book, and then the clauses counted from the start on.
use Rattle.std.proofs.Common.{◌∙◌, ap, sym, arith}
use Rattle.std.proofs.lemmas.Result.{err_from_is_err_and, MatchResult-at_ok, MatchResult-at_err}
use Rattle.refusal.specs.Answer.{given, and_then}
use Rattle.refusal.proofs.Admission.{admits-length}
use Rattle.clause.specs.Calls.{counted, sequence_call}
use Rattle.clause.specs.Steps.{read_on}
use Rattle.clause.proofs.Starting.{started-at, answer-read, answer-refused, answer-wrong}
use Rattle.clause.proofs.many.sequence_answer.Goals as goal

pub returns-in_err-check_text : goal.returns-in_err-check_text
returns-in_err-check_text c =
    let p = err_from_is_err_and c.from_residual.result c.from_residual.ensures.1 in
    rw (p.1, p.2) (λ bytes j. answer-refused bytes c.args.text.now c.args.slots _ (sym c.in_err-check_text.ensures))

pub count_clauses-requires : goal.count_clauses-requires
count_clauses-requires c =
    let t = c.args.text.now in
    rw c.start_at-start.ensures (started-at c.in-Ok.book.bytes.now t c.args.slots 0 (admits-length t (sym c.in_ok-check_text.ensures)) (omega arith))

pub returns-in-Ok : goal.returns-in-Ok
returns-in-Ok c = λ bytes j.
    let b = c.in-Ok.book in
    let t = c.args.text.now in
    let n = c.args.slots in
    c.count_clauses.ensures
    ∙ ap (λ s. and_then (read_on b.bytes.now t s) (λ q. given (counted q))) c.start_at-start.ensures
    ∙ answer-read b.bytes.now t n (sym c.in_ok-check_text.ensures) b.valid
    ∙ ap (λ z. (sequence_call z t n).answer) (MatchResult-at_ok _ _ b c.in-Ok.is j)

pub returns-in-Err : goal.returns-in-Err
returns-in-Err c = λ bytes j.
    let h = MatchResult-at_err _ _ c.in-Err.refusal c.in-Err.is j in
    answer-wrong bytes c.args.text.now c.args.slots c.in-Err.refusal (sym c.in_ok-check_text.ensures) h.0 h.1
