-- `line_answer` meets its contract: the head as it is read, the clauses as they are counted, or the first that refuses.
use Rattle.std.proofs.Common.{length, sym, ap, ◌∙◌}
use Rattle.std.proofs.lemmas.Result.{err_from_is_err_and}
use Rattle.refusal.specs.Answer.{refused_by, told}
use Rattle.reader.proofs.Checking.{line-call, line-book}
use Rattle.reader.proofs.Settled.{within-refused, clauses-refused, clauses-counted}
use Rattle.reader.proofs.many.line_answer.Goals as goal

pub returns-in_err-check_fit : goal.returns-in_err-check_fit
returns-in_err-check_fit c = λ bytes j.
    let a = c.args in
    let p = err_from_is_err_and c.from_residual.result c.from_residual.ensures.1 in
    rw (p.1, p.2) (sym (within-refused a.dialect.language a.dialect.prefix bytes a.line.now a.slots (length a.text.now) (length a.map.now) a.slots c.in_err-check_fit.field-0.0
    (line-call a.dialect.language a.dialect.prefix bytes a.line.now (length a.text.now) (length a.map.now) a.slots c.in_err-check_fit.field-0.0 (sym c.check_fit.ensures ∙ c.in_err-check_fit.was))))

pub returns-in_err-head-in-Ok : goal.returns-in_err-head-in-Ok
returns-in_err-head-in-Ok c = λ bytes j.
    let a = c.args in
    let p = err_from_is_err_and c.from_residual-in_err-head-in-Ok.result c.from_residual-in_err-head-in-Ok.ensures.1 in
    let b = rw c.in-Ok.is at j in
    let h = rw c.in_err-head-in-Ok.was at c.head_of_fit.ensures in
    rw (p.1, p.2) (sym (within-refused a.dialect.language a.dialect.prefix bytes a.line.now a.slots (length a.text.now) (length a.map.now) a.slots c.in_err-head-in-Ok.field-0.0
    (rw (b, c.head_of_fit.auto.text, c.head_of_fit.auto.map) at h)))

pub count_clauses-requires : goal.count_clauses-requires
count_clauses-requires c = (rw c.in_ok-head-in-Ok.was at c.head_of_fit.ensures).heads.started

pub returns-in_err-end-in-Ok : goal.returns-in_err-end-in-Ok
returns-in_err-end-in-Ok c = λ bytes j.
    let a = c.args in
    let p = err_from_is_err_and c.from_residual-in_err-end-in-Ok.result c.from_residual-in_err-end-in-Ok.ensures.1 in
    let b = rw c.in-Ok.is at j in
    let h = rw c.in_ok-head-in-Ok.was at c.head_of_fit.ensures in
    let e = sym (ap told c.in_err-end-in-Ok.was) ∙ c.count_clauses.ensures in
    rw (p.1, p.2) (sym (within-refused a.dialect.language a.dialect.prefix bytes a.line.now a.slots (length a.text.now) (length a.map.now) a.slots c.in_err-end-in-Ok.field-0.0
    (rw (b, c.head_of_fit.auto.text, c.head_of_fit.auto.map) at (clauses-refused a.dialect.language a.dialect.prefix c.in-Ok.book.bytes.now a.line.now a.slots c.head_of_fit.new.text c.head_of_fit.new.map
    c.in_ok-head-in-Ok.head h c.in_err-end-in-Ok.field-0.0 e))))

pub returns-in_ok-end-in-Ok : goal.returns-in_ok-end-in-Ok
returns-in_ok-end-in-Ok c = λ bytes j.
    let a = c.args in
    let b = rw c.in-Ok.is at j in
    let h = rw c.in_ok-head-in-Ok.was at c.head_of_fit.ensures in
    let e = sym (ap told c.in_ok-end-in-Ok.was) ∙ c.count_clauses.ensures in
    rw c.reading.ensures
    (rw (b, c.head_of_fit.auto.text, c.head_of_fit.auto.map) at (clauses-counted a.dialect.language a.dialect.prefix c.in-Ok.book.bytes.now a.line.now a.slots c.head_of_fit.new.text c.head_of_fit.new.map
    c.in_ok-head-in-Ok.head h c.in_ok-end-in-Ok.end e))

pub returns-in-Err : goal.returns-in-Err
returns-in-Err c = λ bytes j.
    let a = c.args in
    let r = c.in-Err.refusal in
    let h = rw c.in-Err.is at j in
    sym (within-refused a.dialect.language a.dialect.prefix bytes a.line.now a.slots (length a.text.now) (length a.map.now) a.slots r
    (line-book a.dialect.language a.dialect.prefix bytes a.line.now (length a.text.now) (length a.map.now) a.slots r r.place (sym c.check_fit.ensures ∙ c.in_ok-check_fit.was) h.1 (ap refused_by (sym h.0))))
