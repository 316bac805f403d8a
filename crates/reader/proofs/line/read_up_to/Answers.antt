-- `read_up_to` meets its contract: the first that refuses, or the clauses in their slots.
use Rattle.std.proofs.Common.{◌≡◌, ◌++◌, ◌+◌, ◌-◌, ◌≤◌, ℕ, List, arith, rules, length, take, replicate, sym, ap, ◌∙◌}
use Rattle.std.proofs.lemmas.Result.{err_from_is_err_and}
use borrow.Rule.Slice.PartMut.{put_mid}
use Rattle.ascii.proofs.Slots.{zeros-behind}
use Rattle.refusal.specs.Answer.{refused_by, told}
use Rattle.clause.specs.Calls.{SequenceCall}
use Rattle.reader.proofs.Checking.{line-call, line-book}
use Rattle.reader.proofs.Settled.{within-refused, clauses-refused, line-done}
use Rattle.reader.proofs.line.read_up_to.Goals as goal

-- all from a place on is zeroed that is the nth
zeros-from : (z : ℕ) (xs ys : List ℕ) (from n : ℕ) → from ≡ n → n ≤ length xs → ys ≡ replicate (length xs - from) z → put_mid from (length xs - from) xs ys ≡ take n xs ++ replicate (length xs - n) z
zeros-from z xs ys from n e h zeros = rw e (zeros-behind z xs ys n h (rw e at zeros))

pub returns-in_err-check_fit : goal.returns-in_err-check_fit
returns-in_err-check_fit c =
    let a = c.args in
    let p = err_from_is_err_and c.from_residual.result c.from_residual.ensures.1 in
    rw (p.1, p.2) (within-refused a.dialect.language a.dialect.prefix a.book.now a.line.now (length a.records.now) (length a.text.now) (length a.map.now) (length a.records.now) c.in_err-check_fit.field-0.0
    (line-call a.dialect.language a.dialect.prefix a.book.now a.line.now (length a.text.now) (length a.map.now) (length a.records.now) c.in_err-check_fit.field-0.0 (sym c.check_fit.ensures ∙ c.in_err-check_fit.was)))

pub returns-in_err-book : goal.returns-in_err-book
returns-in_err-book c =
    let a = c.args in
    let r = c.in_err-book.field-0.0 in
    let p = err_from_is_err_and c.from_residual-in_err-book.result c.from_residual-in_err-book.ensures.1 in
    let h = rw c.in_err-book.was at c.checked.ensures in
    rw (p.1, p.2) (within-refused a.dialect.language a.dialect.prefix a.book.now a.line.now (length a.records.now) (length a.text.now) (length a.map.now) (length a.records.now) r
    (line-book a.dialect.language a.dialect.prefix a.book.now a.line.now (length a.text.now) (length a.map.now) (length a.records.now) r r.place (sym c.check_fit.ensures ∙ c.in_ok-check_fit.was) h.1 (ap refused_by (sym h.0))))

pub returns-in_err-head : goal.returns-in_err-head
returns-in_err-head c =
    let a = c.args in
    let p = err_from_is_err_and c.from_residual-in_err-head.result c.from_residual-in_err-head.ensures.1 in
    let h = rw c.in_err-head.was at c.head_of_fit.ensures in
    let b = rw c.in_ok-book.was at c.checked.ensures in
    rw (p.1, p.2) (within-refused a.dialect.language a.dialect.prefix a.book.now a.line.now (length a.records.now) (length a.text.now) (length a.map.now) (length a.records.now) c.in_err-head.field-0.0
    (rw (b, c.head_of_fit.auto.text, c.head_of_fit.auto.map) at h))

pub read_clauses-requires-clause-short : goal.read_clauses-requires-clause-short
read_clauses-requires-clause-short c = (rw c.in_ok-head.was at c.head_of_fit.ensures).heads.short

pub read_clauses-requires-clause-started : goal.read_clauses-requires-clause-started
read_clauses-requires-clause-started c = (rw c.in_ok-head.was at c.head_of_fit.ensures).heads.started

pub returns-in_err-end : goal.returns-in_err-end
returns-in_err-end c =
    let a = c.args in
    let p = err_from_is_err_and c.from_residual-in_err-end.result c.from_residual-in_err-end.ensures.1 in
    let h = rw c.in_ok-head.was at c.head_of_fit.ensures in
    let b = rw c.in_ok-book.was at c.checked.ensures in
    let e = sym (ap told c.in_err-end.was) ∙ ap (λ (k : SequenceCall). k.answer) c.read_clauses.ensures in
    rw (p.1, p.2) (within-refused a.dialect.language a.dialect.prefix a.book.now a.line.now (length a.records.now) (length a.text.now) (length a.map.now) (length a.records.now) c.in_err-end.field-0.0
    (rw (b, c.head_of_fit.auto.text, c.head_of_fit.auto.map) at (clauses-refused a.dialect.language a.dialect.prefix c.in_ok-book.book.bytes.now a.line.now (length a.records.now) c.head_of_fit.new.text c.head_of_fit.new.map
    c.in_ok-head.head h c.in_err-end.field-0.0 e)))

pub returns : goal.returns
returns c =
    let a = c.args in
    let t = c.head_of_fit.new.text in
    let m = c.head_of_fit.new.map in
    let n = c.in_ok-head.head.length in
    let h = rw c.in_ok-head.was at c.head_of_fit.ensures in
    let b = rw c.in_ok-book.was at c.checked.ensures in
    let e = rw c.in_ok-end.was at c.read_clauses.ensures in
    let l : n + 1 ≤ length m = omega (arith, h.within.1) in
    rw c.reading.ensures
    (line-done a.dialect.language a.dialect.prefix c.in_ok-book.book.bytes.now a.line.now (length a.records.now) t m c.in_ok-head.head h (length a.records.now) (length a.text.now) (length a.map.now) a.book.now _ _
    c.read_clauses.new.records c.in_ok-end.end b c.head_of_fit.auto.text c.head_of_fit.auto.map e (zeros-from 0 t c.fill.new.self _ n (omega (arith, h.within.0)) h.within.0 (search rules)) (zeros-behind 0 m c.fill-2.new.self (n + 1) l (search rules)))
