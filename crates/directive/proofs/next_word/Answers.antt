-- `next_word` meets its contract: trivia first, then a word, then whether the candidate may grow.
use Rattle.std.proofs.Common.{sym, ◌∙◌}
use Rattle.std.specs.Prelude.{Ok, Err}
use Rattle.std.proofs.lemmas.Result.{err_from_is_err_and}
use Rattle.rulebook.specs.Book.{book_of}
use Rattle.directive.proofs.Naming.{next-is}
use Rattle.rulebook.proofs.Finding.{book-case}
use Rattle.directive.proofs.next_word.Goals as goal
use Rattle.directive.proofs.next_word.Goals.{else-starts_word-via-then-starts_word+else-may_grow, else-starts_word-via-else-starts_word}

pub returns-in_err-place-clause-value_2 : goal.returns-in_err-place-clause-value_2
returns-in_err-place-clause-value_2 c =
    let b = c.args.book.now in
    let n = next-is (book_of b.bytes.now) c.args.text.now c.args.end c.args.candidate.now (Err c.in_err-place.field-0.0)
    (rw (book-case b.bytes.now b.header b.header_read) (sym c.skip.ensures.value ∙ c.in_err-place.was)) in
    let p = err_from_is_err_and c.from_residual.result c.from_residual.ensures.1 in
    rw (p.1, p.2) (sym n)

pub returns-then-may_grow-clause-value_2 : goal.returns-then-may_grow-clause-value_2
returns-then-may_grow-clause-value_2 c =
    let b = c.args.book.now in
    let n = next-is (book_of b.bytes.now) c.args.text.now c.args.end c.args.candidate.now (Ok c.in_ok-place.place) (rw (book-case b.bytes.now b.header b.header_read) (sym c.skip.ensures.value ∙ c.in_ok-place.was)) in
    sym (n ∙ rw (← c.starts_word.ensures, c.if-starts_word.true, ← c.may_grow.ensures.value_2, c.if-may_grow.true))

pub returns-else-starts_word-clause-value_2 : goal.returns-else-starts_word-clause-value_2
returns-else-starts_word-clause-value_2 c =
    let b = c.args.book.now in
    let n = next-is (book_of b.bytes.now) c.args.text.now c.args.end c.args.candidate.now (Ok c.in_ok-place.place) (rw (book-case b.bytes.now b.header b.header_read) (sym c.skip.ensures.value ∙ c.in_ok-place.was)) in
    elim c.else-starts_word.branch [
      | else-starts_word-via-then-starts_word+else-may_grow w ↦ sym (n ∙ rw (← c.starts_word.ensures, w.if-starts_word.true, ← w.may_grow.ensures.value_2, w.if-may_grow.false))
      | else-starts_word-via-else-starts_word w ↦ sym (n ∙ rw (← c.starts_word.ensures, w.if-starts_word.false))
    ]
