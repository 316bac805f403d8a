-- `bookform::passing::past_entries`: behind the header, then behind each kind of entries, the first bad byte is that of the whole.
use Rattle.std.proofs.Common.{◌≡◌, ◌∙◌, arith}
use Rattle.bookform.proofs.passing.past_entries.Goals as goal

pub returns-clause-book_value : goal.returns-clause-book_value
returns-clause-book_value c =
    let h = c.has_header.ensures c.if-not-has_header.false in
    let d = c.entries_left-directives in
    let none : d.result.count ≡ 0 = omega arith in
    rw c.clauses_left.ensures
    (c.entries_left-clauses.ensures.book_value 0
    ∙ rw none at (d.ensures.book_value c.from-c.result)
    ∙ rw (c.from.ensures, c.from-c.ensures) h.1)
