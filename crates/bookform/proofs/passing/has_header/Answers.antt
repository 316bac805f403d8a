-- `bookform::passing::has_header`: each byte leads to the next of the header, and behind the last one stands the count of clauses.
use Rattle.std.proofs.Common.{sym, ◌∙◌, arith}
use Rattle.bookform.proofs.Steps.{header-run, header-end}
use Rattle.bookform.proofs.passing.has_header.Goals as goal

pub returns : goal.returns
returns c h =
    let bs = c.args.book.now in
    (omega arith, sym (header-run bs (omega arith) 7 (omega arith) (rw (c.is_header.ensures, c.is_header-2.ensures, c.is_header-3.ensures, c.is_header-4.ensures, c.is_header-5.ensures, c.is_header-6.ensures, c.is_header-7.ensures, c.is_header-8.ensures) at h) ∙ header-end bs (omega arith)))
