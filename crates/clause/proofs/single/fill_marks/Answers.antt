-- `fill_marks` meets its contract: the literals and comments are those of the book's language.
use Rattle.rulebook.proofs.Finding.{book-case}
use Rattle.clause.proofs.single.fill_marks.Goals as goal

pub returns : goal.returns
returns c =
    let b = c.args.book.now in
    rw (book-case b.bytes.now b.header b.header_read) (rw c.style_of.ensures at c.fill_marks.ensures)
