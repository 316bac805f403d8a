-- `rulebook::CheckedBook::directive_book`: a valid book has the form, and of its two indexes that of the directives is handed out.
use Rattle.rulebook.proofs.Forms.{valid-form}
use Rattle.rulebook.proofs.CheckedBook.directive_book.Goals as goal

pub invariant_of-result : goal.invariant_of-result
invariant_of-result c =
    let b = c.args.self.now in
    record { in_range = b.in_range; has_form = valid-form _ b.valid; header_read = b.header_read; looked = rw b.header_read b.indexed.directives }
