-- `rulebook::lookup::FormedBook::directives`: the form of the book has the header inside it.
use Rattle.std.proofs.Common.{arith}
use Rattle.rulebook.specs.Book.{header_of}
use Rattle.rulebook.proofs.Forms.{form-long}
use Rattle.rulebook.proofs.lookup.FormedBook.directives.Goals as goal

pub bounds-self-7 : goal.bounds-self-7
bounds-self-7 c = omega (arith, form-long _ c.args.self.has_form)

pub returns : goal.returns
unfolding header_of
returns c = rw c.from.ensures
