-- `rulebook::lookup::FormedBook::clauses`: the form of the book has the header inside it.
use Rattle.std.proofs.Common.{arith}
use Rattle.rulebook.specs.Book.{header_of, clauses_of}
use Rattle.rulebook.proofs.Forms.{form-long}
use Rattle.rulebook.proofs.lookup.FormedBook.clauses.Goals as goal

pub bounds-self-8 : goal.bounds-self-8
bounds-self-8 c = omega (arith, form-long _ c.args.self.has_form)

pub returns : goal.returns
unfolding header_of clauses_of
returns c = rw c.from.ensures (rw c.requires)
