-- `rulebook::lookup::FormedBook::header`: the form of the book has the header inside it.
use Rattle.std.proofs.Common.{arith}
use Rattle.rulebook.specs.Book.{header_of}
use Rattle.rulebook.proofs.Forms.{form-long}
use Rattle.rulebook.proofs.lookup.FormedBook.header.Goals as goal

pub bounds-self-5 : goal.bounds-self-5
bounds-self-5 c = omega (arith, form-long _ c.args.self.has_form)

pub bounds-self-6 : goal.bounds-self-6
bounds-self-6 c = omega (arith, form-long _ c.args.self.has_form)

pub returns : goal.returns
unfolding header_of
returns c = rw (c.rule_said.ensures, c.directives.ensures, c.clauses.ensures)
