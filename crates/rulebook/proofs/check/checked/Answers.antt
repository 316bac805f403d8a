-- `rulebook::checked`: a fault of the form is the book's.
use Rattle.std.proofs.Common.{sym, ◌∙◌, refl}
use Rattle.rulebook.proofs.Indexes.{fault-form}
use Rattle.rulebook.proofs.check.checked.Goals as goal

pub returns-in-Some : goal.returns-in-Some
returns-in-Some c = rw c.at.ensures (refl, fault-form c.args.book.now c.in-Some.place (sym c.first_bad.ensures ∙ c.in-Some.is))
