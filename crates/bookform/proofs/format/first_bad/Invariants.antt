-- `bookform::format::first_bad`: what is left of the book from the place on has the fault of the whole.
use Rattle.std.proofs.Common.{◌≡◌, drop}
use Rattle.bookform.specs.declared.Expect.TheVariants.{HeaderByte}
use Rattle.bookform.specs.Format.{bad_from}
use Rattle.bookform.proofs.format.first_bad.Given as goal

abbrev pub invariant-loop-at : goal.invariant-loop-at
invariant-loop-at l = bad_from l.expect l.at (drop l.at l.book) ≡ bad_from (HeaderByte 0) 0 l.book
