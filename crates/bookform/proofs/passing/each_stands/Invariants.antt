-- `bookform::passing::each_stands`: a turn adds a byte to the run.
use Rattle.bookform.specs.Standing.{Behind}
use Rattle.bookform.proofs.passing.each_stands.Given as goal

abbrev pub invariant-loop-at : goal.invariant-loop-at
invariant-loop-at g l = Behind g.row.BETWEEN l.book l.start l.at
