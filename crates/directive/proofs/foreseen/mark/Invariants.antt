-- What is marked, and what is left of the name, tell of each beginning of the letters what the whole name does.
use Rattle.std.proofs.Common.{◌-◌, drop, length}
use Rattle.directive.proofs.Marking.{Marked}
use Rattle.directive.proofs.foreseen.mark.Given as goal

abbrev pub invariant-loop-at : goal.invariant-loop-at
invariant-loop-at l = Marked l.name l.letters l.fn.heads l.heads l.place (drop l.at l.name)

abbrev pub decreases-loop-at : goal.decreases-loop-at
decreases-loop-at l = length l.name - l.at
