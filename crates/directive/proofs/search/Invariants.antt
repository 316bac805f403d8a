-- From each place that the loop comes to, with its candidate and its last name, the search gives what it gives from the first.
use Rattle.std.proofs.Common.{◌-◌, length}
use Rattle.directive.proofs.Searching.{Searched}
use Rattle.directive.proofs.search.Given as goal

abbrev pub invariant-loop-outlook : goal.invariant-loop-outlook
invariant-loop-outlook l = Searched l.book.bytes.now l.text l.from l.start l.place l.candidate l.outlook l.found

abbrev pub decreases-loop-outlook : goal.decreases-loop-outlook
decreases-loop-outlook l = length l.text - l.place
