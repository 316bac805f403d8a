-- `bookform::passing::all_stand`: a turn puts before the run the bytes that it asked.
use Rattle.std.proofs.Common.{◌-◌, ◌≤◌}
use Rattle.bookform.specs.Standing.{Behind}
use Rattle.bookform.proofs.passing.all_stand.Given as goal

abbrev pub invariant-loop-left : goal.invariant-loop-left
invariant-loop-left g l = (l.left ≤ l.end) × Behind g.row.BETWEEN l.book l.left l.end

abbrev pub decreases-loop-left : goal.decreases-loop-left
decreases-loop-left g l = l.left - l.start
