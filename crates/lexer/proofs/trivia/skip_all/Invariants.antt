-- Of `skip_all`: skipping from each place that the loop comes to gives what it gives from the first.
use Rattle.std.proofs.Common.{◌≡◌, ◌-◌, ◌≤◌, length, drop}
use Rattle.lexer.specs.Trivia.{skip_from, skip}
use Rattle.lexer.proofs.trivia.skip_all.Given as goal

abbrev pub invariant-loop-i : goal.invariant-loop-i
invariant-loop-i l = (l.at ≤ l.i) × (l.i ≤ length l.text) × (skip_from l.fortran 0 l.i (drop l.i l.text) ≡ skip l.fortran l.text l.at)

abbrev pub decreases-loop-i : goal.decreases-loop-i
decreases-loop-i l = length l.text - l.i
