-- `bookform::passing::entries_left`: a turn passes an entry, and the first bad byte is that of what is left.
use Rattle.std.proofs.Common.{◌≡◌, ℕ, ◌-◌, ◌≤◌, length, drop}
use Rattle.bookform.specs.Format.{bad_from}
use Rattle.bookform.specs.Standing.{waits}
use Rattle.bookform.proofs.passing.entries_left.Given as goal

abbrev pub invariant-loop-done : goal.invariant-loop-done
invariant-loop-done l =
    (l.first ≤ length l.book)
    × ((c : ℕ) → bad_from (waits l.entries.kind (l.entries.count - l.done) c) l.first (drop l.first l.book)
    ≡ bad_from (waits l.entries.kind l.entries.count c) l.entries.first (drop l.entries.first l.book))
