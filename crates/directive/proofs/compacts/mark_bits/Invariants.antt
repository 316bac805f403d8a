-- The places before the one at hand are marked.
use Rattle.std.proofs.Common.{◌≡◌, ◌||◌, ◌&&◌, ℕ, length, get_or, false}
use lib.Dec.{ltb}
use Rattle.directive.specs.Compacts.{has_bit}
use Rattle.directive.proofs.compacts.mark_bits.Given as goal

abbrev pub invariant-loop-place : goal.invariant-loop-place
invariant-loop-place l = record {
  long : length l.heads ≡ 129;
  marked : (n : ℕ) → get_or l.heads n false ≡ (get_or l.fn.heads n false || (ltb n l.place && has_bit l.bits n));
}
