-- `CodeText::fill_marks`: behind the text stand the flags of its end, and each cell takes those of the one behind it.
use Rattle.std.proofs.Common.{◌≡◌, ◌+◌, ◌*◌, ◌-◌, sym, arith}
use Rattle.code.proofs.MarkLaws.{near-past}
use Rattle.code.proofs.CodeText.fill_marks.Goals as goal

pub loop-k-init : goal.loop-k-init
loop-k-init c = record {
  upper = omega arith;
  flags = rw (c.past_end-end.ensures) (sym (near-past _ _ _ (omega arith)));
  cells = λ j h g. absurd (omega arith);
}

pub invariant_of-spot : goal.invariant_of-spot
invariant_of-spot c =
    let e : 32 * (c.loop-k.k - 1) + 32 ≡ 32 * c.loop-k.k = omega arith in
    record { known = rw e c.loop-k.invariant.flags }
