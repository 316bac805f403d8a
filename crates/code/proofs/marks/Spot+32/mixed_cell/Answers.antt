-- `Spot<32>::mixed_cell`: eight places more are the lowest eight marks.
use Rattle.std.proofs.Common.{◌≡◌, ◌+◌, ◌*◌, ◌-◌, ◌<◌, ◌≤◌, ℕ, List, ap, refl, arith}
use Rattle.code.specs.declared.CommentStyle.{CommentStyle}
use Rattle.code.specs.declared.MarkBits.{MarkBits}
use Rattle.code.specs.Marks.{marks_from}
use Rattle.code.proofs.MarkLaws.{marks-eight, marks-fit}
use Rattle.code.proofs.marks.Spot+32.mixed_cell.Goals as goal

-- the marks with those of the eight places before, which fit their number
module _ (style : CommentStyle) (s : List ℕ) (at k bits : ℕ) (h : 0 < k) (g : k ≤ 4) (e : bits ≡ marks_from style s (at + 8 * k) (32 - 8 * k)) where
  packed : (b : ℕ) → b ≡ marks_from style s (at + 8 * (k - 1)) 8 → bits * 256 + b ≡ marks_from style s (at + 8 * (k - 1)) (32 - 8 * (k - 1))
  packed b f =
      let n : 32 - 8 * (k - 1) ≡ 8 + (32 - 8 * k) = omega arith in
      let m : at + 8 * (k - 1) + 8 ≡ at + 8 * k = omega arith in
      rw n (marks-eight style s (at + 8 * (k - 1)) (32 - 8 * k) bits b (rw m e) f)

  fits : (b : ℕ) → b ≡ marks_from style s (at + 8 * (k - 1)) 8 → bits * 256 + b < 4294967296
  fits b f = omega (arith, packed b f, marks-fit style s (32 - 8 * (k - 1)) (at + 8 * (k - 1)) (omega arith))

pub invariant_of-spot : goal.invariant_of-spot
invariant_of-spot c =
    let e : c.args.self.now.at + 8 * (c.loop-k.k - 1) + 8 ≡ c.args.self.now.at + 8 * c.loop-k.k = omega arith in
    record { known = rw e c.loop-k.invariant.flags }

pub overflow_mul-bits : goal.overflow_mul-bits
overflow_mul-bits c =
    let i = c.loop-k.invariant in
    omega (arith, fits _ _ _ _ _ c.loop-k-test.true i.upper i.marks _ refl)

pub overflow_add-bits : goal.overflow_add-bits
overflow_add-bits c =
    let i = c.loop-k.invariant in
    omega (arith, fits _ _ _ _ _ c.loop-k-test.true i.upper i.marks _ (ap (λ (m : MarkBits). m.bits) c.octet-eight.ensures))

pub loop-k-preserved : goal.loop-k-preserved
loop-k-preserved c =
    let i = c.loop-k.invariant in
    record {
      upper = omega arith;
      flags = ap (λ (m : MarkBits). m.near) c.octet-eight.ensures;
      marks = packed _ _ _ _ _ c.loop-k-test.true i.upper i.marks _ (ap (λ (m : MarkBits). m.bits) c.octet-eight.ensures);
    }
