-- `Spot<8>::mixed_octet`: a place more is the lowest mark.
use Rattle.std.proofs.Common.{◌≡◌, ◌+◌, ◌*◌, ◌-◌, ◌<◌, ◌≤◌, ℕ, List, refl, ◌∙◌, arith}
use Rattle.code.specs.declared.CommentStyle.{CommentStyle}
use Rattle.code.specs.Marks.{marks_from}
use Rattle.code.proofs.MarkLaws.{mark, mark-is, marks-one, marks-fit, flags-one}
use Rattle.code.proofs.marks.Spot+8.mixed_octet.Goals as goal

-- the marks with that of the place before, which fit their number
module _ (style : CommentStyle) (s : List ℕ) (at k bits : ℕ) (h : 0 < k) (g : k ≤ 8) (e : bits ≡ marks_from style s (at + k) (8 - k)) where
  packed : (b : ℕ) → b ≡ mark style s (at + (k - 1)) → bits * 2 + b ≡ marks_from style s (at + (k - 1)) (8 - (k - 1))
  packed b f =
      let n : 8 - (k - 1) ≡ 8 - k + 1 = omega arith in
      let m : at + (k - 1) + 1 ≡ at + k = omega arith in
      rw n (marks-one style s (at + (k - 1)) (8 - k) bits b (rw m e) f)

  fits : (b : ℕ) → b ≡ mark style s (at + (k - 1)) → bits * 2 + b < 4294967296
  fits b f = omega (arith, packed b f, marks-fit style s (8 - (k - 1)) (at + (k - 1)) (omega arith))

pub invariant_of-spot : goal.invariant_of-spot
invariant_of-spot c =
    let e : c.args.self.now.at + (c.loop-k.k - 1) + 1 ≡ c.args.self.now.at + c.loop-k.k = omega arith in
    record { known = rw e c.loop-k.invariant.flags }

pub overflow_mul-bits : goal.overflow_mul-bits
overflow_mul-bits c =
    let i = c.loop-k.invariant in
    omega (arith, fits _ _ _ _ _ c.loop-k-test.true i.upper i.marks _ refl)

pub overflow_add-bits : goal.overflow_add-bits
overflow_add-bits c =
    let i = c.loop-k.invariant in
    omega (arith, fits _ _ _ _ _ c.loop-k-test.true i.upper i.marks _ (c.from.ensures ∙ mark-is _ _ _ _ c.flags-here.ensures))

pub loop-k-preserved : goal.loop-k-preserved
loop-k-preserved c =
    let m = c.args.self.now in
    let i = c.loop-k.invariant in
    let e : m.at + (c.loop-k.k - 1) + 1 ≡ m.at + c.loop-k.k = omega arith in
    record {
      upper = omega arith;
      flags = rw (c.flags-here.ensures, flags-one m.code.style m.code.text.now (m.at + (c.loop-k.k - 1)) c.loop-k.near (rw e i.flags)) refl;
      marks = packed _ _ _ _ _ c.loop-k-test.true i.upper i.marks _ (c.from.ensures ∙ mark-is _ _ _ _ c.flags-here.ensures);
    }
