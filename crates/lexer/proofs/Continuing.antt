-- What crates above ask of continuations: that no text begins with both, and that there is none behind the last end of line. By cases of the bytes read.
use mathlib.Core.Path.{◌≡◌, refl}
use mathlib.Core.Bool.{Bool, true, false, cond}
use mathlib.Core.List.{List, reverse}
use Prim.Native.Nat.{ℕ, zero, suc, ◌+◌, ◌-◌, ◌<◌, ◌≤◌}
use native.Mathlib.Nat.{add-zero}
use native.Mathlib.Omega.{arith}
use lib.ListN.{length, drop, get_or, get_or-eq_default}
use lib.Seq.{get_or-drop, drop-drop}
use lib.Dec.{eqb, ltb}
use borrow.Author.Tests.{eqb-true, ltb-true, ltb-false}
use Rattle.std.specs.Prelude.{None, Some}
use Rattle.std.proofs.lemmas.Bool.{not-true}
use Rattle.ascii.specs.Ascii.{is_eol}
use Rattle.ascii.specs.Text.{leading, is_in_line}
use Rattle.ascii.proofs.Texts.{trailing_passes}
use Rattle.ascii.proofs.Flags.{or-none}
use Rattle.lexer.specs.Continuation.{if_any, eol, comment_f, ended, tailed, break_c, break_f, Unended}

-- a number that is answered, or is not
pub if_any-is : (n : ℕ) → 0 < n → if_any n ≡ Some n
if_any-is zero h = absurd (omega arith)
if_any-is (suc n) h = refl

pub if_any-none : (n : ℕ) → if_any n ≡ None → n ≡ 0
if_any-none zero e = refl
if_any-none (suc n) e = let z : ◌≡◌ {A = ℕ} 0 1 = cc in absurd (omega arith)

pub if_any-some : (n k : ℕ) → if_any n ≡ Some k → (n ≡ k) × (0 < k)
if_any-some zero k e = let z : ◌≡◌ {A = ℕ} 0 1 = cc in absurd (omega arith)
if_any-some (suc n) k e = let q : suc n ≡ k = cc in (q, omega arith)

-- no text begins with the continuations of both languages
pub one-break : (xs : List ℕ) → 0 < break_c xs → break_f xs ≡ 0
unfolding break_c break_f
one-break xs = go (eqb (get_or xs 0 0) 92) refl
  where
    go : (b : Bool) → eqb (get_or xs 0 0) 92 ≡ b → 0 < break_c xs → break_f xs ≡ 0
    go false e h = absurd (omega (arith, rw e at h))
    go true e h = simp (eqb-true (get_or xs 0 0) 92 e)

-- none behind the last end of line
pub unended-behind : (xs : List ℕ) → Unended xs (length xs - leading is_in_line (reverse xs))
unended-behind xs = record { none = λ j h. go j h (ltb j (length xs)) refl }
  where
    go : (j : ℕ) → length xs - leading is_in_line (reverse xs) ≤ j → (b : Bool) → ltb j (length xs) ≡ b → is_eol (get_or xs j 0) ≡ false
    go j h true e = not-true (is_eol (get_or xs j 0)) (trailing_passes is_in_line xs j h (ltb-true j (length xs) e))
    go j h false e = rw (get_or-eq_default xs 0 (ltb-false j (length xs) e))

-- where no line ends from a place on, there is no continuation from there on
module _ (xs : List ℕ) (from : ℕ) (u : Unended xs from) where
  eol-none : (i : ℕ) → from ≤ i → eol (drop i xs) ≡ 0
  unfolding eol
  eol-none i h =
      let b = or-none (eqb (get_or xs i 0) 10) (eqb (get_or xs i 0) 13) (u.none i h) in
      simp (get_or-drop, add-zero, b.0, b.1)

  ended-none : (at n : ℕ) → from ≤ at → ended (drop at xs) n ≡ 0
  ended-none at n h = rw (drop-drop n at xs, eol-none (at + n) (omega arith)) refl

  pub break-f-none : (at : ℕ) → from ≤ at → break_f (drop at xs) ≡ 0
  unfolding break_f
  break-f-none at h = go (eqb (get_or (drop at xs) 0 0) 38) (tailed (drop at xs) + comment_f (drop (tailed (drop at xs)) (drop at xs)))
    where
      go : (b : Bool) (n : ℕ) → cond b (ended (drop at xs) n) 0 ≡ 0
      go true n = ended-none at n h
      go false n = refl
