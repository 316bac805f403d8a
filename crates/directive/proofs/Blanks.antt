-- Laws of the places of a name's blanks, and of a number of 64 bits that has them: what is kept, what is added, and what a byte of the name adds.
-- Assumes nothing.
use mathlib.Core.Path.{◌≡◌, refl, ap, ◌∙◌}
use mathlib.Core.Bool.{Bool, true, false, ◌&&◌, ◌||◌, and-true, and-false, or-true, or-false}
use mathlib.Core.Logic.{inl, inr}
use mathlib.Core.List.{List, [], ◌∷◌}
use Prim.Native.Nat.{ℕ, suc, ◌+◌, ◌-◌, ◌*◌, ◌/◌, ◌%◌, ◌^◌, min, max, ◌<◌, ◌≤◌}
use native.Mathlib.Numerals.{add-one}
use native.Mathlib.Omega.{arith}
use lib.ListN.{length, drop, get_or}
use lib.Seq.{drop-cons}
use lib.Bits.{bit_and}
use lib.Dec.{eqb, leb, ltb}
use borrow.Author.Tests.{le-leb, lt-leb, lt-ltb, le-ltb, eq-eqb, ne_eqb, eqb-true, eqb-false, ltb-true, leb-true, leb-false}
use mir.Val.{bool_byte}
use mir.Syntax.{w64}
use Rattle.std.specs.Int.{bit_at}
use Rattle.std.specs.Int.RustNames.{bit_or}
use Rattle.std.proofs.lemmas.Nat.Bits.{bit_at-lt, bit_at_or, bit_at_and, bit_at_ones, bit_at_ones_above, bit_at_set_same, bit_at_set_other, bit_at-zero, ones_shr}
use Rattle.std.proofs.lemmas.Bool.{cases_order}
use Rattle.ascii.specs.Ascii.{is_space}
use Rattle.ascii.proofs.Flags.{by_cases}
use Rattle.directive.specs.Name.{compact}
use Rattle.directive.specs.Compacts.{blank_behind, has_bit}
use Rattle.directive.proofs.Marking.{no-blank, or-assoc}

-- the places of the blanks of what is left of a name, behind so many letters
abbrev pub blank_from : ℕ → List ℕ → ℕ → Bool
blank_from len xs n = leb len n && blank_behind xs (n - len)

-- bits as numbers
is-one : (p : ℕ) → p < 2 → {X : Type 0} → (p ≡ 0 → X) → (p ≡ 1 → X) → X
is-one p l none some = by_cases (eqb p 0) (λ e. none (eqb-true p 0 e)) (λ e. let n = eqb-false p 0 e in some (omega arith))

either-one : (p q : ℕ) → p < 2 → q < 2 → eqb (max p q) 1 ≡ (eqb p 1 || eqb q 1)
either-one p q l m =
    is-one p l
    (λ e. is-one q m (λ f. rw (e, f)) (λ f. rw (e, f)))
    (λ e. is-one q m (λ f. rw (e, f)) (λ f. rw (e, f)))

both-one : (p q : ℕ) → p < 2 → q < 2 → eqb (min p q) 1 ≡ (eqb p 1 && eqb q 1)
both-one p q l m =
    is-one p l
    (λ e. is-one q m (λ f. rw (e, f)) (λ f. rw (e, f)))
    (λ e. is-one q m (λ f. rw (e, f)) (λ f. rw (e, f)))

pub bits-or : (a b n : ℕ) → has_bit (bit_or a b) n ≡ (has_bit a n || has_bit b n)
bits-or a b n = rw (bit_at_or a b n, either-one (bit_at a n) (bit_at b n) (bit_at-lt a n) (bit_at-lt b n)) (go (ltb n 64) (eqb (bit_at a n) 1) (eqb (bit_at b n) 1))
  where
    go : (s p q : Bool) → (s && (p || q)) ≡ ((s && p) || (s && q))
    go true p q = refl
    go false p q = refl

-- those up to a place
pub bits-up-to : (a p q n : ℕ) → q ≡ min p 63 → has_bit (bit_and a (18446744073709551615 / 2 ^ (63 - q))) n ≡ (has_bit a n && leb n p)
bits-up-to a p q n m =
    by_cases (ltb n 64)
    (λ e. rw (e, ones, bit_at_and a mask n, both-one (bit_at a n) (bit_at mask n) (bit_at-lt a n) (bit_at-lt mask n), kept (ltb-true n 64 e)))
    (λ e. rw e)
  where
    mask : ℕ
    mask = 2 ^ (64 - (63 - q)) - 1

    ones : 18446744073709551615 / 2 ^ (63 - q) ≡ mask
    ones = ones_shr 64 (63 - q) (omega arith)

    kept : n < 64 → eqb (bit_at mask n) 1 ≡ leb n p
    kept l =
        by_cases (leb n p)
        (λ e. let h = leb-true n p e in let z : bit_at mask n ≡ 1 = bit_at_ones (64 - (63 - q)) n (omega (arith, m)) in rw (e, z))
        (λ e. let h = leb-false n p e in let z : bit_at mask n ≡ 0 = bit_at_ones_above (64 - (63 - q)) n (omega (arith, m)) in rw (e, z))

pub bits-none : (n : ℕ) → has_bit 0 n ≡ false
bits-none n = rw (bit_at-zero n, and-false (ltb n 64))

pub bits-zero : (xs : List ℕ) (n : ℕ) → (has_bit 0 n || blank_from 0 xs n) ≡ blank_behind xs n
bits-zero xs n = let e : n - 0 ≡ n = omega arith in rw (bits-none n, e, le-leb 0 n (omega arith))

-- a blank more at a place, or none
pub bits-one : (a : ℕ) (b : Bool) (p n : ℕ) → p < 64 → has_bit (bit_or a (bool_byte b * 2 ^ p % 18446744073709551616)) n ≡ (has_bit a n || (b && eqb n p))
bits-one a true p n l =
    by_cases (eqb n p)
    (λ e. let q : n ≡ p = eqb-true n p e in
    let z : bit_at (bit_or a (1 * 2 ^ p % 18446744073709551616)) p ≡ 1 = bit_at_set_same w64 a p l in
    rw (e, q, z, lt-ltb p 64 l, or-true))
    (λ e. let z : bit_at (bit_or a (1 * 2 ^ p % 18446744073709551616)) n ≡ bit_at a n = bit_at_set_other w64 a p l n (λ q. eqb-false n p e q) in
    rw (e, z, or-false))
bits-one a false p n l =
    let z : bool_byte false * 2 ^ p % 18446744073709551616 ≡ 0 = omega arith in
    rw z (bits-or a 0 n ∙ ap (λ (b : Bool). has_bit a n || b) (bits-none n))

-- each place up to one
pub bits-next : (b : Bool) (i n : ℕ) → (ltb n (i + 1) && b) ≡ ((ltb n i && b) || (b && eqb n i))
bits-next b i n =
    elim (cases_order n i) [
      | inl e ↦ rw (lt-ltb n (i + 1) (omega arith), le-ltb n i (omega arith), eq-eqb n i e, and-true b)
      | inr (inl l) ↦ rw (lt-ltb n (i + 1) (omega arith), lt-ltb n i l, ne_eqb n i (omega arith), and-false b, or-false b)
      | inr (inr l) ↦ rw (le-ltb n (i + 1) (omega arith), le-ltb n i (omega arith), ne_eqb n i (omega arith), and-false b)
    ]

-- a place more is marked, where its bit is 1
pub bits-marked : (bits i n : ℕ) (old : Bool) → i < 64 → ((old || (ltb n i && has_bit bits n)) || (eqb (bits / 2 ^ i % 2) 1 && eqb n i)) ≡ (old || (ltb n (i + 1) && has_bit bits n))
bits-marked bits i n old l =
    let here : (eqb (bits / 2 ^ i % 2) 1 && eqb n i) ≡ (has_bit bits n && eqb n i) =
    by_cases (eqb n i)
    (λ e. let q : n ≡ i = eqb-true n i e in rw (e, q, lt-ltb i 64 l))
    (λ e. rw (e, and-false (eqb (bits / 2 ^ i % 2) 1), and-false (has_bit bits n))) in
    rw (here, or-assoc old (ltb n i && has_bit bits n) (has_bit bits n && eqb n i), bits-next (has_bit bits n) i n)

pub bits-all : (bits i n : ℕ) → 64 ≤ i → (ltb n i && has_bit bits n) ≡ has_bit bits n
bits-all bits i n l = by_cases (ltb n 64) (λ e. let h = ltb-true n 64 e in rw (e, lt-ltb n i (omega arith))) (λ e. rw (e, and-false (ltb n i)))

-- a byte of a text without its blanks
module _ (xs : List ℕ) (i : ℕ) (l : i < length xs) where
  pub compact-blank : is_space (get_or xs i 0) ≡ true → compact (drop (i + 1) xs) ≡ compact (drop i xs)
  unfolding compact
  compact-blank s = rw (drop-cons xs i 0 l, compact, s, add-one)

  pub compact-letter : is_space (get_or xs i 0) ≡ false → get_or xs i 0 ∷ compact (drop (i + 1) xs) ≡ compact (drop i xs)
  unfolding compact
  compact-letter s = rw (drop-cons xs i 0 l, compact, s, add-one)

module _ (len n : ℕ) where
  by_place : {X : Type 0} → (n < len → X) → (n ≡ len → X) → (len < n → X) → X
  by_place below here behind = elim (cases_order n len) [ inl e ↦ here e | inr (inl l) ↦ below l | inr (inr l) ↦ behind l ]

  pub from-none : blank_from len [] n ≡ false
  unfolding blank_behind
  from-none = and-false (leb len n)

  pub from-blank : (x : ℕ) (xs : List ℕ) → is_space x ≡ true → blank_from len (x ∷ xs) n ≡ ((eqb x 32 && eqb n len) || blank_from len xs n)
  unfolding blank_behind
  from-blank x xs s =
      by_place
      (λ l. rw (lt-leb len n l, ne_eqb n len (omega arith), and-false (eqb x 32)))
      (λ e. let z : n - len ≡ 0 = omega arith in rw (z, s, le-leb len n (omega arith), eq-eqb n len e, and-true (eqb x 32)))
      (λ l. let z : n - len ≡ suc (n - len - 1) = omega arith in rw (z, s, le-leb len n (omega arith), ne_eqb n len (omega arith), and-false (eqb x 32)))

  pub from-letter : (x : ℕ) (xs : List ℕ) → is_space x ≡ false → blank_from len (x ∷ xs) n ≡ blank_from (len + 1) xs n
  unfolding blank_behind
  from-letter x xs s =
      by_place
      (λ l. rw (lt-leb len n l, lt-leb (len + 1) n (omega arith)))
      (λ e. let z : n - len ≡ 0 = omega arith in rw (z, s, no-blank x s, lt-leb (len + 1) n (omega arith), and-false (leb len n)))
      (λ l. let z : n - len ≡ suc (n - (len + 1)) = omega arith in rw (z, s, le-leb len n (omega arith), le-leb (len + 1) n (omega arith)))
