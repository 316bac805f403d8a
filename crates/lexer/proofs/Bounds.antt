-- Trivia moves forward, not past the text, and up to a place where there is none.
-- By induction over what is left of the text. Assumes nothing.
use Prim.Native.Nat.{ℕ, zero, suc, ◌+◌, ◌-◌, ◌≤◌}
use mathlib.Core.Bool.{Bool}
use mathlib.Core.Path.{◌≡◌, refl}
use mathlib.Core.List.{List, [], ◌∷◌}
use Rattle.std.specs.Prelude.{Option, Some, None, Ok}
use native.Mathlib.Omega.{arith}
use lib.ListN.{length, drop, length-drop}
use lib.Seq.{drop-drop}
use Rattle.lexer.specs.Trivia.{trivia_of, skip_from, skip}

skip_from-bounds : (f : Bool) (k at : ℕ) (xs : List ℕ) (p : ℕ) → skip_from f k at xs ≡ Ok p → (at ≤ p) × (p ≤ at + length xs)
unfolding skip_from
skip_from-bounds f zero at [] p h = let e : at ≡ p = cc in omega arith
skip_from-bounds f (suc k) at [] p h = let e : at ≡ p = cc in omega arith
skip_from-bounds f (suc k) at (x ∷ xs) p h = let b = skip_from-bounds f k (suc at) xs p h in omega arith
skip_from-bounds f zero at (x ∷ xs) p h = go (trivia_of f (x ∷ xs)) refl (λ k. skip_from-bounds f k (suc at) xs p)
  where
    go : (t : Option ℕ) → trivia_of f (x ∷ xs) ≡ t → ((k : ℕ) → skip_from f k (suc at) xs ≡ Ok p → (suc at ≤ p) × (p ≤ suc at + length xs))
        → (at ≤ p) × (p ≤ at + suc (length xs))
    go None e ih = let q = rw (skip_from, e) at h in let z : ◌≡◌ {A = ℕ} 0 1 = cc in absurd (omega arith)
    go (Some zero) e ih = let q = rw (skip_from, e) at h in let z : at ≡ p = cc in omega arith
    go (Some (suc k)) e ih = let b = ih k (rw (skip_from, e) at h) in omega arith

-- the place after trivia: not before its start, and not past the end of a text that holds its start
pub skip-bounds : (f : Bool) (text : List ℕ) (at p : ℕ) → skip f text at ≡ Ok p → (at ≤ p) × (p ≤ at + (length text - at))
unfolding skip
skip-bounds f text at p h = rw length-drop at (skip_from-bounds f zero at (drop at text) p h)

skip_from-again : (f : Bool) (k at : ℕ) (xs : List ℕ) (p : ℕ) → skip_from f k at xs ≡ Ok p → skip_from f 0 p (drop (p - at) xs) ≡ Ok p
unfolding skip_from
skip_from-again f zero at [] p h = let n : p - at ≡ 0 = let e : at ≡ p = cc in omega arith in rw n refl
skip_from-again f (suc k) at [] p h = let n : p - at ≡ 0 = let e : at ≡ p = cc in omega arith in rw n refl
skip_from-again f (suc k) at (x ∷ xs) p h =
    let b = skip_from-bounds f k (suc at) xs p h in
    let n : p - at ≡ suc (p - suc at) = omega arith in
    rw n (skip_from-again f k (suc at) xs p h)
skip_from-again f zero at (x ∷ xs) p h = go (trivia_of f (x ∷ xs)) refl (λ k. skip_from-again f k (suc at) xs p)
  where
    go : (t : Option ℕ) → trivia_of f (x ∷ xs) ≡ t → ((k : ℕ) → skip_from f k (suc at) xs ≡ Ok p → skip_from f 0 p (drop (p - suc at) xs) ≡ Ok p)
        → skip_from f 0 p (drop (p - at) (x ∷ xs)) ≡ Ok p
    go None e ih = let q = rw (skip_from, e) at h in let z : ◌≡◌ {A = ℕ} 0 1 = cc in absurd (omega arith)
    go (Some zero) e ih =
        let q = rw (skip_from, e) at h in
        let z : at ≡ p = cc in
        let n : p - at ≡ 0 = omega arith in
        rw (n, skip_from, e) refl
    go (Some (suc k)) e ih =
        let q = rw (skip_from, e) at h in
        let b = skip_from-bounds f k (suc at) xs p q in
        let n : p - at ≡ suc (p - suc at) = omega arith in
        rw n (ih k q)

-- behind trivia there is none
pub skip-again : (f : Bool) (text : List ℕ) (at p : ℕ) → skip f text at ≡ Ok p → skip f text p ≡ Ok p
unfolding skip
skip-again f text at p h =
    let b = skip_from-bounds f zero at (drop at text) p h in
    let e : at + (p - at) ≡ p = omega arith in
    rw (drop-drop (p - at) at text, e) at (skip_from-again f zero at (drop at text) p h)
