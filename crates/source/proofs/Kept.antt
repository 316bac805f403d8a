-- Laws of kept_from for any rule of what is cut, by the list and then at a place of a line: the next byte stays, a cut is passed
-- over, the line is over. Assumes nothing.
use Prim.Native.Nat.{ℕ, zero, suc, ◌+◌, ◌<◌, ◌≤◌}
use native.Mathlib.Nat.{add-zero}
use native.Mathlib.Numerals.{add-one}
use native.Mathlib.Omega.{arith}
use mathlib.Core.Path.{◌≡◌, refl, ◌∙◌}
use mathlib.Core.List.{List, [], ◌∷◌}
use lib.ListN.{length, drop, get_or, drop_of_length-le}
use lib.Seq.{drop-cons, drop-drop}
use Rattle.std.specs.Prelude.{None, Some}
use Rattle.lexer.specs.Continuation.{if_any}
use Rattle.lexer.proofs.Continuing.{if_any-none, if_any-some}
use Rattle.source.specs.Joining.{kept_from}

module _ (cut : List ℕ → ℕ) (at : ℕ) where
  pub kept-nil : (k : ℕ) → kept_from cut k at [] ≡ []
  unfolding kept_from
  kept-nil zero = refl
  kept-nil (suc k) = refl

  pub kept-first : (x : ℕ) (xs : List ℕ) → cut (x ∷ xs) ≡ 0 → kept_from cut 0 at (x ∷ xs) ≡ record { byte = x; place = at } ∷ kept_from cut 0 (suc at) xs
  unfolding kept_from
  kept-first x xs e = rw (e, kept_from)

  pub kept-cut : (x : ℕ) (xs : List ℕ) (k : ℕ) → cut (x ∷ xs) ≡ suc k → kept_from cut 0 at (x ∷ xs) ≡ kept_from cut k (suc at) xs
  unfolding kept_from
  kept-cut x xs k e = rw (e, kept_from)

-- skipping is dropping
pub kept-skip : (cut : List ℕ → ℕ) (at k : ℕ) (xs : List ℕ) → kept_from cut k at xs ≡ kept_from cut 0 (at + k) (drop k xs)
unfolding kept_from
kept-skip cut at zero xs = rw add-zero
kept-skip cut at (suc k) [] = refl
kept-skip cut at (suc k) (x ∷ xs) =
    let e : at + suc k ≡ suc at + k = omega arith in
    rw e (kept-skip cut (suc at) k xs)

-- the same at the place i of a line
module _ (cut : List ℕ → ℕ) (line : List ℕ) (i : ℕ) where
  pub kept-end : (k : ℕ) → length line ≤ i → kept_from cut k i (drop i line) ≡ []
  kept-end k h = rw (drop_of_length-le line h) (kept-nil cut i k)

  pub kept-past : (k : ℕ) → i < length line → kept_from cut (suc k) i (drop i line) ≡ kept_from cut k (suc i) (drop (suc i) line)
  unfolding kept_from
  kept-past k h = rw (drop-cons line i 0)

  pub kept-at : i < length line → cut (drop i line) ≡ 0
      → kept_from cut 0 i (drop i line) ≡ record { byte = get_or line i 0; place = i } ∷ kept_from cut 0 (suc i) (drop (suc i) line)
  kept-at h e = rw (drop-cons line i 0) (kept-first cut i (get_or line i 0) (drop (suc i) line) (rw (drop-cons line i 0) at e))

  pub kept-cut-at : (k : ℕ) → i < length line → cut (drop i line) ≡ suc k → kept_from cut 0 i (drop i line) ≡ kept_from cut k (suc i) (drop (suc i) line)
  kept-cut-at k h e = rw (drop-cons line i 0) (kept-cut cut i (get_or line i 0) (drop (suc i) line) k (rw (drop-cons line i 0) at e))

-- the same in the terms of a loop that reads at i
module _ (cut : List ℕ → ℕ) (line : List ℕ) (i : ℕ) where
  pub kept_next : i < length line → if_any (cut (drop i line)) ≡ None
      → kept_from cut 0 i (drop i line) ≡ record { byte = get_or line i 0; place = i } ∷ kept_from cut 0 (i + 1) (drop (i + 1) line)
  kept_next h e = rw add-one (kept-at cut line i h (if_any-none (cut (drop i line)) e))

  pub kept-jump : (n : ℕ) → i < length line → if_any (cut (drop i line)) ≡ Some n → kept_from cut 0 i (drop i line) ≡ kept_from cut 0 (i + n) (drop (i + n) line)
  kept-jump n h e = go n (if_any-some (cut (drop i line)) n e).0 (if_any-some (cut (drop i line)) n e).1
    where
      go : (n : ℕ) → cut (drop i line) ≡ n → 0 < n → kept_from cut 0 i (drop i line) ≡ kept_from cut 0 (i + n) (drop (i + n) line)
      go zero c z = absurd (omega arith)
      go (suc k) c z =
          let q : i + suc k ≡ suc i + k = omega arith in
          kept-cut-at cut line i k h c ∙ kept-skip cut (suc i) k (drop (suc i) line) ∙ rw (drop-drop, q)
