-- The order of names, case ignored: each name is a number, whose digits are a 1 and then its bytes folded. So a shorter name comes before a
-- longer one, and of two as long the one with the lesser byte where they first differ.
use Rattle.std.specs.Prelude.{ℕ, ◌+◌, ◌*◌, ◌<◌, ◌≤◌, ◌≡◌, true, List, [], ◌∷◌, length, get_or}
use Rattle.std.specs.Ordering.{MatchOrdering}
use Rattle.std.specs.declared.cmp.Ordering.{Ordering}
use Rattle.ascii.specs.Ascii.{fold}
use Rattle.ascii.specs.Text.{same_by}

-- a number with more digits behind it
unfoldable pub rank_from : ℕ → List ℕ → ℕ
rank_from high [] = high
rank_from high (b ∷ bs) = rank_from (high * 256 + fold b) bs

abbrev pub rank : List ℕ → ℕ
rank name = rank_from 1 name

-- how a name stands to another: before it, equal to it with case ignored, or behind it
abbrev pub Compared : List ℕ → List ℕ → Ordering → Type 0
Compared a b order = MatchOrdering order (rank a < rank b) (same_by fold a b ≡ true) (rank b < rank a)

-- Two names agree in their first n bytes, case ignored. Names of different lengths are held to agree in none.
pub record Shared (a b : List ℕ) (n : ℕ) : Type 0 where
  pub within : n ≤ length a
  pub long : 0 < n → length a ≡ length b
  pub same : (i : ℕ) → i < n → fold (get_or a i 0) ≡ fold (get_or b i 0)

-- they differ in the byte in a place
abbrev pub Differ : List ℕ → List ℕ → ℕ → Type 0
Differ a b i = fold (get_or a i 0) ≡ fold (get_or b i 0) → ⊥
