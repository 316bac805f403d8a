-- A table that holds a function's values in order, and what stands at each of its places. A table written out is such a table where
-- antt computes the two alike. Assumes nothing.
use mathlib.Core.Path.{◌≡◌, ap, sym, ◌∙◌}
use mathlib.Core.List.{List, [], ◌∷◌}
use Prim.Native.Nat.{ℕ, zero, suc, ◌+◌, ◌<◌}
use native.Mathlib.Nat.{add-zero, zero-add, add-suc, suc-add, le_of_suc-le-suc, not-suc-le-zero}
use lib.ListN.{get_or}

-- f i, f (i + 1), .., n values
abbrev pub values : {A : Type 0} → (ℕ → A) → ℕ → ℕ → List A
values f i zero = []
values f i (suc n) = f i ∷ values f (suc i) n

module _ {A : Type 0} (f : ℕ → A) (z : A) where
  from : (n i k : ℕ) → k < n → get_or (values f i n) k z ≡ f (i + k)
  from zero i k h = absurd (not-suc-le-zero h)
  from (suc n) i zero h = ap f (sym (add-zero i))
  from (suc n) i (suc k) h = from n (suc i) k (le_of_suc-le-suc h) ∙ ap f (suc-add i k ∙ sym (add-suc i k))

  -- the value at a place of the table
  pub at : (n k : ℕ) → k < n → get_or (values f 0 n) k z ≡ f k
  at n k h = from n 0 k h ∙ ap f (zero-add k)

-- two functions that have the same table agree below its size
pub agree : {A : Type 0} (f g : ℕ → A) (n : ℕ) → values f 0 n ≡ values g 0 n → (k : ℕ) → k < n → f k ≡ g k
agree f g n e k h = sym (at f (f 0) n k h) ∙ ap (λ l. get_or l k (f 0)) e ∙ at g (f 0) n k h
