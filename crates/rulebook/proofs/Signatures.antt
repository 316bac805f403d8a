-- Names that are equal, with case ignored or not, have one signature; and the signature over what is left of a name.
-- Assumes nothing.
use mathlib.Core.Path.{◌≡◌, refl, ◌∙◌, ap}
use mathlib.Core.Bool.{Bool, true, false, ◌&&◌}
use mathlib.Core.List.{List, [], ◌∷◌}
use Prim.Native.Nat.{ℕ, ◌+◌, ◌*◌, ◌%◌, ◌<◌, ◌≤◌}
use native.Mathlib.Numerals.{add-one}
use lib.ListN.{length, get_or, drop, drop_of_length-le}
use lib.Seq.{drop-cons}
use lib.Dec.{eqb}
use borrow.Author.Tests.{eqb-true}
use Rattle.ascii.specs.Ascii.{fold}
use Rattle.ascii.specs.Text.{same_by, comparing}
use Rattle.rulebook.specs.Signature.{signature_from}

-- bytes that compare equal fold alike
alike : (ic : Bool) (x y : ℕ) → comparing ic x ≡ comparing ic y → fold x ≡ fold y
alike false x y h = ap fold h
alike true x y h = h

pub signed-apart : (ic : Bool) (a b : List ℕ) (sum sums : ℕ) → (signature_from sum sums a ≡ signature_from sum sums b → ⊥) → same_by (comparing ic) a b ≡ false
unfolding same_by signature_from
signed-apart ic [] [] sum sums e = absurd (e refl)
signed-apart ic [] (y ∷ ys) sum sums e = refl
signed-apart ic (x ∷ xs) [] sum sums e = refl
signed-apart ic (x ∷ xs) (y ∷ ys) sum sums e =
    go (eqb (comparing ic x) (comparing ic y)) refl
    (λ q. signed-apart ic xs ys ((sum + fold x % 32) % 4096) ((sums + sum) % 4096) (λ h. e (h ∙ ap (λ (z : ℕ). signature_from ((sum + z % 32) % 4096) ((sums + sum) % 4096) ys) q)))
  where
    go : (t : Bool) → eqb (comparing ic x) (comparing ic y) ≡ t → (fold x ≡ fold y → same_by (comparing ic) xs ys ≡ false) → (t && same_by (comparing ic) xs ys) ≡ false
    go true h ih = ih (alike ic x y (eqb-true (comparing ic x) (comparing ic y) h))
    go false h ih = refl

-- the sums over what is left of a name
pub signed-next : (name : List ℕ) (sum sums i : ℕ) → i < length name
    → signature_from sum sums (drop i name) ≡ signature_from ((sum + fold (get_or name i 0) % 32) % 4096) ((sums + sum) % 4096) (drop (i + 1) name)
unfolding signature_from
signed-next name sum sums i h = rw (add-one, drop-cons name i 0)

pub signed-end : (name : List ℕ) (sum sums i : ℕ) → length name ≤ i → signature_from sum sums (drop i name) ≡ (sum + sums * 37) % 256
unfolding signature_from
signed-end name sum sums i h = rw (drop_of_length-le name h)
