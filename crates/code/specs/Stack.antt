-- The declared stack of open brackets, an array with a depth, as the list of its closing bytes, and back.
use Rattle.std.specs.Prelude.{ℕ, zero, suc, List, [], ◌∷◌, length, get_or, set, replicate, ◌≡◌, refl}
use Rattle.std.proofs.Common.{ap}
use Rattle.code.specs.Bracket.{max_depth}

-- the first d entries of an array, the last one first: the declared stack as a list, the innermost first
abbrev pub stacked : List ℕ → ℕ → List ℕ
stacked ks zero = []
stacked ks (suc d) = get_or ks d 0 ∷ stacked ks d

-- the array of a list: its bytes, the outermost first, and zero in each place past them
abbrev pub array_of : List ℕ → List ℕ
array_of [] = replicate max_depth 0
array_of (b ∷ r) = set (array_of r) (length r) b

-- the list is as long as the stack is deep: a law, which stands here since the declared model rests on it
pub length-stacked : (ks : List ℕ) (d : ℕ) → length (stacked ks d) ≡ d
length-stacked ks zero = refl
length-stacked ks (suc d) = ap suc (length-stacked ks d)
