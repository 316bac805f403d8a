-- A run of bytes that all stay, with their places.
use Rattle.std.specs.Prelude.{ℕ, zero, suc, ◌-◌, ◌≤◌, ◌≡◌, Bool, true, not, ◌&&◌, eqb, List, [], ◌∷◌, ◌++◌, map, length, take, drop, get_or}
use Rattle.source.specs.Joining.{Kept, kept_from, byte_of, place_of}

-- a byte that begins no continuation of C, of Fortran, of either
abbrev pub is_plain_c : ℕ → Bool
is_plain_c b = not (eqb b 92)

abbrev pub is_plain_f : ℕ → Bool
is_plain_f b = not (eqb b 38)

abbrev pub is_plain : ℕ → Bool
is_plain b = is_plain_c b && is_plain_f b

-- no byte with a property begins what is cut
pub record BeginsNone (p : ℕ → Bool) (cut : List ℕ → ℕ) : Type 0 where
  pub none : (xs : List ℕ) (i : ℕ) → p (get_or xs i 0) ≡ true → cut (drop i xs) ≡ 0

-- what stays from a place on, by the rule of what is cut
abbrev pub staying : (List ℕ → ℕ) → List ℕ → ℕ → List Kept
staying cut xs at = kept_from cut 0 at (drop at xs)

-- so many places from one on
unfoldable pub counted : ℕ → ℕ → List ℕ
counted at zero = []
counted at (suc n) = at ∷ counted (suc at) n

-- from a place up to another all bytes stay
pub record Stays (cut : List ℕ → ℕ) (xs : List ℕ) (from end : ℕ) : Type 0 where
  pub ordered : from ≤ end
  pub within : end ≤ length xs
  pub bytes : map byte_of (staying cut xs from) ≡ take (end - from) (drop from xs) ++ map byte_of (staying cut xs end)
  pub places : map place_of (staying cut xs from) ≡ counted from (end - from) ++ map place_of (staying cut xs end)
