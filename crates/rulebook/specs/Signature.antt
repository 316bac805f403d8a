-- A number by which names are told apart before they are compared: names that are equal with case ignored have the same one.
use Rattle.std.specs.Prelude.{ℕ, ◌+◌, ◌*◌, ◌%◌, List, [], ◌∷◌}
use Rattle.ascii.specs.Ascii.{fold}

-- the sum of a name's bytes, folded, by 32, and the sum of the sums, one number of both
unfoldable pub signature_from : ℕ → ℕ → List ℕ → ℕ
signature_from sum sums [] = (sum + sums * 37) % 256
signature_from sum sums (b ∷ bs) = signature_from ((sum + fold b % 32) % 4096) ((sums + sum) % 4096) bs

abbrev pub signature : List ℕ → ℕ
signature name = signature_from 0 0 name
