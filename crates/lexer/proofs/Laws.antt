-- Laws of words at the front of a text, by induction over their bytes.
use mathlib.Core.Path.{◌≡◌, refl, sym}
use mathlib.Core.Bool.{true, true≢false}
use mathlib.Core.List.{List, [], ◌∷◌}
use Prim.Native.Nat.{ℕ, ◌≤◌, suc-le-suc}
use native.Mathlib.Omega.{arith}
use lib.ListN.{length}
use lib.Dec.{eqb}
use Rattle.std.specs.List.{starts_with}
use Rattle.ascii.specs.Ascii.{exactly}
use Rattle.ascii.specs.Text.{begins}
use Rattle.ascii.proofs.Flags.{and_right}
use Rattle.lexer.specs.declared.Prefix.{Prefix}
use Rattle.lexer.specs.declared.Prefix.TheVariants.{Omp, Acc}
use Rattle.lexer.specs.Continuation.{prefix_bytes}

-- a text that begins with a word has room for it
pub begins-fits : (f : ℕ → ℕ) (w xs : List ℕ) → begins f w xs ≡ true → length w ≤ length xs
unfolding begins
begins-fits f [] xs e = omega arith
begins-fits f (p ∷ w) [] e = absurd (true≢false (sym e))
begins-fits f (p ∷ w) (x ∷ xs) e = suc-le-suc (begins-fits f w xs (and_right (eqb (f p) (f x)) (begins f w xs) e))

pub prefix-length : (p : Prefix) → length (prefix_bytes p) ≡ 3
prefix-length Omp = refl
prefix-length Acc = refl

-- a word that stands at the front, in the library's spelling
pub begins-starts : (w xs : List ℕ) → begins exactly w xs ≡ starts_with eqb xs w
unfolding begins
begins-starts [] xs = refl
begins-starts (p ∷ w) [] = refl
begins-starts (p ∷ w) (x ∷ xs) = rw (begins-starts w xs) refl
