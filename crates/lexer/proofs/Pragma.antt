-- `#pragma` with no trivia in it is read as the one fixed word of document 01.
-- A text begins with the word if it begins with `#` and, one byte on, with `pragma`; then by cases of the two. Assumes nothing.
use Prim.Native.Nat.{ℕ, ◌+◌}
use mathlib.Core.Bool.{Bool, true, false, cond, ◌&&◌}
use mathlib.Core.Path.{◌≡◌, refl, ap}
use mathlib.Core.List.{List, [], ◌∷◌}
use native.Mathlib.Omega.{arith}
use lib.ListN.{drop}
use lib.Dec.{eqb}
use lib.Seq.{drop-drop}
use Rattle.ascii.specs.Ascii.{exactly}
use Rattle.ascii.specs.Text.{bytes, begins}
use Rattle.refusal.specs.Answer.{given, refused}
use Rattle.lexer.specs.Steps.{word_step, pragma_step}
use Rattle.lexer.specs.Laws.{UnspacedPragmaStays}

-- the word in two parts
in_parts : (xs : List ℕ) → begins exactly (bytes "#pragma") xs ≡ (begins exactly (bytes "#") xs && begins exactly (bytes "pragma") (drop 1 xs))
unfolding begins
in_parts [] = refl
in_parts (x ∷ xs) = go (eqb 35 x)
  where
    go : (b : Bool) → (b && begins exactly (bytes "pragma") xs) ≡ ((b && true) && begins exactly (bytes "pragma") xs)
    go true = refl
    go false = refl

pub unspaced-pragma-stays : UnspacedPragmaStays
unspaced-pragma-stays text at e = go (begins exactly (bytes "#") (drop at text)) refl
  where
    word : (b : Bool) → cond b (given (at + 1 + 6)) (refused 7 at) ≡ cond b (given (at + 7)) (refused 7 at)
    word true = let n : at + 1 + 6 ≡ at + 7 = omega arith in ap given n
    word false = refl

    go : (hash : Bool) → begins exactly (bytes "#") (drop at text) ≡ hash → pragma_step text at ≡ word_step (bytes "#pragma") text at
    go false q = rw (in_parts (drop at text), q) refl
    go true q = rw (in_parts (drop at text), q, e q, drop-drop 1 at text) (word (begins exactly (bytes "pragma") (drop (at + 1) text)))
