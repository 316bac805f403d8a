-- What request P1 of document 02 leaves as it was, as a statement about the definition. Its proof is a theorem of this type.
use Rattle.std.specs.Prelude.{ℕ, ◌+◌, true, false, ◌≡◌, List, drop, Ok}
use Rattle.ascii.specs.Ascii.{exactly}
use Rattle.ascii.specs.Text.{bytes, begins}
use Rattle.lexer.specs.Trivia.{skip}
use Rattle.lexer.specs.Steps.{word_step, pragma_step}

-- Where no trivia stands behind the `#`, or no `#` stands there, the step is document 01's: the fixed word `#pragma`, 7 where it is not.
abbrev pub UnspacedPragmaStays : Type 0
UnspacedPragmaStays = (text : List ℕ) (at : ℕ) → (begins exactly (bytes "#") (drop at text) ≡ true → skip false text (at + 1) ≡ Ok (at + 1))
    → pragma_step text at ≡ word_step (bytes "#pragma") text at
