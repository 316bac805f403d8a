-- What request P6 of document 02 leaves as it was, as a statement about the definition. Its proof is a theorem of this type.
use Rattle.std.specs.Prelude.{ℕ, Bool, false, ◌≡◌, List}
use Rattle.code.specs.Laws.{has_backslash}
use Rattle.lexer.specs.declared.Language.{Language}
use Rattle.delimiter.specs.declared.Separator.{Separator}
use Rattle.delimiter.specs.Split.{split_call}

-- A text without a backslash is split alike in every language.
abbrev pub SplitsWithoutBackslashStay : Type 0
SplitsWithoutBackslashStay = (text : List ℕ) → has_backslash text ≡ false
    → (a b : Language) (separator : Separator) (angles : Bool) (size : ℕ) → split_call text a separator angles size ≡ split_call text b separator angles size
