-- Joining: the text of a logical line, and the map from its bytes to their physical places.
use Rattle.std.specs.Prelude.{ℕ, zero, suc, ◌+◌, List, [], ◌∷◌, ◌++◌, map, length}
use Rattle.lexer.specs.declared.Language.{Language}
use Rattle.lexer.specs.declared.Language.TheVariants.{C, FortranFree, FortranFixed}
use Rattle.lexer.specs.Continuation.{break_c, break_f}

-- a kept byte and its place in the physical line
pub record Kept : Type 0 where
  pub byte : ℕ
  pub place : ℕ

-- "goes, left to right, once over": what stays when each continuation is taken off, where cut gives the bytes of the one that a
-- text begins with, or 0; k bytes are passed over first
unfoldable pub kept_from : (List ℕ → ℕ) → ℕ → ℕ → List ℕ → List Kept
kept_from cut zero at [] = []
kept_from cut (suc k) at [] = []
kept_from cut (suc k) at (x ∷ xs) = kept_from cut k (suc at) xs
kept_from cut zero at (x ∷ xs) =
    elim (cut (x ∷ xs)) [ zero ↦ record { byte = x; place = at } ∷ kept_from cut zero (suc at) xs | suc k ↦ kept_from cut k (suc at) xs ]

-- "C: `\` directly followed by LF or CRLF goes"; "Fortran: `skip_fortran_continuation`"
abbrev pub cut_of : Language → List ℕ → ℕ
cut_of C = break_c
cut_of FortranFree = break_f
cut_of FortranFixed = break_f

abbrev pub byte_of : Kept → ℕ
byte_of k = k.byte

abbrev pub place_of : Kept → ℕ
place_of k = k.place

-- `LogicalSource::new`, the text
unfoldable pub joined_text : Language → List ℕ → List ℕ
joined_text l line = map byte_of (kept_from (cut_of l) zero zero line)

-- "The map gives each kept byte its physical offset; its last entry is the line's length"
unfoldable pub joined_map : Language → List ℕ → List ℕ
joined_map l line = map place_of (kept_from (cut_of l) zero zero line) ++ (length line ∷ [])

-- the bytes of the continuation of either language that a text begins with, or 0. No text begins with both.
abbrev pub any_cut : List ℕ → ℕ
any_cut xs = break_c xs + break_f xs

-- "Content copy gives `collapse_line_continuations` of it": both languages' continuations go
unfoldable pub collapsed : List ℕ → List ℕ
collapsed xs = map byte_of (kept_from any_cut zero zero xs)
