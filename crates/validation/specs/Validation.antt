-- Validation of a logical line (`validate_logical_line`): each end of line that more text follows must be continued.
use Rattle.std.specs.Prelude.{ℕ, zero, suc, ◌+◌, ◌-◌, ◌<◌, ◌≤◌, Bool, true, false, cond, not, ◌&&◌, ◌||◌, List, [], ◌∷◌, reverse, length, take, drop, eqb, ltb}
use Rattle.std.specs.Prelude.{Option, Some, None}
use Rattle.ascii.specs.Ascii.{is_trimmed, is_blank, is_eol}
use Rattle.ascii.specs.Text.{starts, leading, is_blank_text, trimmed}
use Rattle.lexer.specs.declared.Language.{Language}
use Rattle.lexer.specs.declared.Language.TheVariants.{C, FortranFree, FortranFixed}
use Rattle.lexer.specs.declared.Prefix.{Prefix}
use Rattle.lexer.specs.Continuation.{sentinel_ended, sentinel_any}
use Rattle.validation.specs.declared.Quoting.{Quoting}
use Rattle.validation.specs.declared.Quoting.TheVariants.{Outside, Inside, Closing}
use Rattle.validation.specs.declared.Checked.{Checked}
use Rattle.validation.specs.declared.Checked.TheVariants.{Fine, WrongAt, Next}

-- a quote opens a literal
abbrev pub opened : ℕ → Quoting
opened x = cond (eqb x 39 || eqb x 34) (Inside x) Outside

-- where the scan stands after a byte: a doubled quote stays inside
abbrev pub after_byte : Quoting → ℕ → Quoting
after_byte Outside x = opened x
after_byte (Inside q) x = cond (eqb x q) (Closing q) (Inside q)
after_byte (Closing q) x = cond (eqb x q) (Inside q) (opened x)

abbrev pub is_inside : Quoting → Bool
is_inside Outside = false
is_inside (Inside q) = true
is_inside (Closing q) = false

-- `fortran_line_has_trailing_continuation`, code: the bytes of a physical line up to its comment, literals seen, each line by itself
unfoldable pub code_length : Quoting → List ℕ → ℕ
code_length q [] = 0
code_length q (x ∷ xs) = cond (eqb x 33 && not (is_inside q)) 0 (suc (code_length (after_byte q x) xs))

-- the last byte that trimming leaves is b
unfoldable pub ends_in : ℕ → List ℕ → Bool
ends_in b xs = starts b (drop (leading is_trimmed (reverse xs)) (reverse xs))

abbrev pub unindented : List ℕ → List ℕ
unindented xs = drop (leading is_blank xs) xs

-- a physical line of Fortran without its indentation and sentinel
abbrev pub content_f : Prefix → List ℕ → List ℕ
content_f p line = drop (sentinel_ended p (unindented line)) (unindented line)

-- `fortran_line_has_trailing_continuation`: its code ends in `&`
unfoldable pub continued_f : Prefix → List ℕ → Bool
continued_f p line = ends_in 38 (take (code_length Outside (content_f p line)) (content_f p line))

-- the physical line is continued; in C, its last byte is a backslash. "Fixed form uses the free-form `&`"
abbrev pub continued : Language → Prefix → List ℕ → Bool
continued C p line = starts 92 (reverse line)
continued FortranFree p line = continued_f p line
continued FortranFixed p line = continued_f p line

-- a later line of Fortran that begins with the other prefix's sentinel
abbrev pub foreign_f : Prefix → List ℕ → Bool
foreign_f p line = ltb 0 (sentinel_any (unindented line)) && eqb (sentinel_ended p (unindented line)) 0

abbrev pub foreign : Language → Prefix → List ℕ → Bool
foreign C p line = false
foreign FortranFree p line = foreign_f p line
foreign FortranFixed p line = foreign_f p line

-- the bytes of a text before its first LF or CR
abbrev pub line_length : List ℕ → ℕ
line_length xs = leading (λ b. not (is_eol b)) xs

-- the bytes of the end of line that a text begins with: LF or CR LF; none of "a lone CR"
abbrev pub eol_bytes : List ℕ → Option ℕ
eol_bytes [] = None
eol_bytes (x ∷ xs) = cond (eqb x 13) (cond (starts 10 xs) (Some 2) None) (Some 1)

abbrev pub is_over : List ℕ → Bool
is_over [] = true
is_over (x ∷ xs) = false

module _ (l : Language) (p : Prefix) where
  -- what stands after a physical line: nothing; a lone CR, "refused where it stands"; "only whitespace", which ends the check;
  -- or more text, to which the line must be continued
  abbrev pub check_end : ℕ → List ℕ → List ℕ → Checked
  check_end at line rest =
      cond (is_over rest) Fine
      (elim (eol_bytes rest) [
        | None ↦ WrongAt (at + length line)
        | Some n ↦ cond (is_blank_text (drop n rest)) Fine (cond (continued l p line) (Next (length line + n)) (WrongAt (at + length line)))
      ])

  -- the physical line at place at, with all that follows it
  unfoldable pub check_line : Bool → ℕ → List ℕ → Checked
  check_line later at xs =
      cond (later && foreign l p (take (line_length xs) xs)) (WrongAt (at + leading is_blank xs))
      (check_end at (take (line_length xs) xs) (drop (line_length xs) xs))

  -- physical line by physical line, once k bytes are passed over
  unfoldable pub fault_from : ℕ → ℕ → List ℕ → Option ℕ
  fault_from zero at [] = None
  fault_from (suc k) at [] = None
  fault_from (suc k) at (x ∷ xs) = fault_from k (suc at) xs
  fault_from zero at (x ∷ xs) =
      elim (check_line (ltb 0 at) at (x ∷ xs)) [ Fine ↦ None | WrongAt q ↦ Some q | Next n ↦ fault_from (n - 1) (suc at) xs ]

  -- row 6, "validation fails, physical place": where a line first breaks the rule of its language
  unfoldable pub fault : List ℕ → Option ℕ
  fault line = fault_from zero zero line

-- the place from which on a text is blank
abbrev pub blank_from : List ℕ → ℕ
blank_from xs = (trimmed zero xs).end

-- the next physical line is further on, and not past n bytes
abbrev pub Onward : ℕ → ℕ → Checked → Type 0
Onward at n Fine = Unit {0}
Onward at n (WrongAt q) = Unit {0}
Onward at n (Next k) = (0 < k) × (at + k ≤ n)
