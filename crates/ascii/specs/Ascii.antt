-- Bytes: the classes of document 01, and the questions that its steps ask of a byte.
use Rattle.std.specs.Prelude.{ℕ, ◌+◌, Bool, cond, not, ◌&&◌, ◌||◌, eqb, leb}

-- a byte from low to high, both included
abbrev pub within : ℕ → ℕ → ℕ → Bool
within low high b = leb low b && leb b high

-- "Trim takes 9 to 13 and 32"
abbrev pub is_trimmed : ℕ → Bool
is_trimmed b = within 9 13 b || eqb b 32

-- "trivia takes 9, 10, 12, 13 and 32, so 11 (VT) is trimmed but not skipped"
abbrev pub is_space : ℕ → Bool
is_space b = is_trimmed b && not (eqb b 11)

-- blank or tab: what may stand around a Fortran continuation within a physical line
abbrev pub is_blank : ℕ → Bool
is_blank b = eqb b 32 || eqb b 9

-- LF or CR: what ends a physical line
abbrev pub is_eol : ℕ → Bool
is_eol b = eqb b 10 || eqb b 13

abbrev pub is_digit : ℕ → Bool
is_digit b = within 48 57 b

abbrev pub is_upper : ℕ → Bool
is_upper b = within 65 90 b

abbrev pub is_letter : ℕ → Bool
is_letter b = is_upper b || within 97 122 b

-- "Names are words of letters, digits, `_`"
abbrev pub is_word : ℕ → Bool
is_word b = is_digit b || is_letter b || eqb b 95

-- no "byte above 127"
abbrev pub is_low : ℕ → Bool
is_low b = leb b 127

-- what "ignoring case" compares, the lower-case letter of an upper-case one; document 02, P3: "65 to 90 gain 32, every other is kept"
abbrev pub fold : ℕ → ℕ
fold b = cond (is_upper b) (b + 32) b

-- case counts: each byte is compared as it is
abbrev pub exactly : ℕ → ℕ
exactly b = b

-- "A constant table of 256 byte classes serves all steps; its rule is shown once."
-- 1 blank and tab; 2 LF and CR; 3 FF; 4 VT; 5 digits; 6 upper-case letters; 7 lower-case letters; 8 underscore; 0 any other byte
unfoldable pub class_of : ℕ → ℕ
class_of b =
    cond (is_blank b) 1
    (cond (is_eol b) 2
    (cond (eqb b 12) 3
    (cond (eqb b 11) 4
    (cond (is_digit b) 5
    (cond (is_upper b) 6
    (cond (is_letter b) 7
    (cond (eqb b 95) 8 0)))))))
