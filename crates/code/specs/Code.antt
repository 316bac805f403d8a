-- Code bytes: what stands outside of quoted literals and comments ("quotes being invisible").
use Rattle.std.specs.Prelude.{ℕ, zero, suc, ◌+◌, ◌-◌, ◌≤◌, ◌<◌, Bool, true, false, cond, not, ◌&&◌, ◌||◌, List, [], ◌∷◌, length, drop, get_or, eqb, ltb}
use Rattle.std.specs.Prelude.{Option, Some, None}
use Rattle.ascii.specs.Ascii.{is_eol}
use Rattle.ascii.specs.Text.{starts, up_to}
use Rattle.code.specs.declared.CommentStyle.{CommentStyle}
use Rattle.code.specs.declared.CommentStyle.TheVariants.{Block, CLike, Fortran, FortranBlock}
use Rattle.code.specs.declared.Piece.{Piece}
use Rattle.code.specs.declared.Piece.TheVariants.{Code, Hidden, OpenQuote, OpenComment}
use Rattle.code.specs.declared.Unclosed.{Unclosed}
use Rattle.code.specs.declared.Unclosed.TheVariants.{Quote, Comment}

abbrev pub is_c_like : CommentStyle → Bool
is_c_like Block = false
is_c_like CLike = true
is_c_like Fortran = false
is_c_like FortranBlock = false

abbrev pub is_fortran : CommentStyle → Bool
is_fortran Block = false
is_fortran CLike = false
is_fortran Fortran = true
is_fortran FortranBlock = false

-- a backslash of a literal hides the byte after it. P6, "Fortran has no such escape in its standard, so in Fortran the quote scan now takes a backslash
-- as an ordinary byte"
abbrev pub has_escapes : CommentStyle → Bool
has_escapes Block = true
has_escapes CLike = true
has_escapes Fortran = false
has_escapes FortranBlock = false

-- n bytes more, if there is an end
abbrev pub more : ℕ → Option ℕ → Option ℕ
more n None = None
more n (Some k) = Some (n + k)

-- the quote rule: byte x of a literal in q keeps the one after it inside, if it is a backslash and the style has escapes, or the first of a doubled quote
abbrev pub hides_next : CommentStyle → ℕ → ℕ → ℕ → Bool
hides_next style q x next = (has_escapes style && eqb x 92) || (eqb x q && eqb next q)

-- `code_chars`, quotes: the bytes of a literal after its opening quote q, the closing one included, once k bytes are passed over;
-- none if it has no end
unfoldable pub literal : CommentStyle → ℕ → ℕ → List ℕ → Option ℕ
literal style q zero [] = None
literal style q (suc k) [] = None
literal style q (suc k) (x ∷ xs) = more 1 (literal style q k xs)
literal style q zero (x ∷ xs) =
    cond (hides_next style q x (get_or xs 0 0)) (more 1 (literal style q 1 xs))
    (cond (eqb x q) (Some 1) (more 1 (literal style q zero xs)))

-- `code_chars`, block comments: the bytes of one after its opening, the closing included; none if it has no end
unfoldable pub block_end : List ℕ → Option ℕ
block_end [] = None
block_end (x ∷ xs) = cond (eqb x 42 && starts 47 xs) (Some 2) (more 1 (block_end xs))

abbrev pub quoted : Option ℕ → Piece
quoted None = OpenQuote
quoted (Some n) = Hidden (1 + n)

abbrev pub commented : Option ℕ → Piece
commented None = OpenComment
commented (Some n) = Hidden (2 + n)

-- what `/` before a text begins. Line comments go up to and with LF or CR.
abbrev pub slashed : CommentStyle → List ℕ → Piece
slashed style xs =
    cond (starts 42 xs) (commented (block_end (drop 1 xs)))
    (cond (is_c_like style && starts 47 xs) (Hidden (2 + up_to is_eol (drop 1 xs))) Code)

-- what `!` before a text begins; `!$` is no comment here
-- ("Taking `!$` as a comment in bracket matching; there it isn't, in Fortran trivia it is")
abbrev pub banged : CommentStyle → List ℕ → Piece
banged style xs = cond (is_fortran style && not (starts 36 xs)) (Hidden (1 + up_to is_eol xs)) Code

-- what a text begins with
unfoldable pub piece : CommentStyle → List ℕ → Piece
unfolding up_to
piece style [] = Code
piece style (x ∷ xs) =
    cond (eqb x 39 || eqb x 34) (quoted (literal style x zero xs))
    (cond (eqb x 47) (slashed style xs)
    (cond (eqb x 33) (banged style xs) Code))

-- a byte that begins no literal and no comment in any style
abbrev pub is_plain : ℕ → Bool
is_plain b = not (eqb b 39 || eqb b 34 || eqb b 47 || eqb b 33)

-- a byte of code with its place
pub record CodeByte : Type 0 where
  pub place : ℕ
  pub byte : ℕ

-- a text's code bytes up to its first quote or comment without an end, and that one with its place
pub record Scan : Type 0 where
  pub codes : List CodeByte
  pub fault : Option Unclosed

-- how many bytes after its first a piece takes
abbrev pub rest : Piece → ℕ
rest Code = zero
rest (Hidden n) = n - 1
rest OpenQuote = zero
rest OpenComment = zero

-- a piece, which begins with byte c, and the scan of what follows it
abbrev pub placed : Piece → CodeByte → Scan → Scan
placed Code c s = record { codes = c ∷ s.codes; fault = s.fault }
placed (Hidden n) c s = s
placed OpenQuote c s = record { codes = []; fault = Some (Quote c.place) }
placed OpenComment c s = record { codes = []; fault = Some (Comment c.place) }

-- `code_chars`: the scan of a text whose first byte stands at place at, once k bytes are passed over
unfoldable pub scan_from : CommentStyle → ℕ → ℕ → List ℕ → Scan
unfolding piece
scan_from style zero at [] = record { codes = []; fault = None }
scan_from style (suc k) at [] = record { codes = []; fault = None }
scan_from style zero at (x ∷ xs) =
    placed (piece style (x ∷ xs)) (record { place = at; byte = x }) (scan_from style (rest (piece style (x ∷ xs))) (suc at) xs)
scan_from style (suc k) at (x ∷ xs) = scan_from style k (suc at) xs

-- the scan of a text from a place on
abbrev pub scan_at : CommentStyle → List ℕ → ℕ → Scan
scan_at style text at = scan_from style zero at (drop at text)

-- the code bytes of a text from place at on, where at holds one or is the end
unfoldable pub onward : CommentStyle → List ℕ → ℕ → List CodeByte
unfolding scan_from
onward style text at =
    cond (ltb at (length text)) (record { place = at; byte = get_or text at 0 } ∷ (scan_at style text (at + 1)).codes) []

-- a piece at a place takes a byte at least, and stays within a text of n bytes
abbrev pub Fits : ℕ → ℕ → Piece → Type 0
Fits at n Code = Unit {0}
Fits at n (Hidden k) = (0 < k) × (at + k ≤ n)
Fits at n OpenQuote = Unit {0}
Fits at n OpenComment = Unit {0}

-- an end after a place lies behind it, and within a text of n bytes
abbrev pub Ends : ℕ → ℕ → Option ℕ → Type 0
Ends from n (Some k) = (from < k) × (k ≤ n)
Ends from n None = Unit {0}
