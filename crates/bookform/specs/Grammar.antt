-- The form of a book as document 01 puts it, entry after entry, with no word of reading it byte by byte.
use Rattle.std.specs.Prelude.{ℕ, suc, ◌+◌, ◌<◌, ◌≤◌, ◌≡◌, Bool, true, ◌&&◌, List, [], ◌∷◌, ◌++◌, length, take, ltb}
use Rattle.std.specs.Prelude.{Some}
use Rattle.ascii.specs.Ascii.{is_word}
use Rattle.ascii.specs.Text.{bytes, leading}
use Rattle.bookform.specs.declared.Expect.TheVariants.{HeaderByte}
use Rattle.bookform.specs.Format.{bad_from, HasForm}

-- "words of letters, digits, `_`": nothing else, and at least one byte
pub record IsWord (w : List ℕ) : Type 0 where
  pub long : 1 ≤ length w
  pub all : leading is_word w ≡ length w

-- "directive words have one blank between them"
pub data IsWords : List ℕ → Type 0 where
  last : (w : List ℕ) → IsWord w → IsWords w
  then : (w rest : List ℕ) → IsWord w → IsWords rest → IsWords (w ++ 32 ∷ rest)

-- "clause entries: rule byte, length byte 1 to 64, name .. a clause name is one word", so many of them. "Nothing follows."
pub data Clauses : ℕ → List ℕ → Type 0 where
  none : Clauses 0 []
  clause : (n rule : ℕ) (name more : List ℕ) → rule < 4 → IsWord name → length name ≤ 64 → Clauses n more → Clauses (suc n) (rule ∷ length name ∷ name ++ more)

-- "Directive entries follow: a length byte 1 to 64 and the name. Then clause entries", so many of each
pub data Entries : ℕ → ℕ → List ℕ → Type 0 where
  clauses : (c : ℕ) (bs : List ℕ) → Clauses c bs → Entries 0 c bs
  directive : (d c : ℕ) (name more : List ℕ) → IsWords name → length name ≤ 64 → Entries d c more → Entries (suc d) c (length name ∷ name ++ more)

-- "Bytes 0 to 2 are the mark `DRB`; 3 to 4 the version, 16 bits big-endian, 1; byte 5 flags .. others zero; byte 6 the default clause rule: 0 .. 3;
-- byte 7 directives (1 to 255); byte 8 clauses (0 to 255)." Repeats aside: nothing is said of equal names.
pub record IsBook (bs : List ℕ) : Type 0 where
  pub flags : ℕ
  pub rule : ℕ
  pub d : ℕ
  pub c : ℕ
  pub entries : List ℕ
  pub is : bs ≡ bytes "DRB" ++ (0 ∷ 1 ∷ flags ∷ rule ∷ d ∷ c ∷ entries)
  pub low_flags : flags < 4
  pub low_rule : rule < 4
  pub some_directive : 1 ≤ d
  pub follow : Entries d c entries

-- A book, repeats aside, is one in which row 4 finds no fault but a repeat.
abbrev pub FormIsBook : Type 0
FormIsBook = (bs : List ℕ) → (HasForm bs → IsBook bs) × (IsBook bs → HasForm bs)

-- numbers that are bytes
abbrev pub are_bytes : List ℕ → Bool
are_bytes [] = true
are_bytes (b ∷ bs) = ltb b 256 && are_bytes bs

-- "book begins with the bytes", repeats aside: bytes can follow with which they are one
abbrev pub Begins : List ℕ → Type 0
Begins bs = (rest : List ℕ) × IsBook (bs ++ rest) × (are_bytes rest ≡ true)

-- "A byte is bad if, repeats aside, no book begins with the bytes up to it and itself": the place i that row 4 finds, repeats aside, is that of
-- the first such byte, or the end of a book that is cut. No book begins with the bytes up to and with the byte at i, if there is one; and one
-- begins with the bytes before it, and with any fewer of them.
abbrev pub BadByteIsFirst : Type 0
BadByteIsFirst =
    (bs : List ℕ) (i : ℕ) → bad_from (HeaderByte 0) 0 bs ≡ Some i
    → (i ≤ length bs) × (i < length bs → Begins (take (i + 1) bs) → ⊥) × ((k : ℕ) → k ≤ i → Begins (take k bs))
