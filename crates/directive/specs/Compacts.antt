-- The names of a book without their blanks, as they are made once for many lines.
use Rattle.std.specs.Prelude.{ℕ, zero, suc, ◌/◌, ◌%◌, ◌^◌, ◌≤◌, ◌<◌, ◌≡◌, Bool, false, cond, ◌&&◌, ◌||◌, List, [], ◌∷◌, map, length, take, get_or, eqb, ltb, Option, Some, None, Result, Ok, Err}
use denote.Struct.Props as logic
use Rattle.ascii.specs.Ascii.{is_space, fold, exactly}
use Rattle.refusal.specs.declared.Refusal.{Refusal}
use Rattle.rulebook.specs.Book.{Book, book_of}
use Rattle.rulebook.specs.declared.CheckedBook.{CheckedBook}
use Rattle.directive.specs.declared.compacts.CompactName.{CompactName}
use Rattle.directive.specs.declared.compacts.CompactNames.{CompactNames}
use Rattle.directive.specs.Name.{compact}
use Rattle.directive.specs.Steps.{RunAlike}

-- two texts begin with so many bytes that are the same, and no more
abbrev pub Agreed : List ℕ → List ℕ → ℕ → Type 0
Agreed a b run = RunAlike exactly a b run × (run < length a → run < length b → eqb (get_or a run 0) (get_or b run 0) ≡ false)

-- whether a blank stands behind the first n letters of a name
unfoldable pub blank_behind : List ℕ → ℕ → Bool
blank_behind [] n = false
blank_behind (x ∷ xs) zero = eqb x 32 || (is_space x && blank_behind xs zero)
blank_behind (x ∷ xs) (suc n) = blank_behind xs (cond (is_space x) (suc n) n)

-- whether a bit of a number of 64 is 1
abbrev pub has_bit : ℕ → ℕ → Bool
has_bit bits n = ltb n 64 && eqb (bits / 2 ^ n % 2) 1

-- what stands where there is no name
abbrev pub no_name : CompactName
no_name = record { letters = []; len = 0; shared = 0; blanks = 0 }

-- what a name says alone
pub record Alone (name : List ℕ) (c : CompactName) : Type 0 where
  pub long : length c.letters ≡ 64
  pub fits : c.len ≤ 64
  pub letters : take c.len c.letters ≡ map fold (compact name)
  pub blanks : (n : ℕ) → has_bit c.blanks n ≡ blank_behind name n

-- a name without its blanks, and how it begins as the one before it
pub record Compacted (before name : List ℕ) (c : CompactName) : Type 0 where
  pub alone : Alone name c
  pub shared : Agreed (map fold (compact name)) (map fold (compact before)) c.shared

-- those of a book; before the first stands none
abbrev pub Compacts : Book → CompactNames → Type 0
Compacts book c = (i : ℕ) → i < length book.directives
    → Compacted (get_or ([] ∷ map (λ e. e.name) book.directives) i []) (get_or (map (λ e. e.name) book.directives) i []) (get_or c.names i no_name)

-- those that were made, if any were
abbrev pub IfCompacts : Book → Option CompactNames → Type 0
IfCompacts book None = Unit {0}
IfCompacts book (Some c) = Compacts book c

-- the same under a book as its check left it
abbrev pub IfChecked : Result CheckedBook Refusal → Option CompactNames → Type 0
IfChecked (Ok b) compacts = IfCompacts (book_of b.bytes.now) compacts
IfChecked (Err r) compacts = Unit {0}

-- that has one proof at most, so it may be a ghost field
pub IfChecked-prop : (r : Result CheckedBook Refusal) (compacts : Option CompactNames) → IsProp (IfChecked r compacts)
IfChecked-prop (Ok b) (Some c) = Prim.hlevel logic.props
IfChecked-prop (Ok b) None = Prim.hlevel logic.props
IfChecked-prop (Err r) compacts = Prim.hlevel logic.props
