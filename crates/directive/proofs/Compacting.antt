-- Laws of a book's names without their blanks: the name at hand among those that are left, what is made of it, and of a name more. Assumes nothing.
use mathlib.Core.Path.{◌≡◌, sym, ap, ◌∙◌}
use mathlib.Core.List.{List, [], ◌∷◌, map}
use Prim.Native.Nat.{ℕ, zero, suc, ◌+◌, ◌<◌, ◌≤◌}
use native.Mathlib.Numerals.{add-one}
use native.Mathlib.Omega.{arith}
use lib.ListN.{length, take, drop, get_or, set, length-take}
use lib.Seq.{drop-cons, drop-drop, get_or-drop}
use lib.Dec.{eqb}
use borrow.Author.Tests.{eqb-true, eqb-false}
use Rattle.std.proofs.lemmas.List.{get_or-set_same, get_or-set_other}
use Rattle.rulebook.proofs.Laying.{length-entries}
use Rattle.ascii.specs.Ascii.{fold}
use Rattle.ascii.proofs.Flags.{by_cases}
use Rattle.rulebook.specs.Book.{Entry, Book, book_of, header_of}
use Rattle.directive.specs.declared.compacts.CompactName.{CompactName}
use Rattle.directive.specs.declared.compacts.CompactNames.{CompactNames}
use Rattle.directive.specs.Name.{compact}
use Rattle.directive.specs.Compacts.{Compacts, Agreed, Alone, Compacted, no_name, has_bit, blank_behind}
use Rattle.directive.proofs.Long.{Short}
use Rattle.directive.proofs.Blanks.{bits-none}
use Rattle.directive.proofs.Tallying.{names_of, length-names}

-- the name at hand is the first of those that are left
module _ (names : List (List ℕ)) (i : ℕ) (name : List ℕ) (rest : List (List ℕ)) (e : drop i names ≡ name ∷ rest) where
  pub name-at : get_or names i [] ≡ name
  name-at =
      let z : i + 0 ≡ i = omega arith in
      let g : get_or (name ∷ rest) 0 [] ≡ get_or names i [] = rw (e, z) at (get_or-drop i names 0 []) in
      sym g

  pub name-behind : get_or ([] ∷ names) (i + 1) [] ≡ name
  name-behind = rw add-one name-at

  pub rest-behind : drop (i + 1) names ≡ rest
  rest-behind = sym (drop-drop 1 i names) ∙ ap (drop 1) e

-- it has at most 64 bytes
pub short-at : (es : List Entry) → Short es → (i : ℕ) (name : List ℕ) (rest : List (List ℕ)) → drop i (names_of es) ≡ name ∷ rest → length name ≤ 64
unfolding Short
short-at [] s zero name rest e = cc
short-at [] s (suc i) name rest e = cc
short-at (x ∷ es) s zero name rest e = let q : x.name ≡ name = ap (λ l. get_or l 0 []) e in rw q at s.0
short-at (x ∷ es) s (suc i) name rest e = short-at es s.1 i name rest e

pub blanks-none : (n : ℕ) → has_bit 0 n ≡ blank_behind [] n
unfolding blank_behind
blanks-none n = bits-none n

-- what it says alone does not depend on the one before it
abbrev pub sharing : CompactName → ℕ → CompactName
sharing c shared = record { letters = c.letters; len = c.len; shared = shared; blanks = c.blanks }

pub alone-sharing : (name : List ℕ) (c : CompactName) (shared : ℕ) → Alone name c → Alone name (sharing c shared)
alone-sharing name c shared a = record { long = a.long; fits = a.fits; letters = a.letters; blanks = a.blanks }

-- one of those that were made, and how far letters go with it
module _ (book : Book) (cs : CompactNames) (made : Compacts book cs) (i : ℕ) (l : i < length book.directives) where
  abbrev pub here : CompactName
  here = get_or cs.names i no_name

  abbrev pub before : List ℕ
  before = get_or ([] ∷ names_of book.directives) i []

  abbrev pub name : List ℕ
  name = get_or (names_of book.directives) i []

  pub fits-here : (here.shared ≤ here.len) × (here.len ≤ length here.letters)
  fits-here =
      let c = made i l in
      let n : length (map fold (compact name)) ≡ here.len = rw (← c.alone.letters) (simp length-take (omega (arith, c.alone.fits, c.alone.long))) in
      (omega (arith, c.shared.0.0, n), omega (arith, c.alone.fits, c.alone.long))

  pub run-here : (t : List ℕ) (run result : ℕ)
      → ((b : List ℕ) → Agreed (take here.len here.letters) b here.shared → Agreed b t run → Agreed (take here.len here.letters) t result)
      → Agreed (map fold (compact before)) t run → Agreed (map fold (compact name)) t result
  run-here t run result f g = let c = made i l in rw c.alone.letters at (f (map fold (compact before))) c.shared g

  pub left-here : drop i (names_of book.directives) ≡ name ∷ drop (i + 1) (names_of book.directives)
  left-here = rw add-one (drop-cons (names_of book.directives) i [] (omega (arith, l, length-names book.directives)))

-- the header counts the directives
pub directives-count : (bs : List ℕ) → length (book_of bs).directives ≡ (header_of bs).directives.count
unfolding book_of header_of
directives-count bs = length-entries 0 bs (get_or bs 7 0) 9

-- a name more is made
abbrev pub MadeTo : List (List ℕ) → List CompactName → ℕ → Type 0
MadeTo names cs n = (i : ℕ) → i < n → Compacted (get_or ([] ∷ names) i []) (get_or names i []) (get_or cs i no_name)

pub made-next : (names : List (List ℕ)) (cs : List CompactName) (n : ℕ) (c : CompactName) → n < length cs → Compacted (get_or ([] ∷ names) n []) (get_or names n []) c
    → MadeTo names cs n → MadeTo names (set cs n c) (n + 1)
made-next names cs n c l g f i m =
    by_cases (eqb i n)
    (λ e. let q : i ≡ n = eqb-true i n e in rw (q, get_or-set_same cs n c no_name l) g)
    (λ e. let q = eqb-false i n e in rw (get_or-set_other cs n i c no_name q) (f i (omega arith)))
