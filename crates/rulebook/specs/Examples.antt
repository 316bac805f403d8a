-- Books with their faults, evaluated: each rule of the book's form, broken at the first byte that can break it.
use Rattle.std.specs.Prelude.{ℕ, ◌≡◌, refl, List, [], ◌∷◌, ◌++◌, map, length, take}
use Rattle.std.specs.Prelude.{Option, Some, None}
use Rattle.ascii.specs.Text.{bytes, same_by}
use Rattle.bookform.specs.Format.{bad_from}
use Rattle.rulebook.specs.Book.{entries_from, place_after, clauses_of, header_of, book_of}
use Rattle.rulebook.specs.Check.{is_named, repeat_from, book_fault}

-- a book of version 1: flags, default rule, counts, entries
abbrev book : ℕ → ℕ → ℕ → ℕ → List ℕ → List ℕ
book flags rule d c entries = bytes "DRB" ++ (0 ∷ 1 ∷ flags ∷ rule ∷ d ∷ c ∷ entries)

abbrev directive : List ℕ → List ℕ
directive name = length name ∷ name

abbrev clause : ℕ → List ℕ → List ℕ
clause rule name = rule ∷ length name ∷ name

-- document 01's "Strict"
abbrev pub strict : List ℕ
strict = book 0 3 1 1 (directive (bytes "parallel") ++ clause 0 (bytes "nowait"))

pub faults :
    map {B = Option ℕ} book_fault (
    []
    ∷ bytes "DRX"
    ∷ bytes "DRB"
    ∷ (bytes "DRB" ++ (1 ∷ []))
    ∷ (bytes "DRB" ++ (0 ∷ 2 ∷ []))
    ∷ book 4 0 1 0 []
    ∷ book 0 4 1 0 []
    ∷ book 0 0 0 0 []
    ∷ book 3 3 1 0 []
    ∷ strict
    ∷ take 25 strict
    ∷ (strict ++ (0 ∷ []))
    ∷ book 0 0 1 0 (0 ∷ [])
    ∷ book 0 0 1 0 (65 ∷ [])
    ∷ book 0 0 1 0 (64 ∷ [])
    ∷ book 0 0 1 0 (directive (bytes " a"))
    ∷ book 0 0 1 0 (directive (bytes "a "))
    ∷ book 0 0 1 0 (directive (bytes "a  b"))
    ∷ book 0 0 1 0 (3 ∷ bytes "a ")
    ∷ book 0 0 1 0 (directive (bytes "a b"))
    ∷ book 0 0 1 0 (directive (bytes "a-b"))
    ∷ book 0 0 1 0 (directive (97 ∷ 200 ∷ []))
    ∷ book 0 0 1 1 (directive (bytes "a") ++ clause 4 (bytes "b"))
    ∷ book 0 0 1 1 (directive (bytes "a") ++ clause 3 (bytes "b c"))
    ∷ book 0 0 2 0 (directive (bytes "a") ++ directive (bytes "A"))
    ∷ book 0 0 1 2 (directive (bytes "a") ++ clause 0 (bytes "bc") ++ clause 1 (bytes "bC"))
    ∷ book 0 0 2 1 (directive (bytes "a b") ++ directive (bytes "ab") ++ clause 0 (bytes "ab"))
    ∷ book 0 0 2 0 (directive (bytes "a") ++ directive (bytes "a") ++ (0 ∷ []))
    ∷ book 0 0 2 1 (directive (bytes "a") ++ directive (bytes "a") ++ (0 ∷ []))
    ∷ []
    )
    ≡ (
    Some 0
    ∷ Some 2
    ∷ Some 3
    ∷ Some 3
    ∷ Some 4
    ∷ Some 5
    ∷ Some 6
    ∷ Some 7
    ∷ Some 9
    ∷ None
    ∷ Some 25
    ∷ Some 26
    ∷ Some 9
    ∷ Some 9
    ∷ Some 10
    ∷ Some 10
    ∷ Some 11
    ∷ Some 12
    ∷ Some 12
    ∷ None
    ∷ Some 11
    ∷ Some 11
    ∷ Some 11
    ∷ Some 14
    ∷ Some 11
    ∷ Some 15
    ∷ None
    ∷ Some 13
    ∷ Some 14
    ∷ []
    )
unfolding same_by bad_from entries_from place_after clauses_of header_of book_of is_named repeat_from book_fault
faults = refl
