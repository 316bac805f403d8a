-- A book's fault, in the order in which its check finds it, and the facts of a header. Assumes nothing.
use mathlib.Core.Path.{◌≡◌, refl}
use Rattle.std.specs.Prelude.{Some, None}
use mathlib.Core.List.{List, []}
use Prim.Native.Nat.{ℕ}
use lib.ListN.{get_or}
use Rattle.rulebook.specs.declared.Header.{Header}
use Rattle.bookform.specs.declared.Expect.TheVariants.{HeaderByte}
use Rattle.bookform.specs.Format.{lead_of, bad_from, HasForm}
use Rattle.rulebook.specs.Book.{place_after, entries_in, clauses_of, header_of, book_of}
use Rattle.rulebook.specs.Check.{repeat_from, book_fault}
use Rattle.rulebook.proofs.Finding.{book-directives, book-clauses}

module _ (bs : List ℕ) where
  -- the book's fault: in its form, or else a directive that repeats another, or else a clause
  pub fault-form : (p : ℕ) → bad_from (HeaderByte 0) 0 bs ≡ Some p → book_fault bs ≡ Some p
  unfolding book_fault
  fault-form p e = rw e

  pub fault-first : (p : ℕ) → HasForm bs → repeat_from [] (book_of bs).directives ≡ Some p → book_fault bs ≡ Some p
  unfolding book_fault
  fault-first p f d = rw (f, d)

  pub fault-left : HasForm bs → repeat_from [] (book_of bs).directives ≡ None → book_fault bs ≡ repeat_from [] (book_of bs).clauses
  unfolding book_fault
  fault-left f d = rw (f, d)

  -- the counts of a header are bytes
  module _ (h : Header) (e : h ≡ header_of bs) where
    pub count-directives : h.directives.count ≡ get_or bs 7 0
    unfolding header_of
    count-directives = rw e

    pub count-clauses : h.clauses.count ≡ get_or bs 8 0
    unfolding header_of clauses_of
    count-clauses = rw e

  -- they begin where the directives end
  pub clauses-begin : (header_of bs).clauses.first ≡ place_after (lead_of (header_of bs).directives.kind) (header_of bs).directives.count (header_of bs).directives.first bs
  unfolding header_of clauses_of
  clauses-begin = refl

  -- the fault of a book whose form is right, in the entries of its header
  pub directives-fault : HasForm bs → (p : ℕ) → repeat_from [] (entries_in (header_of bs).directives bs) ≡ Some p → book_fault bs ≡ Some p
  directives-fault f p e = fault-first p f (rw (book-directives bs (header_of bs) refl) e)

  pub clauses-fault : HasForm bs → repeat_from [] (entries_in (header_of bs).directives bs) ≡ None
      → book_fault bs ≡ repeat_from [] (entries_in (header_of bs).clauses bs)
  clauses-fault f e = rw (fault-left f (rw (book-directives bs (header_of bs) refl) e), book-clauses bs (header_of bs) refl)
