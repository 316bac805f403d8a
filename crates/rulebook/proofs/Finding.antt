-- What is found among the entries of a book: the index that the definition says, a place inside the book, and there the entry's rule.
-- Assumes nothing.
use mathlib.Core.Path.{◌≡◌, refl}
use mathlib.Core.Bool.{Bool, true, false, cond}
use Rattle.std.specs.Prelude.{Option, Some, None}
use mathlib.Core.List.{List, [], ◌∷◌}
use Prim.Native.Nat.{ℕ, zero, suc, ◌+◌, ◌<◌}
use native.Mathlib.Omega.{arith}
use lib.ListN.{length, get_or}
use Rattle.ascii.specs.Text.{same_by, part, comparing}
use Rattle.bookform.specs.declared.ClauseRule.{ClauseRule}
use Rattle.rulebook.specs.declared.Header.{Header}
use Rattle.rulebook.specs.declared.index.FoundEntry.{FoundEntry}
use Rattle.bookform.specs.Format.{rule_for, HasForm}
use Rattle.rulebook.specs.Book.{Entry, rule_said, name_at, entries_from, Laid, entries_in, LaidIn, clauses_of, header_of, book_of}
use Rattle.rulebook.specs.Lookup.{comparison, entry_from, find_from, rule_at, clause_entry}
use Rattle.rulebook.proofs.Forms.{form-directives, form-clauses}

-- the index alone
abbrev pub index_of : Option FoundEntry → Option ℕ
index_of (Some e) = Some e.index
index_of None = None

pub index-found : (f : ℕ → ℕ) (i : ℕ) (name : List ℕ) (es : List Entry) → entry_from f i name es ≡ index_of (find_from f i name es)
unfolding entry_from find_from
index-found f i name [] = refl
index-found f i name (e ∷ es) = go (same_by f e.name name) (index-found f (suc i) name es)
  where
    go : (b : Bool) → entry_from f (suc i) name es ≡ index_of (find_from f (suc i) name es)
        → cond b (Some i) (entry_from f (suc i) name es) ≡ index_of (cond b (Some (record { index = i; at = e.at })) (find_from f (suc i) name es))
    go true h = refl
    go false h = h

-- entry j, k after the first, at place p
record Found (bs : List ℕ) (d : ClauseRule) (i n at j p : ℕ) : Type 0 where
  inside : p < length bs
  below : j < i + n
  k : ℕ
  is : j ≡ i + k
  says : rule_at d k (entries_from 1 n at bs) ≡ rule_said (rule_for (get_or bs p 0))

module _ (bs : List ℕ) (d : ClauseRule) (f : ℕ → ℕ) (name : List ℕ) where
  found_from : (n i at : ℕ) (e : FoundEntry) → Laid 1 n at bs → find_from f i name (entries_from 1 n at bs) ≡ Some e → Found bs d i n at e.index e.at
  unfolding Laid entries_from find_from rule_at
  found_from zero i at e l h = cc
  found_from (suc n) i at e l h =
      go (same_by f (part bs (name_at 1 at bs)) name) (found_from n (suc i) (name_at 1 at bs).end e l.2) h
    where
      go : (b : Bool) → (find_from f (suc i) name (entries_from 1 n (name_at 1 at bs).end bs) ≡ Some e → Found bs d (suc i) n (name_at 1 at bs).end e.index e.at)
          → cond b (Some (record { index = i; at = at })) (find_from f (suc i) name (entries_from 1 n (name_at 1 at bs).end bs)) ≡ Some e → Found bs d i (suc n) at e.index e.at
      go true ih h =
          let ij : e.index ≡ i = cc in
          let pa : e.at ≡ at = cc in
          record { inside = omega (arith, l.1); below = omega arith; k = 0; is = omega arith; says = rw pa }
      go false ih h =
          let r = ih h in
          record { inside = r.inside; below = omega (arith, r.below); k = suc r.k; is = omega (arith, r.is); says = r.says }

-- the header's entries lie inside the book
pub header-directives : (bs : List ℕ) (h : Header) → HasForm bs → h ≡ header_of bs → LaidIn h.directives bs
unfolding header_of
header-directives bs h form e = rw e (form-directives bs form)

pub header-clauses : (bs : List ℕ) (h : Header) → HasForm bs → h ≡ header_of bs → LaidIn h.clauses bs
unfolding header_of
header-clauses bs h form e = rw e (form-clauses bs form)

-- what the header says of the book
module _ (bs : List ℕ) (h : Header) (e : h ≡ header_of bs) where
  pub book-case : (book_of bs).ignores_case ≡ h.ignores_case
  unfolding book_of
  book-case = rw e

  pub book-blanks : (book_of bs).optional_blanks ≡ h.optional_blanks
  unfolding book_of
  book-blanks = rw e

  pub book-default : (book_of bs).default ≡ h.default_rule
  unfolding book_of
  book-default = rw e

  pub book-directives : (book_of bs).directives ≡ entries_in h.directives bs
  unfolding book_of
  book-directives = rw e

  pub book-clauses : (book_of bs).clauses ≡ entries_in h.clauses bs
  unfolding book_of
  book-clauses = rw e

-- a clause entry that is found
pub clause-found : (bs : List ℕ) (h : Header) (d : ClauseRule) (f : ℕ → ℕ) (name : List ℕ) (found : FoundEntry)
    → HasForm bs → h ≡ header_of bs → find_from f 0 name (entries_in h.clauses bs) ≡ Some found
    → (found.at < length bs) × (found.index < get_or bs 8 0) × (rule_at d found.index (entries_in h.clauses bs) ≡ rule_said (rule_for (get_or bs found.at 0)))
unfolding header_of clauses_of
clause-found bs h d f name found form e is =
    let r = found_from bs d f name (get_or bs 8 0) 0 (clauses_of bs).first found (form-clauses bs form) (rw e at is) in
    let q : found.index ≡ r.k = omega (arith, r.is) in
    rw e (r.inside, omega (arith, r.below), rw q r.says)

-- the entry that the definition gives to a clause's name
module _ (bs : List ℕ) (h : Header) (e : h ≡ header_of bs) (name : List ℕ) where
  pub entry_found : HasForm bs → (found : FoundEntry) → find_from (comparing h.ignores_case) 0 name (entries_in h.clauses bs) ≡ Some found
      → clause_entry (book_of bs) name ≡ record { index = Some found.index; rule = rule_said (rule_for (get_or bs found.at 0)) }
  unfolding clause_entry
  entry_found form found is =
      let r = clause-found bs h h.default_rule _ name found form e is in
      rw (book-case bs h e, book-clauses bs h e, book-default bs h e, index-found, is, r.2)

  pub entry-missing : find_from (comparing h.ignores_case) 0 name (entries_in h.clauses bs) ≡ None
      → clause_entry (book_of bs) name ≡ record { index = None; rule = h.default_rule }
  unfolding clause_entry
  entry-missing found = rw (book-case bs h e, book-clauses bs h e, book-default bs h e, index-found, found)

-- the directive's entry that the definition finds
pub directive-index : (bs : List ℕ) (h : Header) → h ≡ header_of bs → (name : List ℕ)
    → entry_from (comparison (book_of bs)) 0 name (book_of bs).directives ≡ index_of (find_from (comparing h.ignores_case) 0 name (entries_in h.directives bs))
directive-index bs h e name = rw (book-case bs h e, book-directives bs h e) (index-found (comparing h.ignores_case) 0 name (entries_in h.directives bs))
