-- The place of a name and its entry: the entry of a candidate is one of the book's, of which there are at most 255, and the answer of a search lies
-- where its last name does. Assumes nothing.
use mathlib.Core.Path.{◌≡◌, refl}
use mathlib.Core.Bool.{Bool, true, false, cond}
use Rattle.std.specs.Prelude.{Option, Some, None}
use mathlib.Core.List.{List, [], ◌∷◌}
use Prim.Native.Nat.{ℕ, suc, ◌+◌, ◌<◌, ◌≤◌}
use native.Mathlib.Omega.{arith}
use lib.ListN.{length, get_or}
use Rattle.rulebook.specs.Book.{Entry, Book, header_of, book_of}
use Rattle.rulebook.specs.Lookup.{comparison, entry_from}
use Rattle.rulebook.proofs.Laying.{length-entries}
use Rattle.rulebook.proofs.Appended.{entry_from-below}
use Rattle.std.specs.Option.{ok_or}
use Rattle.refusal.specs.declared.Reason.TheVariants.{NoDirective}
use Rattle.refusal.specs.Answer.{told}
use Rattle.refusal.specs.Verdict.{refusal_at}
use Rattle.directive.specs.declared.Named.{Named}
use Rattle.directive.specs.Name.{same_compact, entries_with, only, or_compact, entry_of, latest, or_missing}
use Rattle.directive.specs.Steps.{Good, Ends}

-- the only one of the entries, counted from i
only_below : (p : List ℕ → Bool) (i k : ℕ) (es : List Entry) → only (entries_with p i es) ≡ Some k → k < i + length es
unfolding entries_with
only_below p i k [] h = cc
only_below p i k (e ∷ es) h = go (p e.name) (only_below p (suc i) k es) (entries_with p (suc i) es) refl h
  where
    first : (r : List ℕ) → only (i ∷ r) ≡ Some k → k < i + suc (length es)
    first [] h = let q : i ≡ k = cc in omega arith
    first (j ∷ r) h = cc

    go : (b : Bool) → (only (entries_with p (suc i) es) ≡ Some k → k < suc i + length es) → (r : List ℕ) → entries_with p (suc i) es ≡ r
        → only (cond b (i ∷ r) r) ≡ Some k → k < i + suc (length es)
    go true ih r q h = first r h
    go false ih r q h = omega (arith, ih (rw q h))

entry-below : (book : Book) (c : List ℕ) (k : ℕ) → entry_of book c ≡ Some k → k < length book.directives
unfolding entry_of
entry-below book c k h =
    go book.optional_blanks (entry_from (comparison book) 0 c book.directives) (only (entries_with (λ n. same_compact n c) 0 book.directives))
    (λ e. omega (arith, entry_from-below (comparison book) 0 k c book.directives e))
    (λ e. omega (arith, only_below (λ n. same_compact n c) 0 k book.directives e))
    h
  where
    go : (b : Bool) (x y : Option ℕ) → (x ≡ Some k → k < length book.directives) → (y ≡ Some k → k < length book.directives)
        → or_compact b x y ≡ Some k → k < length book.directives
    go b (Some i) y p q e = p e
    go true None y p q e = q e
    go false None y p q e = p e

-- "byte 7 directives (1 to 255)"
pub few-directives : (bs : List ℕ) → get_or bs 7 0 < 256 → length (book_of bs).directives ≤ 255
unfolding book_of header_of
few-directives bs h = omega (arith, length-entries 0 bs (get_or bs 7 0) 9)

-- a name that is remembered
pub good-latest : (bs c : List ℕ) → get_or bs 7 0 < 256 → (start n end : ℕ) (before : Option Named) → start < end → end ≤ n → Good start n before
    → Good start n (latest (entry_of (book_of bs) c) end before)
good-latest bs c b start n end before l m g = go (entry_of (book_of bs) c) (entry-below (book_of bs) c)
  where
    go : (o : Option ℕ) → ((k : ℕ) → o ≡ Some k → k < length (book_of bs).directives) → Good start n (latest o end before)
    go None h = g
    go (Some i) h = (l, m, omega (arith, h i refl, few-directives bs b))

-- the answer of a search that is over
pub finished : (from : ℕ) (f : Option Named) → told (ok_or f (refusal_at NoDirective from)) ≡ or_missing from f
finished from None = refl
finished from (Some f) = refl

pub finished-ends : (from start n : ℕ) (f : Option Named) → from ≤ start → start ≤ n → Good start n f → Ends from start n (ok_or f (refusal_at NoDirective from))
finished-ends from start n None l m g = (omega arith, omega arith)
finished-ends from start n (Some f) l m g = g
