-- The names of a book are counted one after another: what is counted so far, and what those that are left will add, is what all of them make.
-- A step for a name that is marked. Assumes nothing.
use mathlib.Core.Path.{◌≡◌, refl, sym, ap, ◌∙◌}
use mathlib.Core.Bool.{Bool, true, false, cond, ◌&&◌, ◌||◌, and-false, or-true, or-false}
use mathlib.Core.List.{List, [], ◌∷◌, map}
use Prim.Native.Nat.{ℕ, ◌+◌, ◌<◌, ◌≤◌}
use native.Mathlib.Numerals.{add-one}
use native.Mathlib.Omega.{arith}
use lib.ListN.{length, take, get_or, set, length-take}
use lib.Dec.{eqb, leb}
use borrow.Author.Tests.{eqb-true, eqb-false, le-leb, lt-leb}
use Rattle.std.specs.Int.RustNames.{bit_or}
use Rattle.std.proofs.lemmas.List.{get_or-set_same, get_or-set_other, length-set, length-map}
use Rattle.std.specs.Prelude.{Option, Some, None}
use Rattle.std.specs.List.{list_any}
use Rattle.ascii.specs.Ascii.{fold}
use Rattle.ascii.proofs.Flags.{by_cases}
use Rattle.rulebook.specs.Book.{Book}
use Rattle.directive.specs.declared.foreseen.Tally.{Tally}
use Rattle.directive.specs.declared.foreseen.Tally.TheVariants.{Zero}
use Rattle.directive.specs.Name.{compact, same_compact, head_from}
use Rattle.directive.specs.Steps.{OfEach, EndTold, Counted, one_more, tally}
use Rattle.directive.specs.declared.compacts.CompactName.{CompactName}
use Rattle.directive.specs.Compacts.{Agreed, Alone, has_bit}
use Rattle.directive.proofs.Marking.{or-assoc}
use Rattle.directive.proofs.Sharing.{head-run, same-run}
use Rattle.directive.proofs.Blanks.{bits-or}
use Rattle.directive.proofs.Tallying.{names_of, places, entries-places, tally-place, tally-end}

-- so many names are counted, and the others are left
pub record Counting (t : List ℕ) (all rest : List (List ℕ)) (number : ℕ) (heads : ℕ → Bool) (ends : List Tally) : Type 0 where
  pub heads_so : OfEach t (λ c n. (heads n || list_any (λ m. head_from same_compact [] m c) rest) ≡ list_any (λ m. head_from same_compact [] m c) all)
  pub ends_so : OfEach t (λ c n. tally (get_or ends n Zero) (places (λ m. same_compact m c) number rest) ≡ tally Zero (places (λ m. same_compact m c) 0 all))

-- the places that are marked in a list, and those in a list or by bits
abbrev pub marked : List Bool → ℕ → Bool
marked heads n = get_or heads n false

abbrev pub marked_too : List Bool → ℕ → ℕ → Bool
marked_too heads bits n = get_or heads n false || has_bit bits n

-- the place where a name ends counts one more
abbrev pub counted_at : List Tally → ℕ → Option ℕ → List Tally
counted_at ends number None = ends
counted_at ends number (Some end) = set ends end (one_more (get_or ends end Zero) number)

pub length-counted : (ends : List Tally) (number : ℕ) (end : Option ℕ) → length (counted_at ends number end) ≡ length ends
length-counted ends number None = refl
length-counted ends number (Some end) = length-set ends end (one_more (get_or ends end Zero) number)

module _ (t : List ℕ) (all : List (List ℕ)) where
  pub counting-none : (heads : ℕ → Bool) (ends : List Tally) → ((n : ℕ) → n ≤ length t → heads n ≡ false) → ((n : ℕ) → n ≤ length t → get_or ends n Zero ≡ Zero)
      → Counting t all all 0 heads ends
  counting-none heads ends h e = record {
    heads_so = λ c n l q. rw (h n l);
    ends_so = λ c n l q. rw (e n l);
  }

  module _ (name : List ℕ) (rest : List (List ℕ)) (number : ℕ) (heads : ℕ → Bool) (ends : List Tally) (so : Counting t all (name ∷ rest) number heads ends) where
    -- a name more
    ends-at : (end : Option ℕ) → EndTold name t end → length t < length ends → (c : List ℕ) (n : ℕ) → n ≤ length t → compact c ≡ take n t
        → get_or (counted_at ends number end) n Zero ≡ cond (same_compact name c) (one_more (get_or ends n Zero) number) (get_or ends n Zero)
    ends-at None d l c n m q = rw (d c n m q)
    ends-at (Some end) d l c n m q =
        rw (d.1 c n m q)
        (by_cases (eqb n end)
        (λ e. let z : n ≡ end = eqb-true n end e in rw (e, z, get_or-set_same ends end (one_more (get_or ends end Zero) number) Zero (omega (arith, d.0))))
        (λ e. rw (e, get_or-set_other ends end n (one_more (get_or ends end Zero) number) Zero (λ z. eqb-false n end e z))))

    pub counting-name : (new : ℕ → Bool) (end : Option ℕ) → OfEach t (λ c n. new n ≡ (heads n || head_from same_compact [] name c)) → EndTold name t end → length t < length ends
        → Counting t all rest (number + 1) new (counted_at ends number end)
    counting-name new end h d l = record {
      heads_so = λ c n m q.
          rw (h c n m q) (or-assoc (heads n) (head_from same_compact [] name c) (list_any (λ k. head_from same_compact [] k c) rest)) ∙ so.heads_so c n m q;
      ends_so = λ c n m q.
          rw (ends-at end d l c n m q, add-one) (sym (tally-place (λ k. same_compact k c) (get_or ends n Zero) number name rest)) ∙ so.ends_so c n m q;
    }

-- no name is left
pub counting-all : (book : Book) (t : List ℕ) (number : ℕ) (now : ℕ → Bool) (heads : List Bool) (ends : List Tally) → ((n : ℕ) → get_or heads n false ≡ now n)
    → Counting t (names_of book.directives) [] number now ends → Counted book t heads ends
counting-all book t number now heads ends e so = record {
  heads_of = λ c n m q. e n ∙ sym (or-false (now n)) ∙ so.heads_so c n m q;
  ends_of = λ c n m q.
      sym (tally-end (λ k. same_compact k c) (get_or ends n Zero) number) ∙ so.ends_so c n m q ∙ ap (tally Zero) (sym (entries-places (λ k. same_compact k c) 0 book.directives));
}

-- a name more, by its letters and the places of its blanks, if letters agree with it so far
module _ (t name : List ℕ) (all rest : List (List ℕ)) (number : ℕ) (heads : List Bool) (bits : ℕ) (ends : List Tally)
    (so : Counting t all (name ∷ rest) number (marked_too heads bits) ends) (here : CompactName) (alone : Alone name here) (run kept : ℕ) (g : Agreed (map fold (compact name)) (map fold t) run)
    (k : (n : ℕ) → has_bit kept n ≡ (has_bit here.blanks n && leb n run)) (long : length t < length ends) (room : length t < length heads) where
  size : length (compact name) ≡ here.len
  size = sym (length-map (compact name) fold) ∙ rw (← alone.letters) (simp length-take (omega (arith, alone.fits, alone.long)))

  within : run ≤ length t
  within = omega (arith, g.0.1, length-map t fold)

  shuffle : (h b p l e : Bool) → ((h || (l && e)) || (b || (p && l))) ≡ ((h || b) || (l && (p || e)))
  shuffle true b p l e = refl
  shuffle false true p true true = refl
  shuffle false true p true false = refl
  shuffle false true p false e = refl
  shuffle false false true true true = refl
  shuffle false false true true false = refl
  shuffle false false false true e = or-false e
  shuffle false false true false e = refl
  shuffle false false false false e = refl

  heads-with : (new : List Bool) → ((n : ℕ) → get_or new n false ≡ (get_or heads n false || (leb n run && eqb n here.len)))
      → OfEach t (λ c n. marked_too new (bit_or bits kept) n ≡ (marked_too heads bits n || head_from same_compact [] name c))
  heads-with new h c n m q =
      rw (h n, bits-or bits kept n, k n, head-run name t run g c n m q, ← alone.blanks n, size)
      (shuffle (get_or heads n false) (has_bit bits n) (has_bit here.blanks n) (leb n run) (eqb n here.len))

  pub counting-end : run ≡ here.len → Counting t all rest (number + 1) (marked_too (set heads run true) (bit_or bits kept)) (set ends run (one_more (get_or ends run Zero) number))
  counting-end e =
      counting-name t all name rest number (marked_too heads bits) ends so (marked_too (set heads run true) (bit_or bits kept)) (Some run)
      (heads-with (set heads run true) (λ n. marked-here n))
      (within, λ c n m q. same-run name t run g c n m q ∙ rw (size, ← e) (same-place n)) long
    where
      same-place : (n : ℕ) → (leb n run && eqb n run) ≡ eqb n run
      same-place n = by_cases (eqb n run) (λ w. let z = eqb-true n run w in rw (w, le-leb n run (omega arith))) (λ w. rw (w, and-false (leb n run)))

      marked-here : (n : ℕ) → get_or (set heads run true) n false ≡ (get_or heads n false || (leb n run && eqb n here.len))
      marked-here n =
          rw (← e, same-place n)
          (by_cases (eqb n run)
          (λ w. let z : n ≡ run = eqb-true n run w in rw (w, z, or-true, get_or-set_same heads run true false (omega (arith, within))))
          (λ w. rw (w, or-false, get_or-set_other heads run n true false (eqb-false n run w))))

  pub counting-past : (run ≡ here.len → ⊥) → Counting t all rest (number + 1) (marked_too heads (bit_or bits kept)) ends
  counting-past e =
      counting-name t all name rest number (marked_too heads bits) ends so (marked_too heads (bit_or bits kept)) None
      (heads-with heads (λ n. rw (apart n) (sym (or-false (get_or heads n false)))))
      (λ c n m q. same-run name t run g c n m q ∙ rw size (apart n)) long
    where
      apart : (n : ℕ) → (leb n run && eqb n here.len) ≡ false
      apart n =
          by_cases (eqb n here.len)
          (λ w. let z = eqb-true n here.len w in rw (lt-leb n run (omega (arith, g.0.0, length-map (compact name) fold, size, e))))
          (λ w. rw (w, and-false (leb n run)))
