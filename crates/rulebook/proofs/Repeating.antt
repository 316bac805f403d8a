-- An entry repeats an earlier name where the name is found among the earlier ones: the laws of repeats in the terms of a loop.
-- Assumes nothing.
use mathlib.Core.Path.{◌≡◌, refl}
use mathlib.Core.Bool.{Bool, true, false, cond, ◌||◌}
use Rattle.std.specs.Prelude.{Option, Some, None}
use mathlib.Core.List.{List, [], ◌∷◌}
use Prim.Native.Nat.{ℕ, suc, ◌+◌}
use native.Mathlib.Numerals.{add-one}
use Rattle.ascii.specs.declared.Range.{Range}
use Rattle.ascii.specs.Ascii.{fold}
use Rattle.ascii.specs.Text.{same_by, part}
use Rattle.rulebook.specs.declared.index.FoundEntry.{FoundEntry}
use Rattle.rulebook.specs.Book.{Entry, name_at, entries_from, place_after}
use Rattle.rulebook.specs.Check.{is_named, repeat_from}
use Rattle.rulebook.specs.Lookup.{find_from}
use Rattle.rulebook.proofs.Laying.{entries-snoc}

-- a name that is found is an entry's
abbrev pub is_found : Option FoundEntry → Bool
is_found (Some e) = true
is_found None = false

pub named-found : (f : ℕ → ℕ) (i : ℕ) (name : List ℕ) (es : List Entry) → is_named f name es ≡ is_found (find_from f i name es)
unfolding is_named find_from
named-found f i name [] = refl
named-found f i name (e ∷ es) = go (same_by f e.name name) (named-found f (suc i) name es)
  where
    go : (b : Bool) → is_named f name es ≡ is_found (find_from f (suc i) name es)
        → (b || is_named f name es) ≡ is_found (cond b (Some (record { index = i; at = e.at })) (find_from f (suc i) name es))
    go true h = refl
    go false h = h

module _ (lead : ℕ) (bs : List ℕ) (n m at : ℕ) (r : Range) (e : n ≡ m + 1) (q : r ≡ name_at lead at bs) where
  pub repeat-here : (earlier : List Entry) → is_named fold (part bs r) earlier ≡ true → repeat_from earlier (entries_from lead n at bs) ≡ Some at
  unfolding entries_from repeat_from
  repeat-here earlier h = rw (e, add-one m, rw q at h)

  pub repeat-later : (done first : ℕ) → at ≡ place_after lead done first bs → is_named fold (part bs r) (entries_from lead done first bs) ≡ false
      → repeat_from (entries_from lead done first bs) (entries_from lead n at bs) ≡ repeat_from (entries_from lead (done + 1) first bs) (entries_from lead m r.end bs)
  unfolding entries_from repeat_from
  repeat-later done first p h = rw (e, add-one m, rw q at h, q, entries-snoc lead bs done first, ← p)

pub repeat-none : (lead : ℕ) (bs : List ℕ) (n at : ℕ) (earlier : List Entry) → n ≡ 0 → repeat_from earlier (entries_from lead n at bs) ≡ None
unfolding entries_from repeat_from
repeat-none lead bs n at earlier e = rw e
