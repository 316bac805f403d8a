-- Where no name repeats another, the last entry with a name is the first. By induction over the entries: whether one entry more has a name,
-- where it is found, and whether it repeats an earlier one. Assumes nothing.
use mathlib.Core.Path.{◌≡◌, refl, sym, ap, ◌∙◌}
use mathlib.Core.Bool.{Bool, true, false, cond, ◌&&◌, ◌||◌, true≢false}
use Rattle.std.specs.Prelude.{Option, Some, None}
use mathlib.Core.List.{List, [], ◌∷◌, ◌++◌, append_assoc, append-nil}
use Prim.Native.Nat.{ℕ, zero, suc, ◌+◌}
use native.Mathlib.Nat.{zero-add}
use native.Mathlib.Numerals.{add-one}
use native.Mathlib.Omega.{arith}
use lib.ListN.{length}
use lib.Dec.{eqb}
use borrow.Author.Tests.{eqb-true, eq-eqb}
use Rattle.ascii.specs.Ascii.{fold}
use Rattle.ascii.specs.Text.{same_by, comparing}
use Rattle.rulebook.specs.declared.index.FoundEntry.{FoundEntry}
use Rattle.rulebook.specs.Book.{Entry, entry_at, entries_from, place_after}
use Rattle.rulebook.specs.Check.{is_named, repeat_from}
use Rattle.rulebook.specs.Lookup.{find_from}
use Rattle.rulebook.specs.Index.{name_of, last_named}
use Rattle.rulebook.proofs.Laying.{length-entries, entries-snoc}
use Rattle.rulebook.proofs.Repeating.{is_found, named-found}

-- an entry more at the end: whether it has a name, where a name is found, whether it repeats one
named-snoc : (f : ℕ → ℕ) (name : List ℕ) (es : List Entry) (e : Entry) → is_named f name (es ++ (e ∷ [])) ≡ (same_by f e.name name || is_named f name es)
unfolding is_named
named-snoc f name [] e = refl
named-snoc f name (d ∷ ds) e = go (same_by f d.name name) (same_by f e.name name) (named-snoc f name ds e)
  where
    go : (t u : Bool) → is_named f name (ds ++ (e ∷ [])) ≡ (u || is_named f name ds) → (t || is_named f name (ds ++ (e ∷ []))) ≡ (u || (t || is_named f name ds))
    go true true h = refl
    go true false h = refl
    go false u h = h

abbrev or_found : Option FoundEntry → Option FoundEntry → Option FoundEntry
or_found (Some e) b = Some e
or_found None b = b

find-snoc : (f : ℕ → ℕ) (name : List ℕ) (es : List Entry) (e : Entry) (i : ℕ)
    → find_from f i name (es ++ (e ∷ [])) ≡ or_found (find_from f i name es) (cond (same_by f e.name name) (Some (record { index = i + length es; at = e.at })) None)
unfolding find_from
find-snoc f name [] e i = let q : i + 0 ≡ i = omega arith in rw q
find-snoc f name (d ∷ ds) e i = go (same_by f d.name name) (find-snoc f name ds e (suc i))
  where
    go : (t : Bool) → find_from f (suc i) name (ds ++ (e ∷ [])) ≡ or_found (find_from f (suc i) name ds) (cond (same_by f e.name name) (Some (record { index = suc i + length ds; at = e.at })) None)
        → cond t (Some (record { index = i; at = d.at })) (find_from f (suc i) name (ds ++ (e ∷ [])))
        ≡ or_found (cond t (Some (record { index = i; at = d.at })) (find_from f (suc i) name ds)) (cond (same_by f e.name name) (Some (record { index = i + suc (length ds); at = e.at })) None)
    go true h = refl
    go false h = let q : i + suc (length ds) ≡ suc i + length ds = omega arith in rw q h

repeat-snoc : (earlier es : List Entry) (e : Entry) → repeat_from earlier (es ++ (e ∷ [])) ≡ None → (repeat_from earlier es ≡ None) × (is_named fold e.name (earlier ++ es) ≡ false)
unfolding repeat_from
repeat-snoc earlier [] e h = go (is_named fold e.name earlier) refl h
  where
    go : (t : Bool) → is_named fold e.name earlier ≡ t → cond t (Some e.at) None ≡ None → (repeat_from earlier [] ≡ None) × (is_named fold e.name (earlier ++ []) ≡ false)
    go true q h = cc
    go false q h = (refl, rw (append-nil earlier) q)
repeat-snoc earlier (d ∷ ds) e h = go (is_named fold d.name earlier) (repeat-snoc (earlier ++ (d ∷ [])) ds e) h
  where
    go : (t : Bool)
        → (repeat_from (earlier ++ (d ∷ [])) (ds ++ (e ∷ [])) ≡ None → (repeat_from (earlier ++ (d ∷ [])) ds ≡ None) × (is_named fold e.name ((earlier ++ (d ∷ [])) ++ ds) ≡ false))
        → cond t (Some d.at) (repeat_from (earlier ++ (d ∷ [])) (ds ++ (e ∷ []))) ≡ None
        → (cond t (Some d.at) (repeat_from (earlier ++ (d ∷ [])) ds) ≡ None) × (is_named fold e.name (earlier ++ (d ∷ ds)) ≡ false)
    go true ih h = cc
    go false ih h =
        let r = ih h in
        (r.0, rw (append_assoc earlier (d ∷ []) ds) at r.1)

-- names that both equal a third are equal with case ignored
same-both : (ic : Bool) (a b c : List ℕ) → same_by (comparing ic) a c ≡ true → same_by (comparing ic) b c ≡ true → same_by fold a b ≡ true
unfolding same_by
same-both ic [] [] c h g = refl
same-both ic [] (y ∷ ys) [] h g = absurd (true≢false (sym g))
same-both ic [] (y ∷ ys) (z ∷ zs) h g = absurd (true≢false (sym h))
same-both ic (x ∷ xs) [] [] h g = absurd (true≢false (sym h))
same-both ic (x ∷ xs) [] (z ∷ zs) h g = absurd (true≢false (sym g))
same-both ic (x ∷ xs) (y ∷ ys) [] h g = absurd (true≢false (sym h))
same-both ic (x ∷ xs) (y ∷ ys) (z ∷ zs) h g = go (eqb (comparing ic x) (comparing ic z)) refl (eqb (comparing ic y) (comparing ic z)) refl (same-both ic xs ys zs) h g
  where
    byte : (ic : Bool) → comparing ic x ≡ comparing ic z → comparing ic y ≡ comparing ic z → fold x ≡ fold y
    byte true h g = h ∙ sym g
    byte false h g = ap fold (h ∙ sym g)

    go : (t : Bool) → eqb (comparing ic x) (comparing ic z) ≡ t → (u : Bool) → eqb (comparing ic y) (comparing ic z) ≡ u
        → (same_by (comparing ic) xs zs ≡ true → same_by (comparing ic) ys zs ≡ true → same_by fold xs ys ≡ true)
        → (t && same_by (comparing ic) xs zs) ≡ true → (u && same_by (comparing ic) ys zs) ≡ true → (eqb (fold x) (fold y) && same_by fold xs ys) ≡ true
    go true p true q ih h g = rw (eq-eqb _ _ (byte ic (eqb-true _ _ p) (eqb-true _ _ q))) (ih h g)
    go true p false q ih h g = absurd (true≢false (sym g))
    go false p u q ih h g = absurd (true≢false (sym h))

-- where no entry has a name that equals another, none has the other
named_other : (ic : Bool) (x name : List ℕ) (es : List Entry) → same_by (comparing ic) x name ≡ true → is_named fold x es ≡ false → is_named (comparing ic) name es ≡ false
unfolding is_named
named_other ic x name [] h g = refl
named_other ic x name (e ∷ es) h g = go (same_by (comparing ic) e.name name) refl (same_by fold e.name x) refl (named_other ic x name es h) g
  where
    go : (t : Bool) → same_by (comparing ic) e.name name ≡ t → (u : Bool) → same_by fold e.name x ≡ u
        → (is_named fold x es ≡ false → is_named (comparing ic) name es ≡ false) → (u || is_named fold x es) ≡ false → (t || is_named (comparing ic) name es) ≡ false
    go true p true q ih g = absurd (true≢false g)
    go true p false q ih g = absurd (true≢false (sym (same-both ic e.name x name p h) ∙ q))
    go false p true q ih g = absurd (true≢false g)
    go false p false q ih g = ih g

not_named : (f : ℕ → ℕ) (name : List ℕ) (es : List Entry) → is_named f name es ≡ false → find_from f 0 name es ≡ None
not_named f name es h = go (find_from f 0 name es) (sym (named-found f 0 name es) ∙ h)
  where
    go : (r : Option FoundEntry) → is_found r ≡ false → r ≡ None
    go (Some e) h = absurd (true≢false h)
    go None h = refl

module _ (lead first : ℕ) (bs : List ℕ) where
  more : (n : ℕ) → entries_from lead (suc n) first bs ≡ entries_from lead n first bs ++ (entry_at lead (place_after lead n first bs) bs ∷ [])
  more n = rw (add-one n) at (entries-snoc lead bs n first)

  -- a name is an entry's where one has it as the last
  pub named-last : (f : ℕ → ℕ) (name : List ℕ) (n : ℕ) → is_named f name (entries_from lead n first bs) ≡ is_found (last_named f name lead first bs n)
  unfolding last_named is_named entries_from
  named-last f name zero = refl
  named-last f name (suc n) =
      ap (is_named f name) (more n)
      ∙ named-snoc f name (entries_from lead n first bs) (entry_at lead (place_after lead n first bs) bs)
      ∙ go (same_by f (name_of lead first bs n) name) (named-last f name n)
    where
      go : (t : Bool) → is_named f name (entries_from lead n first bs) ≡ is_found (last_named f name lead first bs n)
          → (t || is_named f name (entries_from lead n first bs)) ≡ is_found (cond t (Some (record { index = n; at = place_after lead n first bs })) (last_named f name lead first bs n))
      go true h = refl
      go false h = h

  none-else : (r : Option FoundEntry) → r ≡ or_found r None
  none-else (Some e) = refl
  none-else None = refl

  last_more : (ic : Bool) (name : List ℕ) (n : ℕ) → is_named fold (name_of lead first bs n) (entries_from lead n first bs) ≡ false
      → last_named (comparing ic) name lead first bs n ≡ find_from (comparing ic) 0 name (entries_from lead n first bs)
      → last_named (comparing ic) name lead first bs (suc n)
      ≡ or_found (find_from (comparing ic) 0 name (entries_from lead n first bs))
      (cond (same_by (comparing ic) (name_of lead first bs n) name) (Some (record { index = 0 + length (entries_from lead n first bs); at = place_after lead n first bs })) None)
  unfolding last_named
  last_more ic name n apart ih = go (same_by (comparing ic) (name_of lead first bs n) name) refl
    where
      go : (t : Bool) → same_by (comparing ic) (name_of lead first bs n) name ≡ t
          → cond t (Some (record { index = n; at = place_after lead n first bs })) (last_named (comparing ic) name lead first bs n)
          ≡ or_found (find_from (comparing ic) 0 name (entries_from lead n first bs)) (cond t (Some (record { index = 0 + length (entries_from lead n first bs); at = place_after lead n first bs })) None)
      go true q = rw (not_named (comparing ic) name (entries_from lead n first bs) (named_other ic (name_of lead first bs n) name (entries_from lead n first bs) q apart), length-entries lead bs n first, zero-add)
      go false q = ih ∙ none-else (find_from (comparing ic) 0 name (entries_from lead n first bs))

  -- where no name repeats another, the last entry with a name is the first
  pub last-is-first : (ic : Bool) (name : List ℕ) (n : ℕ) → repeat_from [] (entries_from lead n first bs) ≡ None
      → last_named (comparing ic) name lead first bs n ≡ find_from (comparing ic) 0 name (entries_from lead n first bs)
  unfolding last_named find_from entries_from
  last-is-first ic name zero h = refl
  last-is-first ic name (suc n) h =
      let es : List Entry = entries_from lead n first bs in
      let e : Entry = entry_at lead (place_after lead n first bs) bs in
      let apart = repeat-snoc [] es e (rw (more n) at h) in
      last_more ic name n apart.1 (last-is-first ic name n apart.0)
      ∙ sym (find-snoc (comparing ic) name es e 0)
      ∙ sym (ap (find_from (comparing ic) 0 name) (more n))
