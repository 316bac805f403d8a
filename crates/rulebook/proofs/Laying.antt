-- Laws of entries that lie inside a book: the next one, one more at the end, fewer of them.
-- A law about a next entry speaks of n entries, m + 1 of them, and of the range r of the first one's name. Assumes nothing.
use mathlib.Core.Path.{◌≡◌, refl, sym, ap, ◌∙◌}
use mathlib.Core.List.{List, [], ◌∷◌, ◌++◌}
use Prim.Native.Nat.{ℕ, zero, suc, ◌+◌, ◌-◌, ◌<◌, ◌≤◌}
use native.Mathlib.Numerals.{add-one}
use native.Mathlib.Omega.{arith}
use lib.ListN.{length, drop, get_or, length-drop, length-map}
use Rattle.std.proofs.lemmas.List.{length-take-le}
use Rattle.ascii.specs.declared.Range.{Range}
use Rattle.ascii.specs.Text.{part}
use Rattle.bookform.specs.declared.EntryKind.{EntryKind}
use Rattle.bookform.specs.declared.EntryKind.TheVariants.{Directive, Clause}
use Rattle.bookform.specs.Format.{lead_of}
use Rattle.rulebook.specs.Book.{name_at, entry_at, entries_from, names_from, place_after, Laid}

-- at most one byte leads
pub lead-small : (kind : EntryKind) → lead_of kind ≤ 1
lead-small Directive = omega arith
lead-small Clause = omega arith

module _ (lead : ℕ) (bs : List ℕ) where
  -- where entries lie, the first begins inside the book
  pub laid-first : (n at : ℕ) → Laid lead n at bs → at ≤ length bs
  unfolding Laid
  laid-first zero at h = h
  laid-first (suc n) at h = omega (arith, h.1)

  pub laid-fewer : (k n at : ℕ) → k ≤ n → Laid lead n at bs → Laid lead k at bs
  unfolding Laid
  laid-fewer zero n at l h = laid-first n at h
  laid-fewer (suc k) zero at l h = absurd (omega arith)
  laid-fewer (suc k) (suc n) at l h = (h.0, h.1, laid-fewer k n (name_at lead at bs).end (omega arith) h.2)

  -- the name of the next entry lies inside the book
  pub laid-name : (n at : ℕ) → 0 < n → Laid lead n at bs → (name_at lead at bs).end ≤ length bs
  unfolding Laid
  laid-name zero at z h = absurd (omega arith)
  laid-name (suc n) at z h = h.1

  pub laid_next : (n m at : ℕ) (r : Range) → n ≡ m + 1 → r ≡ name_at lead at bs → Laid lead n at bs
      → (r.start < r.end) × (r.end ≤ length bs) × Laid lead m r.end bs
  unfolding Laid
  laid_next n m at r e q h =
      let k = rw (e, add-one) at h in
      rw q (omega (arith, k.0), k.1, k.2)

  pub names_next : (n m at : ℕ) (r : Range) → n ≡ m + 1 → r ≡ name_at lead at bs → names_from lead n at bs ≡ part bs r ∷ names_from lead m r.end bs
  unfolding entries_from
  names_next n m at r e q = rw (q, e, add-one m)

  pub names_none : (n at : ℕ) → n ≡ 0 → names_from lead n at bs ≡ []
  unfolding entries_from
  names_none n at e = rw e

  pub length-entries : (n at : ℕ) → length (entries_from lead n at bs) ≡ n
  unfolding entries_from
  length-entries zero at = refl
  length-entries (suc n) at = ap suc (length-entries n (name_at lead at bs).end)

  -- one more at the end
  pub entries-snoc : (k at : ℕ) → entries_from lead (k + 1) at bs ≡ entries_from lead k at bs ++ (entry_at lead (place_after lead k at bs) bs ∷ [])
  unfolding entries_from place_after
  entries-snoc zero at = refl
  entries-snoc (suc k) at = let q : suc k + 1 ≡ suc (k + 1) = omega arith in rw (q, entries-snoc k (name_at lead at bs).end)

  pub place-snoc : (k at : ℕ) → place_after lead (k + 1) at bs ≡ (name_at lead (place_after lead k at bs) bs).end
  unfolding place_after
  place-snoc zero at = refl
  place-snoc (suc k) at = let q : suc k + 1 ≡ suc (k + 1) = omega arith in rw (q, place-snoc k (name_at lead at bs).end)

  -- the name of an entry lies inside the book, and is as long as its length byte says
  pub laid-at : (n m at : ℕ) → m < n → Laid lead n at bs → (name_at lead (place_after lead m at bs) bs).end ≤ length bs
  unfolding Laid place_after
  laid-at zero m at h l = absurd (omega arith)
  laid-at (suc n) zero at h l = l.1
  laid-at (suc n) (suc m) at h l = laid-at n m (name_at lead at bs).end (omega arith) l.2

  pub name-long : (at : ℕ) → (name_at lead at bs).end ≤ length bs → length (part bs (name_at lead at bs)) ≡ get_or bs (at + lead) 0
  name-long at h =
      let d : length (drop (at + lead + 1) bs) ≡ length bs - (at + lead + 1) = length-drop (at + lead + 1) bs in
      let e : at + lead + 1 + get_or bs (at + lead) 0 - (at + lead + 1) ≡ get_or bs (at + lead) 0 = omega arith in
      rw e (length-take-le (get_or bs (at + lead) 0) (drop (at + lead + 1) bs) (omega arith))

  -- names one after another: how many there are, and what a turn over them has
  pub length-names : (n at : ℕ) → length (names_from lead n at bs) ≡ n
  length-names n at = length-map (entries_from lead n at bs) (λ e. e.name) ∙ length-entries n at

  pub record Turn (n at : ℕ) (name : List ℕ) (rest : List (List ℕ)) : Type 0 where
    pub more : n ≡ n - 1 + 1
    pub named : name ≡ part bs (name_at lead at bs)
    pub left : rest ≡ names_from lead (n - 1) (name_at lead at bs).end bs
    pub inside : (name_at lead at bs).end ≤ length bs
    pub laid : Laid lead (n - 1) (name_at lead at bs).end bs
    pub ends : at + (lead + 1 + length name) ≡ (name_at lead at bs).end

  pub named-turn : (n at : ℕ) (names : List (List ℕ)) (name : List ℕ) (rest : List (List ℕ)) → Laid lead n at bs → names ≡ names_from lead n at bs → names ≡ name ∷ rest
      → Turn n at name rest
  unfolding entries_from Laid
  named-turn zero at names name rest l h k = cc
  named-turn (suc n) at names name rest l h k =
      let q : suc n - 1 ≡ n = omega arith in
      let e : part bs (name_at lead at bs) ≡ name = cc in
      let f : names_from lead n (name_at lead at bs).end bs ≡ rest = cc in
      record { more = omega arith; named = sym e; left = rw q (sym f); inside = l.1; laid = rw q l.2; ends = omega (arith, ap length e, name-long at l.1) }

  pub names-end : (n at : ℕ) (names : List (List ℕ)) → names ≡ names_from lead n at bs → names ≡ [] → n ≡ 0
  names-end n at names h k = omega (arith, length-names n at, ap length h, ap length k)
