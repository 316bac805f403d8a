-- The entries in the order of their names: what a search halves and need not compare again, that one entry at most has a name, and that one more,
-- put in where it belongs, keeps the order. Assumes nothing.
use mathlib.Core.Path.{◌≡◌, refl, sym, ap, ◌∙◌}
use mathlib.Core.Bool.{Bool, true, false, cond}
use Rattle.std.specs.Prelude.{Some, None}
use mathlib.Core.List.{List}
use Prim.Native.Nat.{ℕ, zero, suc, ◌+◌, ◌-◌, ◌<◌, ◌≤◌, min}
use native.Mathlib.Omega.{arith}
use lib.ListN.{get_or}
use lib.Dec.{eqb, ltb}
use borrow.Author.Tests.{eqb-true, eqb-false, ltb-true, ltb-false}
use Rattle.ascii.specs.Ascii.{fold}
use Rattle.ascii.specs.Text.{same_by, comparing}
use Rattle.ascii.proofs.Flags.{by_cases}
use Rattle.rulebook.specs.Book.{entries_from, name_at, place_after}
use Rattle.rulebook.specs.Check.{is_named}
use Rattle.rulebook.specs.Order.{rank, Shared}
use Rattle.rulebook.specs.Index.{name_of, slot_of, last_named, number_told, place_told, name_told, Told, Sorted, Belongs, Inserted}
use Rattle.rulebook.proofs.Repeating.{is_found}
use Rattle.rulebook.proofs.Ranks.{Bytes, bytes-part, same-rank, same-folded, shared-none, shared-fewer}
use Rattle.rulebook.proofs.Between.{shared-between}
use Rattle.rulebook.proofs.Indexing.{number-told, told-slot, place-told, name-told}
use Rattle.rulebook.proofs.LastNamed.{named-last}

module _ (lead first : ℕ) (bs : List ℕ) where
  -- the last entry with a name, where none has it, or one alone
  last-none : (f : ℕ → ℕ) (name : List ℕ) (n : ℕ) → ((k : ℕ) → k < n → same_by f (name_of lead first bs k) name ≡ false)
      → last_named f name lead first bs n ≡ None
  unfolding last_named
  last-none f name zero h = refl
  last-none f name (suc n) h = rw (h n (omega arith)) (last-none f name n (λ k l. h k (omega arith)))

  last-only : (f : ℕ → ℕ) (name : List ℕ) (n m : ℕ) → m < n → ((k : ℕ) → k < n → same_by f (name_of lead first bs k) name ≡ true → k ≡ m)
      → last_named f name lead first bs n ≡ cond (same_by f (name_of lead first bs m) name) (Some (record { index = m; at = place_after lead m first bs })) None
  unfolding last_named
  last-only f name zero m l h = absurd (omega arith)
  last-only f name (suc n) m l h =
      by_cases (eqb n m)
      (λ t.
      let q : n ≡ m = eqb-true _ _ t in
      rw (← q) (ap (cond (same_by f (name_of lead first bs n) name) (Some (record { index = n; at = place_after lead n first bs }))) (last-none f name n (λ k g. other k (omega arith) (omega arith)))))
      (λ t. rw (other n (omega arith) (eqb-false n m t)) (last-only f name n m (omega (arith, eqb-false n m t)) (λ k g. h k (omega arith))))
    where
      other : (k : ℕ) → k < suc n → (k ≡ m → ⊥) → same_by f (name_of lead first bs k) name ≡ false
      other k g ne = by_cases (same_by f (name_of lead first bs k) name) (λ t. absurd (ne (h k g t))) (λ t. t)

  -- an entry in a part of the order shares leading bytes with a name
  pub record End (slots name : List ℕ) (from to shared : ℕ) : Type 0 where
    pub place : ℕ
    pub from_on : from ≤ place
    pub below : place < to
    pub is : Shared (name_told lead first bs (get_or slots place 0)) name shared

  bytes-told : Bytes bs → (slot : ℕ) → Bytes (name_told lead first bs slot)
  bytes-told h slot = bytes-part bs (name_at lead (place_told first slot) bs) h

  module _ {n : ℕ} {slots : List ℕ} (s : Sorted lead first n bs slots) where
    -- the number of the name in a place of the order
    abbrev pub rank_at : ℕ → ℕ
    rank_at i = rank (name_told lead first bs (get_or slots i 0))

    -- a half of the places: those up to one whose name is before another, and those from one whose name is behind it
    pub before-more : (name : List ℕ) (middle : ℕ) → middle < n → rank_at middle < rank name → (i : ℕ) → i < middle + 1 → rank_at i < rank name
    before-more name middle l h i g =
        by_cases (eqb i middle)
        (λ t. let q : i ≡ middle = eqb-true _ _ t in rw q h)
        (λ t. omega (arith, s.rising i middle (omega (arith, eqb-false i middle t)) l))

    pub behind-more : (name : List ℕ) (middle : ℕ) → rank name < rank_at middle → (i : ℕ) → middle ≤ i → i < n → rank name < rank_at i
    behind-more name middle h i g l =
        by_cases (eqb i middle)
        (λ t. let q : i ≡ middle = eqb-true _ _ t in rw q h)
        (λ t. omega (arith, s.rising middle i (omega (arith, eqb-false i middle t)) l))

    -- what entries at both ends share with a name an entry between them shares with it too
    pub middle-shared : Bytes bs → (name : List ℕ) (low middle high low_shared high_shared : ℕ) → low ≤ middle → middle < high → high ≤ n
        → (0 < low_shared → End slots name 0 low low_shared) → (0 < high_shared → End slots name high n high_shared)
        → Shared (name_told lead first bs (get_or slots middle 0)) name (min low_shared high_shared)
    middle-shared bytes name low middle high ls hs a b w p q =
        by_cases (ltb 0 (min ls hs))
        (λ t.
        let o : 0 < min ls hs = ltb-true _ _ t in
        let x = p (omega arith) in
        let y = q (omega arith) in
        shared-between _ _ _ name (min ls hs) o (shared-fewer x.is (min ls hs) (omega arith)) (shared-fewer y.is (min ls hs) (omega arith))
        (bytes-told bytes (get_or slots middle 0)) (bytes-told bytes (get_or slots y.place 0))
        (s.rising x.place middle (omega (arith, x.below)) (omega arith)) (s.rising middle y.place (omega (arith, y.from_on)) y.below) (min ls hs) (omega arith))
        (λ t.
        let z : min ls hs ≡ 0 = omega (arith, ltb-false 0 (min ls hs) t) in
        rw z (shared-none _ name))

    module _ (few : n ≤ 255) where
      -- the name of the entry of a slot
      here : (m i : ℕ) → m < n → get_or slots i 0 ≡ slot_of lead first bs m → rank_at i ≡ rank (name_of lead first bs m)
      here m i l e =
          ap rank (name-told (told-slot lead first bs n m (get_or slots i 0) l few e))
          ∙ ap (λ (k : ℕ). rank (name_of lead first bs k)) (number-told lead first bs m (get_or slots i 0) (omega arith) e)

      -- a name that belongs somewhere is no entry's
      apart : (name : List ℕ) (place : ℕ) → Belongs lead first n bs slots name place → (k : ℕ) → k < n → rank (name_of lead first bs k) ≡ rank name → ⊥
      apart name place b k l e =
          s.whole k l (λ i h q.
          by_cases (ltb i place)
          (λ t. omega (arith, here k i l q, b.before i (ltb-true _ _ t)))
          (λ t. omega (arith, here k i l q, b.behind i (ltb-false _ _ t) h)))

      -- the entry of a slot is the only one with its name
      only : (i k : ℕ) → i < n → k < n → rank (name_of lead first bs k) ≡ rank_at i → k ≡ number_told (get_or slots i 0)
      only i k h l e =
          by_cases (eqb k (number_told (get_or slots i 0)))
          (λ t. eqb-true _ _ t)
          (λ t. absurd (s.whole k l (λ j g q. ne t j g q (here k j l q))))
        where
          ne : eqb k (number_told (get_or slots i 0)) ≡ false → (j : ℕ) → j < n → get_or slots j 0 ≡ slot_of lead first bs k → rank_at j ≡ rank (name_of lead first bs k) → ⊥
          ne t j g q r =
              by_cases (ltb i j)
              (λ u. omega (arith, s.rising i j (ltb-true _ _ u) g))
              (λ u.
              by_cases (ltb j i)
              (λ v. omega (arith, s.rising j i (ltb-true _ _ v) h))
              (λ v.
              let w : j ≡ i = omega (arith, ltb-false i j u, ltb-false j i v) in
              omega (arith, eqb-false k (number_told (get_or slots i 0)) t, rw w at (number-told lead first bs k (get_or slots j 0) (omega arith) q))))

      differ : (ic : Bool) (name : List ℕ) (k : ℕ) → (rank (name_of lead first bs k) ≡ rank name → ⊥) → same_by (comparing ic) (name_of lead first bs k) name ≡ false
      differ ic name k h =
          by_cases (same_by (comparing ic) (name_of lead first bs k) name)
          (λ t. absurd (h (same-rank 1 (name_of lead first bs k) name (same-folded ic (name_of lead first bs k) name t))))
          (λ t. t)

      pub missing : (ic : Bool) (name : List ℕ) (place : ℕ) → Belongs lead first n bs slots name place → last_named (comparing ic) name lead first bs n ≡ None
      missing ic name place b = last-none (comparing ic) name n (λ k l. differ ic name k (apart name place b k l))

      pub found-only : (ic : Bool) (name : List ℕ) (i : ℕ) → i < n → same_by fold (name_told lead first bs (get_or slots i 0)) name ≡ true
          → last_named (comparing ic) name lead first bs n
          ≡ cond (same_by (comparing ic) (name_told lead first bs (get_or slots i 0)) name)
          (Some (record { index = number_told (get_or slots i 0); at = place_told first (get_or slots i 0) })) None
      found-only ic name i l e =
          let t = s.told i l in
          rw (name-told t, place-told t)
          (last-only (comparing ic) name n (number_told (get_or slots i 0)) t.within
          (λ k g h. only i k l g (same-rank 1 (name_of lead first bs k) name (same-folded ic (name_of lead first bs k) name h) ∙ sym (same-rank 1 (name_told lead first bs (get_or slots i 0)) name e))))

      -- whether an entry has a name, case ignored
      pub not-named : (name : List ℕ) (place : ℕ) → Belongs lead first n bs slots name place → is_named fold name (entries_from lead n first bs) ≡ false
      not-named name place b = named-last lead first bs fold name n ∙ ap is_found (missing true name place b)

      pub is-named : (name : List ℕ) (i : ℕ) → i < n → same_by fold (name_told lead first bs (get_or slots i 0)) name ≡ true → is_named fold name (entries_from lead n first bs) ≡ true
      is-named name i l e = named-last lead first bs fold name n ∙ ap is_found (rw e at (found-only true name i l e))

  -- one entry more
  module _ (n place slot : ℕ) (old new name : List ℕ) (few : n < 255) (s : Sorted lead first n bs old) (b : Belongs lead first n bs old name place)
      (g : Inserted old new n place slot) (named : name ≡ name_of lead first bs n) (is : slot ≡ slot_of lead first bs n) where
    -- a slot is an old one, or the one more, or an old one from a place before it
    data Source (i : ℕ) : Type 0 where
      kept : i < place → get_or new i 0 ≡ get_or old i 0 → Source i
      added : i ≡ place → get_or new i 0 ≡ slot → Source i
      moved : (j : ℕ) → i ≡ j + 1 → place ≤ j → j < n → get_or new i 0 ≡ get_or old j 0 → Source i

    source : (i : ℕ) → i < n + 1 → Source i
    source i h =
        by_cases (ltb i place)
        (λ t. kept (ltb-true _ _ t) (g.before i (ltb-true _ _ t)))
        (λ t.
        by_cases (eqb i place)
        (λ u. let q : i ≡ place = eqb-true _ _ u in added q (rw q g.here))
        (λ u.
        let p : place < i = omega (arith, ltb-false i place t, eqb-false i place u) in
        let q : i - 1 + 1 ≡ i = omega arith in
        moved (i - 1) (sym q) (omega arith) (omega arith) (rw q at (g.behind (i - 1) (omega arith) (omega arith)))))

    told-here : Told lead first (n + 1) bs slot
    told-here = told-slot lead first bs (n + 1) n slot (omega arith) (omega arith) is

    named-here : name_told lead first bs slot ≡ name
    named-here = name-told told-here ∙ ap (name_of lead first bs) (number-told lead first bs n slot (omega arith) is) ∙ sym named

    told-more : (x : ℕ) → Told lead first n bs x → Told lead first (n + 1) bs x
    told-more x t = record { within = omega (arith, t.within); is = t.is }

    told-next : (i : ℕ) → Source i → i < n + 1 → Told lead first (n + 1) bs (get_or new i 0)
    told-next i (kept l e) h = rw e (told-more (get_or old i 0) (s.told i (omega (arith, b.within))))
    told-next i (added q e) h = rw e told-here
    told-next i (moved j q p l e) h = rw e (told-more (get_or old j 0) (s.told j l))

    rising-next : (i j : ℕ) → Source i → Source j → i < j → j < n + 1
        → rank (name_told lead first bs (get_or new i 0)) < rank (name_told lead first bs (get_or new j 0))
    rising-next i j (kept l e) (kept k f) h w = rw (e, f) (s.rising i j h (omega (arith, b.within)))
    rising-next i j (kept l e) (added q f) h w = rw (e, f, named-here) (b.before i l)
    rising-next i j (kept l e) (moved y q p k f) h w = rw (e, f) (s.rising i y (omega arith) k)
    rising-next i j (added q e) (kept k f) h w = absurd (omega arith)
    rising-next i j (added q e) (added r f) h w = absurd (omega arith)
    rising-next i j (added q e) (moved y r p k f) h w = rw (e, f, named-here) (b.behind y p k)
    rising-next i j (moved x q p l e) (kept k f) h w = absurd (omega arith)
    rising-next i j (moved x q p l e) (added r f) h w = absurd (omega arith)
    rising-next i j (moved x q p l e) (moved y r o k f) h w = rw (e, f) (s.rising x y (omega arith) k)

    whole-next : (m : ℕ) → m < n + 1 → ((i : ℕ) → i < n + 1 → get_or new i 0 ≡ slot_of lead first bs m → ⊥) → ⊥
    whole-next m h none =
        by_cases (eqb m n)
        (λ t. let q : m ≡ n = eqb-true _ _ t in none place (omega (arith, b.within)) (rw q (g.here ∙ is)))
        (λ t.
        s.whole m (omega (arith, eqb-false m n t)) (λ i l e.
        by_cases (ltb i place)
        (λ u. none i (omega arith) (g.before i (ltb-true _ _ u) ∙ e))
        (λ u. none (i + 1) (omega arith) (g.behind i (ltb-false _ _ u) l ∙ e))))

    pub sorted-next : Sorted lead first (n + 1) bs new
    sorted-next = record {
      told = λ i h. told-next i (source i h) h;
      rising = λ i j h w. rising-next i j (source i (omega arith)) (source j w) h w;
      whole = whole-next;
    }
