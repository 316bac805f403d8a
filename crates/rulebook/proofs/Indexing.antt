-- The chains of an index: the last entry with a name is among those with its signature, each of which leads to the one before, and one entry
-- more keeps that so. By induction over the entries. Assumes nothing.
use mathlib.Core.Path.{◌≡◌, refl, sym, ap, ◌∙◌}
use mathlib.Core.Bool.{Bool, true, false, cond, true≢false}
use Rattle.std.specs.Prelude.{Some, None}
use mathlib.Core.List.{List}
use Prim.Native.Nat.{ℕ, zero, suc, ◌+◌, ◌-◌, ◌*◌, ◌<◌, ◌≤◌}
use native.Mathlib.Numerals.{add-one}
use native.Mathlib.Omega.{arith}
use lib.ListN.{length, get_or, set, replicate}
use lib.Seq.{get_or-set_same, get_or-set_other}
use lib.Dec.{eqb}
use borrow.Author.Tests.{eqb-true, eq-eqb}
use Rattle.ascii.specs.Text.{part, same_by, comparing}
use Rattle.rulebook.specs.declared.index.NameIndex.{NameIndex}
use Rattle.rulebook.specs.Book.{name_at, place_after, Laid}
use Rattle.rulebook.specs.Signature.{signature}
use Rattle.rulebook.specs.Index.{name_of, slot_of, last_slot, last_named, number_told, place_told, name_told, Told, Chained, Indexed, Blank}
use Rattle.rulebook.proofs.Laying.{place-snoc, laid-at}
use Rattle.rulebook.proofs.Signatures.{signed-apart}

-- a list of zeros
pub zero-at : (n j : ℕ) → ◌≡◌ {A = ℕ} (get_or (replicate n 0) j 0) 0
zero-at zero zero = refl
zero-at zero (suc j) = refl
zero-at (suc n) zero = refl
zero-at (suc n) (suc j) = zero-at n j

module _ (lead first : ℕ) (bs : List ℕ) where
  -- entries stand one behind the other
  later : (m : ℕ) → place_after lead m first bs ≤ place_after lead (suc m) first bs
  later m = rw (← (add-one m), place-snoc lead bs m first) (omega arith)

  pub behind-first : (m : ℕ) → first ≤ place_after lead m first bs
  unfolding place_after
  behind-first zero = omega arith
  behind-first (suc m) = omega (arith, later m, behind-first m)

  -- a link leads to a smaller slot
  pub slot-low : (q m : ℕ) → last_slot lead first bs q m ≤ (place_after lead m first bs - first) * 256 + m
  unfolding last_slot
  slot-low q zero = omega arith
  slot-low q (suc m) = go (eqb (signature (name_of lead first bs m)) q) (slot-low q m)
    where
      go : (b : Bool) → last_slot lead first bs q m ≤ (place_after lead m first bs - first) * 256 + m
          → cond b (slot_of lead first bs m) (last_slot lead first bs q m) ≤ (place_after lead (suc m) first bs - first) * 256 + suc m
      go true h = omega (arith, later m)
      go false h = omega (arith, later m)

  module _ (ic : Bool) (name : List ℕ) where
    -- the entry that a slot tells of, behind which none has the name
    pub record Reached (k : ℕ) (slot : ℕ) : Type 0 where
      pub m : ℕ
      pub below : m < k
      pub is : slot ≡ slot_of lead first bs m
      pub signed : signature (name_of lead first bs m) ≡ signature name
      pub rest : last_named (comparing ic) name lead first bs k ≡ last_named (comparing ic) name lead first bs (m + 1)

    apart : (m : ℕ) → eqb (signature (name_of lead first bs m)) (signature name) ≡ false → same_by (comparing ic) (name_of lead first bs m) name ≡ false
    apart m h = signed-apart ic (name_of lead first bs m) name 0 0 (λ q. true≢false (sym (eq q) ∙ h))
      where
        eq : signature (name_of lead first bs m) ≡ signature name → eqb (signature (name_of lead first bs m)) (signature name) ≡ true
        eq q = eq-eqb _ _ q

    pub reached : (k : ℕ) → (last_slot lead first bs (signature name) k ≡ 0 → ⊥) → Reached k (last_slot lead first bs (signature name) k)
    unfolding last_slot last_named
    reached zero h = absurd (h refl)
    reached (suc k) h = go (eqb (signature (name_of lead first bs k)) (signature name)) refl (reached k) h
      where
        go : (b : Bool) → eqb (signature (name_of lead first bs k)) (signature name) ≡ b
            → ((last_slot lead first bs (signature name) k ≡ 0 → ⊥) → Reached k (last_slot lead first bs (signature name) k))
            → (cond b (slot_of lead first bs k) (last_slot lead first bs (signature name) k) ≡ 0 → ⊥)
            → Reached (suc k) (cond b (slot_of lead first bs k) (last_slot lead first bs (signature name) k))
        go true e ih h = record { m = k; below = omega arith; is = refl; signed = eqb-true _ _ e; rest = rw (add-one k) }
        go false e ih h =
            let r = ih h in
            record { m = r.m; below = omega (arith, r.below); is = r.is; signed = r.signed; rest = rw (apart k e) r.rest }

    unreached : (k : ℕ) → last_slot lead first bs (signature name) k ≡ 0 → last_named (comparing ic) name lead first bs k ≡ None
    unfolding last_slot last_named
    unreached zero h = refl
    unreached (suc k) h = go (eqb (signature (name_of lead first bs k)) (signature name)) refl (unreached k) h
      where
        go : (b : Bool) → eqb (signature (name_of lead first bs k)) (signature name) ≡ b
            → (last_slot lead first bs (signature name) k ≡ 0 → last_named (comparing ic) name lead first bs k ≡ None)
            → cond b (slot_of lead first bs k) (last_slot lead first bs (signature name) k) ≡ 0
            → cond (same_by (comparing ic) (name_of lead first bs k) name) (Some (record { index = k; at = place_after lead k first bs })) (last_named (comparing ic) name lead first bs k) ≡ None
        go true e ih h = absurd (omega arith)
        go false e ih h = rw (apart k e) (ih h)

    -- the entry has the name, or the one before it is asked
    pub last-here : (m : ℕ) → same_by (comparing ic) (name_of lead first bs m) name ≡ true → last_named (comparing ic) name lead first bs (m + 1) ≡ Some (record { index = m; at = place_after lead m first bs })
    unfolding last_named
    last-here m h = rw (add-one m, h)

    pub last-before : (m : ℕ) → same_by (comparing ic) (name_of lead first bs m) name ≡ false → last_named (comparing ic) name lead first bs (m + 1) ≡ last_named (comparing ic) name lead first bs m
    unfolding last_named
    last-before m h = rw (add-one m, h)

-- the entry that a slot tells of
module _ (lead first : ℕ) (bs : List ℕ) where
  pub number-told : (m slot : ℕ) → m < 256 → slot ≡ slot_of lead first bs m → number_told slot ≡ m
  number-told m slot h e = omega arith

  pub told-slot : (n m slot : ℕ) → m < n → n ≤ 255 → slot ≡ slot_of lead first bs m → Told lead first n bs slot
  told-slot n m slot h few e =
      let q : number_told slot ≡ m = number-told m slot (omega arith) e in
      record { within = omega arith; is = rw q e }

module _ {lead first n slot : ℕ} {bs : List ℕ} (t : Told lead first n bs slot) where
  pub place-told : place_told first slot ≡ place_after lead (number_told slot) first bs
  place-told = omega (arith, t.is, behind-first lead first bs (number_told slot))

  pub name-told : name_told lead first bs slot ≡ name_of lead first bs (number_told slot)
  name-told = ap (λ (p : ℕ). part bs (name_at lead p bs)) place-told

  pub inside-told : Laid lead n first bs → (name_at lead (place_told first slot) bs).end ≤ length bs
  inside-told laid = rw place-told (laid-at lead bs n (number_told slot) first t.within laid)

-- a slot of the index tells of the last of the first k entries with the name's signature, and none of the others has the name
pub record Telling (lead first : ℕ) (bs : List ℕ) (ic : Bool) (name : List ℕ) (n slot : ℕ) : Type 0 where
  pub k : ℕ
  pub within : k ≤ n
  pub is : slot ≡ last_slot lead first bs (signature name) k
  pub rest : last_named (comparing ic) name lead first bs k ≡ last_named (comparing ic) name lead first bs n

pub told-none : {lead first n slot : ℕ} {bs : List ℕ} {ic : Bool} {name : List ℕ} → Telling lead first bs ic name n slot → slot ≡ 0
    → last_named (comparing ic) name lead first bs n ≡ None
told-none {lead} {first} {bs = bs} {ic = ic} {name = name} t z = sym t.rest ∙ unreached lead first bs ic name t.k (sym t.is ∙ z)

-- it is not 0
module _ {lead first n slot : ℕ} {bs : List ℕ} {ic : Bool} {name : List ℕ} {index : NameIndex}
    (few : n ≤ 255) (d : Chained lead first n bs index) (t : Telling lead first bs ic name n slot) (some : slot ≡ 0 → ⊥) where
  entry : Reached lead first bs ic name t.k slot
  entry = rw t.is (reached lead first bs ic name t.k (λ z. some (t.is ∙ z)))

  number : number_told slot ≡ entry.m
  number = number-told lead first bs entry.m slot (omega (arith, t.within, entry.below)) entry.is

  pub told-entry : Told lead first n bs slot
  told-entry = told-slot lead first bs n entry.m slot (omega (arith, t.within, entry.below)) few entry.is

  named : name_told lead first bs slot ≡ name_of lead first bs entry.m
  named = name-told told-entry ∙ ap (name_of lead first bs) number

  -- it has the name, or the last one before it with the same signature is asked
  pub found-here : same_by (comparing ic) (name_told lead first bs slot) name ≡ true
      → last_named (comparing ic) name lead first bs n ≡ Some (record { index = number_told slot; at = place_told first slot })
  found-here h = rw (place-told told-entry, number) (sym t.rest ∙ entry.rest ∙ last-here lead first bs ic name entry.m (rw named at h))

  linked : get_or index.slots (number_told slot) 0 ≡ last_slot lead first bs (signature name) entry.m
  linked = rw number (d.links entry.m (omega (arith, t.within, entry.below)) ∙ ap (λ (q : ℕ). last_slot lead first bs q entry.m) entry.signed)

  pub link-less : get_or index.slots (number_told slot) 0 < slot
  link-less = rw linked (omega (arith, slot-low lead first bs (signature name) entry.m, entry.is))

  pub found-before : same_by (comparing ic) (name_told lead first bs slot) name ≡ false
      → Telling lead first bs ic name n (get_or index.slots (number_told slot) 0)
  found-before h = record {
    k = entry.m;
    within = omega (arith, t.within, entry.below);
    is = linked;
    rest = sym (last-before lead first bs ic name entry.m (rw named at h)) ∙ sym entry.rest ∙ t.rest;
  }

module _ (lead first : ℕ) (bs : List ℕ) where
  -- no entry yet
  chained-none : (index : NameIndex) → Blank index → Chained lead first 0 bs index
  unfolding last_slot
  chained-none index z = record { heads = λ q h. z.0 q; links = λ m h. absurd (omega arith) }

  pub indexed-none : (index : NameIndex) → lead ≤ 1 → Blank index → Indexed lead first 0 bs index
  indexed-none index l z = record { low = l; few = omega arith; chains = λ e. chained-none index z; order = λ e. absurd (true≢false (sym e ∙ z.1)) }

  -- one entry more
  module _ (index : NameIndex) (m mark : ℕ) (few : m < 255) (wide : length index.heads ≡ 256) (long : length index.slots ≡ 256) (small : mark < 256)
      (is : mark ≡ signature (name_of lead first bs m)) (c : Chained lead first m bs index) where
    -- the entry leads to the last one with its signature, and is that one from now on
    abbrev pub added : NameIndex
    added = record { heads = set index.heads mark (slot_of lead first bs m); slots = set index.slots m (get_or index.heads mark 0); sorted = index.sorted }

    head : (q : ℕ) → q < 256 → (b : Bool) → eqb (signature (name_of lead first bs m)) q ≡ b
        → get_or added.heads q 0 ≡ cond b (slot_of lead first bs m) (last_slot lead first bs q m)
    head q h true e =
        let z : q ≡ mark = sym (eqb-true _ _ e) ∙ sym is in
        rw z (get_or-set_same index.heads mark (slot_of lead first bs m) 0 (omega arith))
    head q h false e = get_or-set_other index.heads mark q (slot_of lead first bs m) 0 (λ z. true≢false (sym (ne z) ∙ e)) ∙ c.heads q h
      where
        ne : q ≡ mark → eqb (signature (name_of lead first bs m)) q ≡ true
        ne z = eq-eqb _ _ (sym is ∙ sym z)

    link : (j : ℕ) → j < m + 1 → (b : Bool) → eqb j m ≡ b
        → get_or added.slots j 0 ≡ last_slot lead first bs (signature (name_of lead first bs j)) j
    link j h true e =
        let z : j ≡ m = eqb-true _ _ e in
        rw z
        (get_or-set_same index.slots m (get_or index.heads mark 0) 0 (omega arith)
        ∙ c.heads mark small
        ∙ ap (λ (q : ℕ). last_slot lead first bs q m) is)
    link j h false e =
        let z : (j ≡ m → ⊥) = λ y. true≢false (sym (eq-eqb _ _ y) ∙ e) in
        get_or-set_other index.slots m j (get_or index.heads mark 0) 0 z ∙ c.links j (omega (arith, z))

    chained-next : Chained lead first (m + 1) bs added
    unfolding last_slot
    chained-next = record {
      heads = λ q h. rw (add-one m) (head q h (eqb (signature (name_of lead first bs m)) q) refl);
      links = λ j h. link j h (eqb j m) refl;
    }

    pub indexed-next : lead ≤ 1 → index.sorted ≡ false → Indexed lead first (m + 1) bs added
    indexed-next l f = record { low = l; few = omega arith; chains = λ e. chained-next; order = λ e. absurd (true≢false (sym e ∙ f)) }
