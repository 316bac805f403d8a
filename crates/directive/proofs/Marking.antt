-- Laws of a name that is held against letters, a text without blanks, and all beginnings of that text at once: a byte of the name that is the next letter, that
-- is a blank, that has no partner, and the name's end. Each by where a beginning ends: before the place at hand, there, or behind it. Assumes nothing.
use mathlib.Core.Path.{◌≡◌, refl, sym, ap, subst, ◌∙◌}
use mathlib.Core.Bool.{Bool, true, false, cond, ◌&&◌, ◌||◌, and-true, and-false, or-true, or-false}
use mathlib.Core.Logic.{inl, inr}
use mathlib.Core.List.{List, [], ◌∷◌}
use Prim.Native.Nat.{ℕ, zero, suc, ◌+◌, ◌-◌, ◌<◌, ◌≤◌}
use native.Mathlib.Nat.{add-zero}
use native.Mathlib.Numerals.{add-one}
use native.Mathlib.Omega.{arith}
use lib.ListN.{length, take, drop, get_or, set, length-drop}
use lib.Seq.{drop-cons, get_or-drop, take-length}
use lib.Dec.{eqb, leb}
use borrow.Author.Tests.{le-leb, lt-leb, eq-eqb, ne_eqb, eqb-true, eqb-false}
use Rattle.std.specs.Prelude.{Some, None}
use Rattle.std.proofs.lemmas.List.{get_or-set_same, get_or-set_other, length-set}
use Rattle.std.proofs.lemmas.Bool.{cases_order}
use Rattle.ascii.specs.Ascii.{is_space, fold}
use Rattle.ascii.proofs.Flags.{by_cases}
use Rattle.directive.specs.Name.{compact, same_compact, head_from}
use Rattle.directive.specs.Steps.{RunAlike, HeadsMarked, EndTold}
use Rattle.directive.proofs.Agreeing.{squeezed-compact, headed-heads, headed-whole, plain}
use Rattle.directive.proofs.Beginning.{follows, headed-follows}
use Rattle.directive.proofs.Long.{compact-le}
use Rattle.directive.proofs.Optional.{fold-space}

-- a name against a candidate, but for blanks
pub head-letters : (name c : List ℕ) → head_from same_compact [] name c ≡ follows true true fold name (compact c)
head-letters name c =
    headed-heads same_compact (plain true fold) c (compact c) [] name (λ a. rw (squeezed-compact a)) ∙ headed-follows true true fold name (compact c)

pub same-letters : (name c : List ℕ) → same_compact name c ≡ follows false true fold name (compact c)
same-letters name c =
    let e : same_compact name c ≡ plain true fold name (compact c) = rw (squeezed-compact name) in
    e ∙ sym (headed-whole (plain true fold) (compact c) [] name) ∙ headed-follows false true fold name (compact c)

-- a text that has no blanks has none at any place
pub solid-at : (t : List ℕ) (j : ℕ) → compact t ≡ t → is_space (get_or t j 0) ≡ false
unfolding compact
solid-at [] j e = refl
solid-at (x ∷ xs) j e = go (is_space x) refl e (λ k. solid-at xs k) j
  where
    go : (b : Bool) → is_space x ≡ b → cond b (compact xs) (x ∷ compact xs) ≡ x ∷ xs → ((k : ℕ) → compact xs ≡ xs → is_space (get_or xs k 0) ≡ false)
        → (j : ℕ) → is_space (get_or (x ∷ xs) j 0) ≡ false
    go true q h again j = let n : length (compact xs) ≡ suc (length xs) = ap length h in absurd (omega (arith, compact-le xs))
    go false q h again zero = q
    go false q h again (suc j) = again j (cc)

-- a byte that is no blank is not the one between words
pub no-blank : (x : ℕ) → is_space x ≡ false → eqb x 32 ≡ false
no-blank x e = by_cases (eqb x 32) (λ q. let h : x ≡ 32 = eqb-true x 32 q in cc (rw h at e)) (λ q. q)

-- the letters that are left at place j of a beginning of n of them
module _ (t : List ℕ) where
  abbrev pub letters_left : ℕ → ℕ → List ℕ
  letters_left j n = take (n - j) (drop j t)

  abbrev pub goes_on : Bool → List ℕ → ℕ → ℕ → Bool
  goes_on h xs j n = leb j n && follows h true fold xs (letters_left j n)

  pub on-first : (h : Bool) (name : List ℕ) (n : ℕ) → goes_on h name 0 n ≡ follows h true fold name (take n t)
  on-first h name n = let e : n - 0 ≡ n = omega arith in rw (e, le-leb 0 n (omega arith))

  module _ (j n : ℕ) (m : n ≤ length t) where
    by_place : {X : Type 0} → (n < j → X) → (n ≡ j → X) → (j < n → X) → X
    by_place below here behind = elim (cases_order n j) [ inl e ↦ here e | inr (inl l) ↦ below l | inr (inr l) ↦ behind l ]

    letters-none : n ≡ j → letters_left j n ≡ []
    letters-none e = let z : n - j ≡ 0 = omega arith in rw z

    letters-some : j < n → letters_left j n ≡ get_or t j 0 ∷ letters_left (j + 1) n
    letters-some l =
        let z : n - j ≡ suc (n - (j + 1)) = omega arith in
        rw (z, drop-cons t j 0 (omega arith), add-one)

    pub on-end : (h : Bool) → goes_on h [] j n ≡ eqb n j
    unfolding follows
    on-end h =
        by_place
        (λ l. rw (lt-leb j n l, ne_eqb n j (omega arith)))
        (λ e. rw (letters-none e, le-leb j n (omega arith), eq-eqb n j e))
        (λ l. rw (letters-some l, le-leb j n (omega arith), ne_eqb n j (omega arith)))

    module _ (h : Bool) (x : ℕ) (xs : List ℕ) where
      pub on-blank : is_space x ≡ true → goes_on h (x ∷ xs) j n ≡ ((h && (eqb x 32 && eqb n j)) || goes_on h xs j n)
      unfolding follows
      on-blank s =
          by_place
          (λ l. rw (lt-leb j n l, ne_eqb n j (omega arith)) (none h (eqb x 32)))
          (λ e. rw (letters-none e, le-leb j n (omega arith), eq-eqb n j e, s) (here h (eqb x 32) (follows h true fold xs [])))
          (λ l. rw (letters-some l, le-leb j n (omega arith), ne_eqb n j (omega arith), s) (behind h (eqb x 32) (follows h true fold xs (get_or t j 0 ∷ letters_left (j + 1) n))))
        where
          none : (a b : Bool) → false ≡ ((a && (b && false)) || false)
          none true true = refl
          none true false = refl
          none false b = refl

          here : (a b r : Bool) → ((a && b) || r) ≡ ((a && (b && true)) || r)
          here true true r = refl
          here true false r = refl
          here false b r = refl

          behind : (a b r : Bool) → r ≡ ((a && (b && false)) || r)
          behind true true r = refl
          behind true false r = refl
          behind false b r = refl

      pub on-letter : is_space x ≡ false → j < length t → eqb (fold x) (fold (get_or t j 0)) ≡ true → goes_on h (x ∷ xs) j n ≡ goes_on h xs (j + 1) n
      unfolding follows
      on-letter s w f =
          by_place
          (λ l. rw (lt-leb j n l, lt-leb (j + 1) n (omega arith)))
          (λ e. rw (letters-none e, s, no-blank x s, lt-leb (j + 1) n (omega arith)) (none h (leb j n)))
          (λ l. rw (letters-some l, le-leb j n (omega arith), le-leb (j + 1) n (omega arith), s, f))
        where
          none : (a b : Bool) → (b && ((a && false) || false)) ≡ false
          none true true = refl
          none false true = refl
          none a false = refl

      pub on-none : is_space x ≡ false → (j < n → eqb (fold x) (fold (get_or t j 0)) ≡ false) → goes_on h (x ∷ xs) j n ≡ false
      unfolding follows
      on-none s f =
          by_place
          (λ l. rw (lt-leb j n l))
          (λ e. rw (letters-none e, s, no-blank x s) (none h (leb j n)))
          (λ l. rw (letters-some l, s, f l) (and-false (leb j n)))
        where
          none : (a b : Bool) → (b && ((a && false) || false)) ≡ false
          none true true = refl
          none false true = refl
          none a false = refl

-- What was marked so far, and what is left of the name, tell of each beginning of the letters what the whole name does.
pub record Marked (name t : List ℕ) (old now : List Bool) (j : ℕ) (rest : List ℕ) : Type 0 where
  pub within : j ≤ length t
  pub long : length now ≡ length old
  pub heads : (n : ℕ) → n ≤ length t → (get_or now n false || goes_on t true rest j n) ≡ (get_or old n false || goes_on t true name 0 n)
  pub ends : (n : ℕ) → n ≤ length t → goes_on t false rest j n ≡ goes_on t false name 0 n

pub marked-or : (now : List Bool) (j n : ℕ) (b : Bool) → j < length now → get_or (set now j (get_or now j false || b)) n false ≡ (get_or now n false || (b && eqb n j))
marked-or now j n b l =
    by_cases (eqb n j)
    (λ e. let q : n ≡ j = eqb-true n j e in rw (e, and-true, q, get_or-set_same now j (get_or now j false || b) false l))
    (λ e. rw (e, and-false, or-false, get_or-set_other now j n (get_or now j false || b) false (λ q. eqb-false n j e q)))

pub or-assoc : (a b c : Bool) → ((a || b) || c) ≡ (a || (b || c))
or-assoc true b c = refl
or-assoc false b c = refl

module _ (name t : List ℕ) (old : List Bool) where
  pub marked-first : Marked name t old old 0 name
  marked-first = record { within = omega arith; long = refl; heads = λ n l. refl; ends = λ n l. refl }

  whole-head : (c : List ℕ) (n : ℕ) → compact c ≡ take n t → goes_on t true name 0 n ≡ head_from same_compact [] name c
  whole-head c n q = on-first t true name n ∙ rw (← q) (sym (head-letters name c))

  whole-same : (c : List ℕ) (n : ℕ) → compact c ≡ take n t → goes_on t false name 0 n ≡ same_compact name c
  whole-same c n q = on-first t false name n ∙ rw (← q) (sym (same-letters name c))

  module _ (now : List Bool) (j : ℕ) (rest : List ℕ) (before : Marked name t old now j rest) where
    -- the name has ended
    module _ (e : rest ≡ []) (l : j < length now) where
      done : Marked name t old now j []
      done = subst (Marked name t old now j) e before

      pub marked-heads : HeadsMarked name t old (set now j true)
      marked-heads c n m q =
          let a : get_or (set now j true) n false ≡ (get_or now n false || eqb n j) =
          by_cases (eqb n j)
          (λ w. let z : n ≡ j = eqb-true n j w in rw (w, or-true, z, get_or-set_same now j true false l))
          (λ w. rw (w, or-false, get_or-set_other now j n true false (λ z. eqb-false n j w z))) in
          a ∙ ap (λ (b : Bool). get_or now n false || b) (sym (on-end t j n m true)) ∙ done.heads n m ∙ ap (λ (b : Bool). get_or old n false || b) (whole-head c n q)

      pub marked-end : EndTold name t (Some j)
      marked-end = (before.within, λ c n m q. sym (whole-same c n q) ∙ sym (done.ends n m) ∙ on-end t j n m false)

    module _ (x : ℕ) (xs : List ℕ) (e : rest ≡ x ∷ xs) where
      here : Marked name t old now j (x ∷ xs)
      here = subst (Marked name t old now j) e before

      pub marked-letter : is_space x ≡ false → j < length t → eqb (fold x) (fold (get_or t j 0)) ≡ true → Marked name t old now (j + 1) xs
      marked-letter s w f = record {
        within = omega arith;
        long = before.long;
        heads = λ n m. ap (λ (b : Bool). get_or now n false || b) (sym (on-letter t j n m true x xs s w f)) ∙ here.heads n m;
        ends = λ n m. sym (on-letter t j n m false x xs s w f) ∙ here.ends n m;
      }

      pub marked-blank : is_space x ≡ true → j < length now → Marked name t old (set now j (get_or now j false || eqb x 32)) j xs
      marked-blank s l = record {
        within = before.within;
        long = length-set now j (get_or now j false || eqb x 32) ∙ before.long;
        heads = λ n m.
            rw (marked-or now j n (eqb x 32) l) (or-assoc (get_or now n false) (eqb x 32 && eqb n j) (goes_on t true xs j n))
            ∙ ap (λ (b : Bool). get_or now n false || b) (sym (on-blank t j n m true x xs s)) ∙ here.heads n m;
        ends = λ n m. sym (on-blank t j n m false x xs s) ∙ here.ends n m;
      }

      -- the byte has no partner
      module _ (s : is_space x ≡ false) (f : (n : ℕ) → n ≤ length t → j < n → eqb (fold x) (fold (get_or t j 0)) ≡ false) where
        pub none-heads : HeadsMarked name t old now
        none-heads c n m q =
            sym (or-false (get_or now n false)) ∙ ap (λ (b : Bool). get_or now n false || b) (sym (on-none t j n m true x xs s (f n m))) ∙ here.heads n m
            ∙ ap (λ (b : Bool). get_or old n false || b) (whole-head c n q)

        pub none-end : EndTold name t None
        none-end c n m q = sym (whole-same c n q) ∙ sym (here.ends n m) ∙ on-none t j n m false x xs s (f n m)

-- what is left of a name, from its next byte
pub next : (name : List ℕ) (i : ℕ) → i < length name → drop i name ≡ get_or name i 0 ∷ drop (i + 1) name
next name i l = rw add-one (drop-cons name i 0 l)

-- so many bytes that are the next letters
module _ (name t : List ℕ) (old now : List Bool) (solid : compact t ≡ t) where
  marked-many : (k i j : ℕ) → i + k ≤ length name → j + k ≤ length t → ((m : ℕ) → m < k → eqb (fold (get_or name (i + m) 0)) (fold (get_or t (j + m) 0)) ≡ true)
      → Marked name t old now j (drop i name) → Marked name t old now (j + k) (drop (i + k) name)
  marked-many zero i j l m f h = rw (add-zero, add-zero) h
  marked-many (suc k) i j l m f h =
      let g = marked-many k i j (omega arith) (omega arith) (λ n b. f n (omega arith)) h in
      let p : j + k + 1 ≡ j + suc k = omega arith in
      let q : i + k + 1 ≡ i + suc k = omega arith in
      let e = f k (omega arith) in
      let s : is_space (get_or name (i + k) 0) ≡ false = fold-space (get_or name (i + k) 0) (get_or t (j + k) 0) e ∙ solid-at t (j + k) solid in
      rw (← p, ← q)
      (marked-letter name t old now (j + k) (drop (i + k) name) g (get_or name (i + k) 0) (drop (i + k + 1) name) (next name (i + k) (omega arith)) s (omega arith) e)

  -- the same of what is left of the name and of the letters
  pub marked-run : (i j k : ℕ) → i < length name → RunAlike fold (drop i name) (drop j t) k → Marked name t old now j (drop i name) → Marked name t old now (j + k) (drop (i + k) name)
  marked-run i j k b (l, m, f) h =
      let p = length-drop i name in
      let q = length-drop j t in
      marked-many k i j (omega (arith, p)) (omega (arith, q, h.within)) (λ n d. rw (get_or-drop i name n 0, get_or-drop j t n 0) at (f n d)) h

pub rest-whole : (xs : List ℕ) (i : ℕ) → take (length xs - i) (drop i xs) ≡ drop i xs
rest-whole xs i = rw (← length-drop i xs) (take-length (drop i xs))
