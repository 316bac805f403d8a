-- Joining a C line is translation phase 2: the bytes that go are those that stand in a break. By induction over the places, with
-- how many of the next ones go. Assumes nothing.
use Prim.Native.Nat.{ℕ, zero, suc, ◌+◌}
use native.Mathlib.Nat.{add-zero}
use native.Mathlib.Numerals.{add-one, add-two}
use native.Mathlib.Omega.{arith}
use mathlib.Core.Bool.{Bool, true, false, cond, ◌&&◌, ◌||◌, and-false, or-true, or-false}
use mathlib.Core.Path.{◌≡◌, refl, ap}
use mathlib.Core.List.{List, ◌∷◌, map, map-map, map-id}
use lib.ListN.{length, drop, get_or}
use lib.Seq.{get_or-drop}
use lib.Dec.{eqb}
use borrow.Author.Tests.{eqb-true}
use Rattle.lexer.specs.Continuation.{break_c}
use Rattle.source.specs.Joining.{Kept, kept_from, joined_text, joined_map}
use Rattle.source.proofs.Kept.{kept-end, kept-past, kept-at, kept-cut-at}
use Rattle.source.specs.Laws.{breaks_at, is_deleted, stays, JoinIsPhase2}

-- what stands at place i of a line: no break, or one of 2 or 3 bytes
data Here (line : List ℕ) (i : ℕ) : Type 0 where
  plain : break_c (drop i line) ≡ 0 → breaks_at line i ≡ false → Here line i
  short : break_c (drop i line) ≡ 2 → breaks_at line i ≡ true → get_or line (i + 1) 0 ≡ 10 → Here line i
  long : break_c (drop i line) ≡ 3 → breaks_at line i ≡ true → get_or line (i + 1) 0 ≡ 13 → get_or line (i + 2) 0 ≡ 10 → Here line i

here : (line : List ℕ) (i : ℕ) → Here line i
unfolding break_c
here line i = go (eqb (get_or line i 0) 92) (eqb (get_or line (i + 1) 0) 10) (eqb (get_or line (i + 1) 0) 13) (eqb (get_or line (i + 2) 0) 10) refl refl refl refl
  where
    size : break_c (drop i line) ≡ cond (eqb (get_or line i 0) 92 && eqb (get_or line (i + 1) 0) 10) 2
        (cond (eqb (get_or line i 0) 92 && eqb (get_or line (i + 1) 0) 13 && eqb (get_or line (i + 2) 0) 10) 3 0)
    size = simp (get_or-drop, add-zero)

    go : (p q r s : Bool) → eqb (get_or line i 0) 92 ≡ p → eqb (get_or line (i + 1) 0) 10 ≡ q → eqb (get_or line (i + 1) 0) 13 ≡ r → eqb (get_or line (i + 2) 0) 10 ≡ s
        → Here line i
    go false q r s ep eq er es = plain (simp (size, ep)) (simp ep)
    go true true r s ep eq er es = short (simp (size, ep, eq)) (simp (ep, eq)) (eqb-true _ _ eq)
    go true false false s ep eq er es = plain (simp (size, ep, eq, er)) (simp (ep, eq, er))
    go true false true false ep eq er es = plain (simp (size, ep, eq, er, es)) (simp (ep, eq, er, es))
    go true false true true ep eq er es = long (simp (size, ep, eq, er, es)) (simp (ep, eq, er, es)) (eqb-true _ _ er) (eqb-true _ _ es)

or-falses : (x b d : Bool) → b ≡ false → d ≡ false → (x || b || d) ≡ x
or-falses x b d p q = rw (p, q) (simp or-false)

or_left : (b d : Bool) → (b || d) ≡ false → b ≡ false
or_left false d p = refl
or_left true d p = p

-- k places from i on go, and the one after them goes exactly if it begins a break
abbrev Ready : List ℕ → ℕ → ℕ → Type 0
Ready line i zero = is_deleted line i ≡ breaks_at line i
Ready line i (suc k) = (is_deleted line i ≡ true) × Ready line (suc i) k

ready-plain : (line : List ℕ) (i : ℕ) → Ready line i 0 → breaks_at line i ≡ false → Ready line (suc i) 0
ready-plain line zero h e = simp (e, or-false)
ready-plain line (suc zero) h e = let f : breaks_at line 0 ≡ false = rw e at h in or-falses _ _ _ e (simp f)
ready-plain line (suc (suc i)) h e = let f : breaks_at line (suc i) ≡ false = or_left (breaks_at line (suc i)) _ (rw e at h) in or-falses _ _ _ e (simp f)

deleted-next : (line : List ℕ) (i : ℕ) → breaks_at line i ≡ true → is_deleted line (suc i) ≡ true
deleted-next line zero e = simp (e, or-true)
deleted-next line (suc i) e = simp (e, or-true)

ready-short : (line : List ℕ) (i : ℕ) → breaks_at line i ≡ true → get_or line (suc i) 0 ≡ 10 → Ready line (suc i) 1
ready-short line i e h = (deleted-next line i e, or-falses _ _ _ (simp h) (simp (h, and-false)))

ready-long : (line : List ℕ) (i : ℕ) → breaks_at line i ≡ true → get_or line (suc i) 0 ≡ 13 → get_or line (suc (suc i)) 0 ≡ 10 → Ready line (suc i) 2
ready-long line i e h g = (deleted-next line i e, (simp (e, h, or-true), or-falses _ _ _ (simp g) (simp h)))

-- the byte at a place, with the place
abbrev kept_at : List ℕ → ℕ → Kept
kept_at line i = record { byte = get_or line i 0; place = i }

module _ (line : List ℕ) (n i : ℕ) (f : i + suc n ≡ length line) where
  kept-stay : Here line i → Ready line i 0
      → ((k : ℕ) → Ready line (suc i) k → kept_from break_c k (suc i) (drop (suc i) line) ≡ map (kept_at line) (stays line (suc i) n))
      → kept_from break_c 0 i (drop i line) ≡ map (kept_at line) (stays line i (suc n))
  unfolding stays
  kept-stay (plain s b) r ih = rw (r, b, kept-at break_c line i (omega arith) s) (ap (λ (l : List Kept). kept_at line i ∷ l) (ih 0 (ready-plain line i r b)))
  kept-stay (short s b e) r ih = rw (r, b, kept-cut-at break_c line i 1 (omega arith) s) (ih 1 (ready-short line i b (rw add-one at e)))
  kept-stay (long s b e g) r ih = rw (r, b, kept-cut-at break_c line i 2 (omega arith) s) (ih 2 (ready-long line i b (rw add-one at e) (rw add-two at g)))

kept-stays : (line : List ℕ) (n i k : ℕ) → i + n ≡ length line → Ready line i k → kept_from break_c k i (drop i line) ≡ map (kept_at line) (stays line i n)
unfolding stays
kept-stays line zero i k f r = kept-end break_c line i k (omega arith)
kept-stays line (suc n) i (suc k) f r = rw (kept-past break_c line i k (omega arith), r.0) (kept-stays line n (suc i) k (omega arith) r.1)
kept-stays line (suc n) i zero f r = kept-stay line n i f (here line i) r (λ k q. kept-stays line n (suc i) k (omega arith) q)

pub kept-phase2 : (line : List ℕ) → kept_from break_c 0 0 line ≡ map (kept_at line) (stays line 0 (length line))
kept-phase2 line = kept-stays line (length line) 0 0 (omega arith) refl

pub join-is-phase2 : JoinIsPhase2
unfolding joined_text joined_map
join-is-phase2 line = (simp (kept-phase2 line, map-map, map-id), simp (kept-phase2 line, map-map))
