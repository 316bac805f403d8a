-- The order of names: their lengths decide which comes first, or the byte in which they first differ. Also the leading bytes that two names share.
-- By induction over the bytes. Assumes nothing.
use mathlib.Core.Path.{◌≡◌, refl, sym}
use mathlib.Core.Bool.{Bool, true, false, true≢false}
use mathlib.Core.List.{List, [], ◌∷◌}
use Prim.Native.Nat.{ℕ, zero, suc, ◌+◌, ◌-◌, ◌*◌, ◌<◌, ◌≤◌}
use native.Mathlib.Omega.{arith}
use lib.ListN.{length, get_or, take, drop}
use lib.Dec.{eqb}
use borrow.Author.Tests.{eqb-true, eqb-false, eq-eqb}
use Rattle.std.proofs.lemmas.List.{get_or-drop}
use Rattle.std.proofs.lemmas.Bool.Decides.{nat_tests}
use Rattle.ascii.specs.Ascii.{fold}
use Rattle.ascii.specs.declared.Range.{Range}
use Rattle.ascii.specs.Text.{part, same_by, comparing}
use Rattle.ascii.proofs.Flags.{by_cases, and_left, and_right}
use Rattle.rulebook.specs.Order.{rank_from, Shared}

-- nothing but bytes
abbrev pub Bytes : List ℕ → Type 0
Bytes bs = (i : ℕ) → get_or bs i 0 < 256

bytes-take : (n : ℕ) (bs : List ℕ) → Bytes bs → Bytes (take n bs)
bytes-take zero bs h i = omega arith
bytes-take (suc n) [] h i = omega arith
bytes-take (suc n) (b ∷ bs) h zero = h 0
bytes-take (suc n) (b ∷ bs) h (suc i) = bytes-take n bs (λ j. h (suc j)) i

pub bytes-part : (bs : List ℕ) (r : Range) → Bytes bs → Bytes (part bs r)
bytes-part bs r h = bytes-take (r.end - r.start) (drop r.start bs) (λ i. rw get_or-drop (h (r.start + i)))

fold-byte : (b : ℕ) → b < 256 → fold b < 256
fold-byte b h = grind (arith, nat_tests)

-- a number that is less stays so with as many digits behind both
higher : (h k : ℕ) (a b : List ℕ) → h < k → length a ≡ length b → Bytes a → rank_from h a < rank_from k b
unfolding rank_from
higher h k [] [] l e s = l
higher h k [] (y ∷ ys) l e s = absurd (omega arith)
higher h k (x ∷ xs) [] l e s = absurd (omega arith)
higher h k (x ∷ xs) (y ∷ ys) l e s =
    higher (h * 256 + fold x) (k * 256 + fold y) xs ys (omega (arith, fold-byte x (s 0))) (omega arith) (λ i. s (suc i))

-- the shorter name is before the longer one
pub longer : (h k : ℕ) (a b : List ℕ) → 1 ≤ k → h ≤ k → length a < length b → Bytes a → rank_from h a < rank_from k b
unfolding rank_from
longer h k a [] o l e s = absurd (omega arith)
longer h k a (y ∷ ys) o l e s =
    by_cases (eqb (length a) (length ys))
    (λ t. higher h (k * 256 + fold y) a ys (omega arith) (eqb-true _ _ t) s)
    (λ t. longer h (k * 256 + fold y) a ys (omega arith) (omega arith) (omega (arith, eqb-false (length a) (length ys) t)) s)

-- names that are equal with case ignored have one number
pub same-rank : (h : ℕ) (a b : List ℕ) → same_by fold a b ≡ true → rank_from h a ≡ rank_from h b
unfolding rank_from same_by
same-rank h [] [] e = refl
same-rank h [] (y ∷ ys) e = absurd (true≢false (sym e))
same-rank h (x ∷ xs) [] e = absurd (true≢false (sym e))
same-rank h (x ∷ xs) (y ∷ ys) e =
    let q : fold x ≡ fold y = eqb-true _ _ (and_left (eqb (fold x) (fold y)) (same_by fold xs ys) e) in
    rw q (same-rank (h * 256 + fold y) xs ys (and_right (eqb (fold x) (fold y)) (same_by fold xs ys) e))

-- names that are equal are so with case ignored too
pub same-folded : (ic : Bool) (a b : List ℕ) → same_by (comparing ic) a b ≡ true → same_by fold a b ≡ true
unfolding same_by
same-folded true a b h = h
same-folded false [] [] h = refl
same-folded false [] (y ∷ ys) h = h
same-folded false (x ∷ xs) [] h = h
same-folded false (x ∷ xs) (y ∷ ys) h =
    let e : x ≡ y = eqb-true x y (and_left (eqb x y) (same_by (comparing false) xs ys) h) in
    rw (e, eq-eqb (fold y) (fold y) refl) (same-folded false xs ys (and_right (eqb x y) (same_by (comparing false) xs ys) h))

-- the first byte in which names of one length differ tells which is before the other
pub first-less : (h n : ℕ) (a b : List ℕ) → length a ≡ length b → n < length a → ((i : ℕ) → i < n → fold (get_or a i 0) ≡ fold (get_or b i 0))
    → Bytes a → fold (get_or a n 0) < fold (get_or b n 0) → rank_from h a < rank_from h b
unfolding rank_from
first-less h n [] b e w s t l = absurd (omega arith)
first-less h n (x ∷ xs) [] e w s t l = absurd (omega arith)
first-less h zero (x ∷ xs) (y ∷ ys) e w s t l = higher (h * 256 + fold x) (h * 256 + fold y) xs ys (omega arith) (omega arith) (λ i. t (suc i))
first-less h (suc n) (x ∷ xs) (y ∷ ys) e w s t l =
    let q : fold x ≡ fold y = s 0 (omega arith) in
    rw q (first-less (h * 256 + fold y) n xs ys (omega arith) (omega arith) (λ i k. s (suc i) (omega arith)) (λ i. t (suc i)) l)

-- all bytes agree
pub same-whole : (a b : List ℕ) → length a ≡ length b → ((i : ℕ) → i < length a → fold (get_or a i 0) ≡ fold (get_or b i 0)) → same_by fold a b ≡ true
unfolding same_by
same-whole [] [] e s = refl
same-whole [] (y ∷ ys) e s = absurd (omega arith)
same-whole (x ∷ xs) [] e s = absurd (omega arith)
same-whole (x ∷ xs) (y ∷ ys) e s = rw (eq-eqb _ _ (s 0 (omega arith))) (same-whole xs ys (omega arith) (λ i l. s (suc i) (omega arith)))

-- the leading bytes that names share
pub shared-none : (a b : List ℕ) → Shared a b 0
shared-none a b = record { within = omega arith; long = λ l. absurd (omega arith); same = λ i l. absurd (omega arith) }

pub shared-fewer : {a b : List ℕ} {n : ℕ} → Shared a b n → (m : ℕ) → m ≤ n → Shared a b m
shared-fewer s m l = record { within = omega (arith, s.within); long = λ o. s.long (omega arith); same = λ i h. s.same i (omega arith) }

pub shared-next : {a b : List ℕ} {n : ℕ} → Shared a b n → length a ≡ length b → n < length a → fold (get_or a n 0) ≡ fold (get_or b n 0) → Shared a b (n + 1)
shared-next {a} {b} {n} s e l h = record {
  within = omega arith;
  long = λ o. e;
  same = λ i g.
      by_cases (eqb i n)
      (λ t. let q : i ≡ n = eqb-true _ _ t in rw q h)
      (λ t. s.same i (omega (arith, eqb-false i n t)));
}
