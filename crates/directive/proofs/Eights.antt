-- Laws of texts that are compared eight bytes at once: what holds of all of them holds of each, and of their lists. By induction over how many there are.
-- Assumes nothing.
use mathlib.Core.Path.{◌≡◌, refl, sym, ◌∙◌}
use mathlib.Core.Bool.{Bool, true, false, ◌&&◌}
use mathlib.Core.List.{List}
use Prim.Native.Nat.{ℕ, zero, suc, ◌+◌, ◌-◌, ◌<◌, ◌≤◌}
use native.Mathlib.Nat.{add-zero}
use native.Mathlib.Omega.{arith}
use lib.ListN.{length, drop, get_or}
use lib.Seq.{drop-cons}
use lib.Dec.{eqb, ltb}
use borrow.Author.Tests.{eqb-true, eqb-false, eq-eqb, ltb-true, ltb-false}
use Rattle.ascii.specs.Ascii.{exactly}
use Rattle.ascii.specs.Text.{same_by}
use Rattle.ascii.proofs.Flags.{by_cases, and_left, and_right}
use Rattle.directive.specs.Steps.{alike_to, RunAlike}

pub and-assoc : (a b c : Bool) → ((a && b) && c) ≡ (a && (b && c))
and-assoc true b c = refl
and-assoc false b c = refl

module _ (a : List ℕ) (i : ℕ) (b : List ℕ) (j : ℕ) where
  -- each of them
  pub alike-each : (f : ℕ → ℕ) (n m : ℕ) → m ≤ n → alike_to f a i b j n ≡ true → eqb (f (get_or a (i + m) 0)) (f (get_or b (j + m) 0)) ≡ true
  alike-each f zero m l e = let q : m ≡ 0 = omega arith in rw (q, add-zero, add-zero) e
  alike-each f (suc n) m l e =
      by_cases (eqb m (suc n))
      (λ q. let z : m ≡ suc n = eqb-true m (suc n) q in rw z (and_right (alike_to f a i b j n) (eqb (f (get_or a (i + suc n) 0)) (f (get_or b (j + suc n) 0))) e))
      (λ q. let z = eqb-false m (suc n) q in alike-each f n m (omega arith) (and_left (alike_to f a i b j n) (eqb (f (get_or a (i + suc n) 0)) (f (get_or b (j + suc n) 0))) e))

  -- bytes that are the same are so by each comparison
  pub alike-exactly : (f : ℕ → ℕ) (n : ℕ) → alike_to exactly a i b j n ≡ true → alike_to f a i b j n ≡ true
  alike-exactly f zero e =
      let q : get_or a i 0 ≡ get_or b j 0 = eqb-true (get_or a i 0) (get_or b j 0) e in
      rw q (eq-eqb (f (get_or b j 0)) (f (get_or b j 0)) refl)
  alike-exactly f (suc n) e =
      let x = get_or a (i + suc n) 0 in
      let y = get_or b (j + suc n) 0 in
      let q : x ≡ y = eqb-true x y (and_right (alike_to exactly a i b j n) (eqb x y) e) in
      rw (alike-exactly f n (and_left (alike_to exactly a i b j n) (eqb x y) e), q) (eq-eqb (f y) (f y) refl)

module _ (f : ℕ → ℕ) where
  -- so many bytes, and what is behind them
  same-behind : (n : ℕ) (a : List ℕ) (i : ℕ) (b : List ℕ) (j : ℕ) → i + n < length a → j + n < length b
      → same_by f (drop i a) (drop j b) ≡ (alike_to f a i b j n && same_by f (drop (i + suc n) a) (drop (j + suc n) b))
  unfolding same_by
  same-behind zero a i b j l m =
      let p : i + 1 ≡ suc i = omega arith in
      let q : j + 1 ≡ suc j = omega arith in
      rw (drop-cons a i 0 (omega arith), drop-cons b j 0 (omega arith), p, q)
  same-behind (suc n) a i b j l m =
      let p : i + suc (suc n) ≡ suc (i + suc n) = omega arith in
      let q : j + suc (suc n) ≡ suc (j + suc n) = omega arith in
      same-behind n a i b j (omega arith) (omega arith)
      ∙ rw (drop-cons a (i + suc n) 0 (omega arith), drop-cons b (j + suc n) 0 (omega arith), p, q)
      (sym (and-assoc (alike_to f a i b j n) (eqb (f (get_or a (i + suc n) 0)) (f (get_or b (j + suc n) 0))) (same_by f (drop (suc (i + suc n)) a) (drop (suc (j + suc n)) b))))

  pub eight-behind : (a b : List ℕ) (i : ℕ) → i + 8 ≤ length a → length a ≡ length b
      → same_by f (drop i a) (drop i b) ≡ (alike_to f a i b i 7 && same_by f (drop (i + 8) a) (drop (i + 8) b))
  eight-behind a b i l e = same-behind 7 a i b i (omega arith) (omega arith)

-- eight more bytes of two texts that begin alike
pub run-eight : (f : ℕ → ℕ) (a b : List ℕ) (n : ℕ) → n + 8 ≤ length a → n + 8 ≤ length b → RunAlike f a b n → alike_to f a n b n 7 ≡ true → RunAlike f a b (n + 8)
run-eight f a b n l m (_, _, h) e = (l, m, each)
  where
    each : (k : ℕ) → k < n + 8 → eqb (f (get_or a k 0)) (f (get_or b k 0)) ≡ true
    each k s =
        by_cases (ltb k n)
        (λ q. h k (ltb-true k n q))
        (λ q. let g = ltb-false k n q in
        let z : n + (k - n) ≡ k = omega arith in
        rw z at (alike-each a n b n f 7 (k - n) (omega arith) e))
