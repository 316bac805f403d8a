-- Laws of how many bytes two texts begin with alike: more of them, and what it tells of a name without its blanks and a beginning of letters, if both are folded.
-- By places, and by structure. Assumes nothing.
use mathlib.Core.Path.{◌≡◌, refl, sym, ◌∙◌}
use mathlib.Core.Bool.{Bool, true, false, cond, ◌&&◌, ◌||◌}
use mathlib.Core.List.{List, [], ◌∷◌, map}
use Prim.Native.Nat.{ℕ, zero, suc, ◌+◌, ◌-◌, ◌<◌, ◌≤◌}
use native.Mathlib.Omega.{arith}
use lib.ListN.{length, take, drop, get_or, length-drop, length-take}
use lib.Seq.{get_or-drop}
use lib.Dec.{eqb, leb, ltb}
use borrow.Author.Tests.{ne_eqb, ltb-true, ltb-false, le-leb, lt-leb}
use Rattle.std.proofs.Math.Dec.{eqb-suc-suc, leb-suc-suc}
use Rattle.ascii.specs.Ascii.{is_space, fold}
use Rattle.ascii.specs.Text.{same_by}
use Rattle.ascii.proofs.Flags.{by_cases}
use Rattle.directive.specs.Name.{compact, same_compact, head_from}
use Rattle.directive.specs.Steps.{RunAlike}
use Rattle.directive.specs.Compacts.{Agreed, blank_behind}
use Rattle.directive.proofs.Beginning.{follows}
use Rattle.directive.proofs.Eights.{and-assoc}
use Rattle.directive.proofs.Marking.{head-letters}

-- one byte more, and so many that follow
pub alike-more : (f : ℕ → ℕ) (a b : List ℕ) (n : ℕ) → RunAlike f a b n → n < length a → n < length b → eqb (f (get_or a n 0)) (f (get_or b n 0)) ≡ true → RunAlike f a b (n + 1)
alike-more f a b n (_, _, h) l m e = (omega arith, omega arith, each)
  where
    each : (k : ℕ) → k < n + 1 → eqb (f (get_or a k 0)) (f (get_or b k 0)) ≡ true
    each k s =
        by_cases (ltb k n)
        (λ q. h k (ltb-true k n q))
        (λ q. let g = ltb-false k n q in let z : k ≡ n = omega arith in rw z e)

pub alike-run : (f : ℕ → ℕ) (a b : List ℕ) (n k : ℕ) → RunAlike f a b n → RunAlike f (drop n a) (drop n b) k → RunAlike f a b (n + k)
alike-run f a b n k (l, m, h) (p, q, g) =
    let x = length-drop n a in
    let y = length-drop n b in
    (omega arith, omega arith, each)
  where
    each : (i : ℕ) → i < n + k → eqb (f (get_or a i 0)) (f (get_or b i 0)) ≡ true
    each i s =
        by_cases (ltb i n)
        (λ u. h i (ltb-true i n u))
        (λ u. let v = ltb-false i n u in
        let z : n + (i - n) ≡ i = omega arith in
        rw (get_or-drop n a (i - n) 0, get_or-drop n b (i - n) 0, z) at (g (i - n) (omega arith)))

-- a text begins with letters, case ignored
unfoldable begun : List ℕ → List ℕ → Bool
begun [] xs = true
begun (y ∷ ys) [] = false
begun (y ∷ ys) (x ∷ xs) = eqb (fold x) (fold y) && begun ys xs

-- a beginning of letters is a name's where both agree so far, and it ends where the name does or has a blank
follows-begun : (name d : List ℕ) → follows true true fold name d ≡ (begun d (compact name) && (blank_behind name (length d) || eqb (length d) (length (compact name))))
unfolding follows compact blank_behind begun
follows-begun [] [] = refl
follows-begun [] (y ∷ ys) = refl
follows-begun (x ∷ xs) [] = go (is_space x) (eqb x 32) (follows-begun xs [])
  where
    go : (s p : Bool) → follows true true fold xs [] ≡ (true && (blank_behind xs 0 || eqb 0 (length (compact xs))))
        → ((true && p) || ((true && s) && follows true true fold xs [])) ≡ (true && ((p || (s && blank_behind xs 0)) || eqb 0 (length (cond s (compact xs) (x ∷ compact xs)))))
    go true true h = refl
    go true false h = h
    go false true h = refl
    go false false h = rw (ne_eqb 0 (suc (length (compact xs))) (omega arith))
follows-begun (x ∷ xs) (y ∷ ys) = go (is_space x) (follows-begun xs (y ∷ ys)) (follows-begun xs ys)
  where
    go : (s : Bool) → follows true true fold xs (y ∷ ys) ≡ (begun (y ∷ ys) (compact xs) && (blank_behind xs (suc (length ys)) || eqb (suc (length ys)) (length (compact xs))))
        → follows true true fold xs ys ≡ (begun ys (compact xs) && (blank_behind xs (length ys) || eqb (length ys) (length (compact xs))))
        → cond s (follows true true fold xs (y ∷ ys)) (eqb (fold x) (fold y) && follows true true fold xs ys)
        ≡ (begun (y ∷ ys) (cond s (compact xs) (x ∷ compact xs))
        && (blank_behind xs (cond s (suc (length ys)) (length ys)) || eqb (suc (length ys)) (length (cond s (compact xs) (x ∷ compact xs)))))
    go true h k = h
    go false h k = rw (k, eqb-suc-suc) (sym (and-assoc (eqb (fold x) (fold y)) (begun ys (compact xs)) (blank_behind xs (length ys) || eqb (length ys) (length (compact xs)))))

same-begun : (a d : List ℕ) → same_by fold a d ≡ (begun d a && eqb (length d) (length a))
unfolding same_by begun
same-begun [] [] = refl
same-begun [] (y ∷ ys) = refl
same-begun (x ∷ xs) [] = rw (ne_eqb 0 (suc (length xs)) (omega arith))
same-begun (x ∷ xs) (y ∷ ys) = rw (same-begun xs ys, eqb-suc-suc) (sym (and-assoc (eqb (fold x) (fold y)) (begun ys xs) (eqb (length ys) (length xs))))

-- how far letters go with a text tells which of their beginnings it has
agreed-next : (x y : ℕ) (xs ys : List ℕ) (r : ℕ) → Agreed (x ∷ xs) (y ∷ ys) (suc r) → Agreed xs ys r
agreed-next x y xs ys r ((l, m, f), g) = ((omega arith, omega arith, λ k s. f (suc k) (omega arith)), λ p q. g (omega arith) (omega arith))

begun-run : (n : ℕ) (a t : List ℕ) (run : ℕ) → Agreed (map fold a) (map fold t) run → n ≤ length t → begun (take n t) a ≡ leb n run
unfolding begun
begun-run zero a t run g l = rw (le-leb 0 run (omega arith))
begun-run (suc n) a [] run g l = absurd (omega arith)
begun-run (suc n) [] (y ∷ ys) run g l = rw (lt-leb (suc n) run (omega (arith, g.0.0)))
begun-run (suc n) (x ∷ xs) (y ∷ ys) zero g l = let e : eqb (fold x) (fold y) ≡ false = g.1 (omega arith) (omega arith) in rw (e, lt-leb (suc n) 0 (omega arith))
begun-run (suc n) (x ∷ xs) (y ∷ ys) (suc r) g l =
    let e : eqb (fold x) (fold y) ≡ true = g.0.2 0 (omega arith) in
    rw (e, begun-run n xs ys r (agreed-next (fold x) (fold y) (map fold xs) (map fold ys) r g) (omega arith), leb-suc-suc)

-- what that tells of a name and a candidate that has just the first n of some letters
module _ (name t : List ℕ) (run : ℕ) (g : Agreed (map fold (compact name)) (map fold t) run) (c : List ℕ) (n : ℕ) (l : n ≤ length t) (q : compact c ≡ take n t) where
  size : length (take n t) ≡ n
  size = simp length-take (omega arith)

  pub head-run : head_from same_compact [] name c ≡ (leb n run && (blank_behind name n || eqb n (length (compact name))))
  head-run = head-letters name c ∙ rw (q, follows-begun name (take n t), size, begun-run n (compact name) t run g l)

  pub same-run : same_compact name c ≡ (leb n run && eqb n (length (compact name)))
  same-run = rw (q, same-begun (compact name) (take n t), size, begun-run n (compact name) t run g l)
