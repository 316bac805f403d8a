-- The rest of a text is blank exactly from one place on, found once from the back: a pass over the lines need not look again.
-- Assumes nothing.
use mathlib.Core.Path.{◌≡◌, refl, sym, ap, ◌∙◌}
use mathlib.Core.Bool.{Bool, true, false, cond}
use mathlib.Core.List.{List, [], ◌∷◌, ◌++◌, reverse, reverse-append, reverse-reverse}
use Prim.Native.Nat.{ℕ, suc, ◌+◌, ◌-◌, ◌<◌, ◌≤◌}
use native.Mathlib.Nat.{zero-add}
use native.Mathlib.Omega.{arith}
use lib.ListN.{length, take, drop, length-drop, length-reverse, take-append-drop}
use lib.Seq.{drop-drop}
use lib.Dec.{eqb, ltb, leb}
use borrow.Author.Tests.{ltb-true, ltb-false, eq-eqb, ne_eqb, le-leb, lt-leb}
use Rattle.ascii.specs.Ascii.{is_trimmed}
use Rattle.ascii.specs.Text.{leading, is_blank_text}
use Rattle.ascii.proofs.Flags.{by_cases}
use Rattle.ascii.proofs.Texts.{leading_le, leading-apart, trimmed-blank, trimmed-solid}
use Rattle.validation.specs.Validation.{blank_from}

module _ (p : ℕ → Bool) where
  -- a run that is a whole text goes on behind it, and one that is not ends where it ends
  run-over : (xs ys : List ℕ) → length xs ≤ leading p xs → length xs ≤ leading p (xs ++ ys)
  unfolding leading
  run-over [] ys h = omega arith
  run-over (x ∷ xs) ys h = go (p x) (run-over xs ys) h
    where
      go : (b : Bool) → (length xs ≤ leading p xs → length xs ≤ leading p (xs ++ ys))
          → suc (length xs) ≤ cond b (suc (leading p xs)) 0 → suc (length xs) ≤ cond b (suc (leading p (xs ++ ys))) 0
      go true ih h = omega (arith, ih (omega arith))
      go false ih h = absurd (omega arith)

  run_ends : (xs ys : List ℕ) → leading p xs < length xs → leading p (xs ++ ys) ≡ leading p xs
  unfolding leading
  run_ends [] ys h = absurd (omega arith)
  run_ends (x ∷ xs) ys h = go (p x) (run_ends xs ys) h
    where
      go : (b : Bool) → (leading p xs < length xs → leading p (xs ++ ys) ≡ leading p xs)
          → cond b (suc (leading p xs)) 0 < suc (length xs) → cond b (suc (leading p (xs ++ ys))) 0 ≡ cond b (suc (leading p xs)) 0
      go true ih h = ap suc (ih (omega arith))
      go false ih h = refl

  -- a text is one run from either end
  run-back : (xs : List ℕ) → length xs ≤ leading p xs → length xs ≤ leading p (reverse xs)
  run-back xs h =
      by_cases (ltb (leading p (reverse xs)) (length xs))
      (λ e.
      let g : leading p (reverse xs) < length (reverse xs) = rw length-reverse (ltb-true (leading p (reverse xs)) (length xs) e) in
      let f = leading-apart p (reverse xs) g in
      absurd (omega (arith, rw (reverse-reverse, length-reverse) at f)))
      (λ e. ltb-false (leading p (reverse xs)) (length xs) e)

  module _ (s : List ℕ) (i : ℕ) where
    split-back : reverse s ≡ reverse (drop i s) ++ reverse (take i s)
    split-back = ap reverse (sym (take-append-drop i s)) ∙ reverse-append (take i s) (drop i s)

    run-after : i ≤ length s → leading p (drop i s) < length (drop i s) → i < length s - leading p (reverse s)
    run-after h l =
        let a = leading-apart p (drop i s) l in
        let g : leading p (reverse (drop i s)) < length (reverse (drop i s)) = rw length-reverse (omega arith) in
        let t : leading p (reverse s) ≡ leading p (reverse (drop i s)) = ap (leading p) split-back ∙ run_ends (reverse (drop i s)) (reverse (take i s)) g in
        omega (arith, length-drop i s)

    run-within : i ≤ length s → length (drop i s) ≤ leading p (drop i s) → length s - leading p (reverse s) ≤ i
    run-within h l =
        let g : length (reverse (drop i s)) ≤ leading p (reverse (drop i s)) = rw length-reverse (run-back (drop i s) l) in
        let t = rw (← split-back, length-reverse) at (run-over (reverse (drop i s)) (reverse (take i s)) g) in
        omega (arith, length-drop i s)

    -- the rest of a text is one run exactly from the place where the run at its end begins
    pub run-from : i ≤ length s → eqb (leading p (drop i s)) (length (drop i s)) ≡ leb (length s - leading p (reverse s)) i
    run-from h =
        by_cases (ltb (leading p (drop i s)) (length (drop i s)))
        (λ e.
        let l = ltb-true (leading p (drop i s)) (length (drop i s)) e in
        ne_eqb (leading p (drop i s)) (length (drop i s)) (λ q. omega arith)
        ∙ sym (lt-leb (length s - leading p (reverse s)) i (run-after h l)))
        (λ e.
        let l = ltb-false (leading p (drop i s)) (length (drop i s)) e in
        eq-eqb (leading p (drop i s)) (length (drop i s)) (omega (arith, leading_le p (drop i s)))
        ∙ sym (le-leb (length s - leading p (reverse s)) i (run-within h l)))

pub blank-from : (s : List ℕ) → blank_from s ≡ length s - leading is_trimmed (reverse s)
blank-from s =
    by_cases (ltb (leading is_trimmed s) (length s))
    (λ e.
    let l = ltb-true (leading is_trimmed s) (length s) e in
    ap (λ r. r.end) (trimmed-solid 0 s (λ q. omega arith)) ∙ ap (λ n. n - leading is_trimmed (reverse s)) (zero-add (length s)))
    (λ e.
    let l = ltb-false (leading is_trimmed s) (length s) e in
    ap (λ r. r.end) (trimmed-blank 0 s (omega (arith, leading_le is_trimmed s))) ∙ omega (arith, run-back is_trimmed s l))

-- the test of a blank rest, n bytes behind a place, is a comparison of places
pub blank-rest : (s : List ℕ) (end n : ℕ) → end + n ≤ length s → is_blank_text (drop n (drop end s)) ≡ leb (blank_from s) (end + n)
blank-rest s end n h = ap is_blank_text (drop-drop n end s) ∙ rw blank-from (run-from is_trimmed s (end + n) h)
