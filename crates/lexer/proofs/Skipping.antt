-- Laws of skipping trivia, at a place of a text in the terms of a loop: by induction over the bytes that are passed.
use mathlib.Core.Path.{◌≡◌, refl, ap, ◌∙◌}
use mathlib.Core.Bool.{Bool, true, false, not, ◌||◌, and-false}
use Rattle.std.specs.Prelude.{Some, None, Ok, Err}
use mathlib.Core.List.{List, [], ◌∷◌}
use Prim.Native.Nat.{ℕ, zero, suc, ◌+◌, ◌<◌, ◌≤◌}
use native.Mathlib.Nat.{add-zero}
use native.Mathlib.Omega.{arith}
use borrow.Author.Tests.{not-true, ltb-true, ltb-false, lt-leb, ne_eqb}
use lib.Dec.{eqb, leb, ltb}
use lib.ListN.{length, drop, get_or, length-drop, drop_of_length-le}
use lib.Seq.{drop-cons, drop-drop, get_or-drop}
use Rattle.ascii.specs.Ascii.{is_space}
use Rattle.ascii.proofs.Flags.{and_left, and_right, or-none, by_cases}
use Rattle.refusal.specs.declared.Reason.TheVariants.{UnclosedComment}
use Rattle.refusal.specs.Verdict.{refusal_at}
use Rattle.lexer.specs.Continuation.{break_c, break_f}
use Rattle.lexer.specs.Trivia.{trivia_c, trivia_f, trivia_of, no_trivia, skip_from, skip}

-- skipping is dropping
skip-pass : (f : Bool) (k at : ℕ) (xs : List ℕ) → k ≤ length xs → skip_from f k at xs ≡ skip_from f 0 (at + k) (drop k xs)
unfolding skip_from
skip-pass f zero at xs h = rw add-zero
skip-pass f (suc k) at [] h = absurd (omega arith)
skip-pass f (suc k) at (x ∷ xs) h =
    let e : at + suc k ≡ suc at + k = omega arith in
    rw e (skip-pass f k (suc at) xs (omega arith))

skip_first : (f : Bool) (at : ℕ) (xs : List ℕ) (n : ℕ) → trivia_of f xs ≡ Some n → (n ≡ 0 → ⊥) → n ≤ length xs → skip_from f 0 at xs ≡ skip_from f 0 (at + n) (drop n xs)
unfolding skip_from
skip_first f at [] zero e h g = absurd (h refl)
skip_first f at [] (suc n) e h g = absurd (omega arith)
skip_first f at (x ∷ xs) zero e h g = absurd (h refl)
skip_first f at (x ∷ xs) (suc n) e h g =
    let q : at + suc n ≡ suc at + n = omega arith in
    rw (e, skip_from, q) (skip-pass f n (suc at) xs (omega arith))

-- the same at the place i of a text
module _ (f : Bool) (s : List ℕ) (i : ℕ) where
  pub skip-end : length s ≤ i → skip_from f 0 i (drop i s) ≡ Ok i
  unfolding skip_from
  skip-end h = rw (drop_of_length-le s h)

  pub skip-open : i < length s → trivia_of f (drop i s) ≡ None → skip_from f 0 i (drop i s) ≡ Err (refusal_at UnclosedComment i)
  unfolding skip_from
  skip-open h e = rw (drop-cons s i 0) (rw (rw (drop-cons s i 0) at e, skip_from))

  pub skip-none : i < length s → trivia_of f (drop i s) ≡ Some 0 → skip_from f 0 i (drop i s) ≡ Ok i
  unfolding skip_from
  skip-none h e = rw (drop-cons s i 0) (rw (rw (drop-cons s i 0) at e, skip_from))

  pub skip-run : (n : ℕ) → i + n ≤ length s → trivia_of f (drop i s) ≡ Some n → (n ≡ 0 → ⊥) → skip_from f 0 i (drop i s) ≡ skip_from f 0 (i + n) (drop (i + n) s)
  skip-run n h e g = rw (← drop-drop n i s) (skip_first f i (drop i s) n e g (rw length-drop (omega arith)))

-- where no trivia begins, and where a blank stands before such a byte
solid-parts : (b : ℕ) → no_trivia b ≡ true → (32 < b) × (eqb b 33 ≡ false) × (eqb b 38 ≡ false) × (eqb b 47 ≡ false) × (eqb b 92 ≡ false)
solid-parts b e =
    let m = eqb b 33 || eqb b 38 || eqb b 47 || eqb b 92 in
    let n = or-none (eqb b 33 || eqb b 38 || eqb b 47) (eqb b 92) (not-true m (and_right (ltb 32 b) (not m) e)) in
    let o = or-none (eqb b 33 || eqb b 38) (eqb b 47) n.0 in
    let p = or-none (eqb b 33) (eqb b 38) o.0 in
    (ltb-true 32 b (and_left (ltb 32 b) (not m) e), p.0, p.1, o.1, n.1)

space-none : (b : ℕ) → 32 < b → is_space b ≡ false
space-none b h = rw (lt-leb b 13 (omega arith), ne_eqb b 32 (λ e. absurd (omega (arith, e, h))), and-false (leb 9 b)) refl

solid-none : (f : Bool) (xs : List ℕ) → no_trivia (get_or xs 0 0) ≡ true → trivia_of f xs ≡ Some 0
unfolding trivia_c trivia_f break_c break_f
solid-none false xs e = let p = solid-parts (get_or xs 0 0) e in rw (p.4, space-none (get_or xs 0 0) p.0, p.3) refl
solid-none true xs e = let p = solid-parts (get_or xs 0 0) e in rw (p.2, space-none (get_or xs 0 0) p.0, p.1) refl

blank-one : (f : Bool) (xs : List ℕ) → get_or xs 0 0 ≡ 32 → trivia_of f xs ≡ Some 1
unfolding trivia_c trivia_f break_c break_f
blank-one false xs e = rw e refl
blank-one true xs e = rw e refl

module _ (f : Bool) (s : List ℕ) (i : ℕ) where
  first : get_or (drop i s) 0 0 ≡ get_or s i 0
  first = get_or-drop i s 0 0 ∙ ap (λ k. get_or s k 0) (add-zero i)

  pub skip-solid : i < length s → no_trivia (get_or s i 0) ≡ true → skip f s i ≡ Ok i
  unfolding skip
  skip-solid h e = skip-none f s i h (solid-none f (drop i s) (rw first e))

module _ (f : Bool) (s : List ℕ) (i : ℕ) where
  pub skip-blank : i < length s → get_or s i 0 ≡ 32 → no_trivia (get_or s (i + 1) 0) ≡ true → skip f s i ≡ Ok (i + 1)
  unfolding skip
  skip-blank h e d =
      skip-run f s i 1 (omega arith) (blank-one f (drop i s) (rw (first f s i) e)) (λ z. absurd (omega (arith, z)))
      ∙ by_cases (ltb (i + 1) (length s))
      (λ t. skip-solid f s (i + 1) (ltb-true (i + 1) (length s) t) d)
      (λ t. skip-end f s (i + 1) (ltb-false (i + 1) (length s) t))
