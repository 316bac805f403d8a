-- Laws of one physical line, in the terms of the code that scans it: its code, its last byte, what stands behind it.
-- Assumes nothing.
use mathlib.Core.Path.{◌≡◌, refl, ap, ◌∙◌}
use mathlib.Core.Bool.{true, false, not, ◌&&◌}
use mathlib.Core.List.{List, [], ◌∷◌, reverse, reverse-append}
use Prim.Native.Nat.{ℕ, zero, suc, ◌+◌, ◌-◌, ◌<◌, ◌≤◌}
use native.Mathlib.Nat.{add-zero}
use native.Mathlib.Numerals.{add-one}
use native.Mathlib.Omega.{arith}
use lib.ListN.{length, take, drop, get_or, drop_of_length-le, length-reverse}
use lib.Seq.{drop-cons, get_or-drop, take-suc}
use lib.Dec.{eqb}
use Rattle.std.proofs.lemmas.List.{get_or-reverse}
use borrow.Author.Tests.{eqb-true}
use Rattle.ascii.proofs.Flags.{by_cases}
use Rattle.ascii.specs.Ascii.{is_trimmed}
use Rattle.ascii.specs.Text.{starts, leading}
use Rattle.validation.specs.declared.Quoting.{Quoting}
use Rattle.validation.specs.Validation.{after_byte, is_inside, code_length, ends_in, is_over}

-- the code of a line, from a place on
module _ (q : Quoting) (s : List ℕ) (i : ℕ) where
  pub code-stop : i < length s → get_or s i 0 ≡ 33 → is_inside q ≡ false → code_length q (drop i s) ≡ 0
  unfolding code_length
  code-stop h e f = rw (drop-cons s i 0, code_length, e, f)

  pub code-more : i < length s → (get_or s i 0 ≡ 33 → is_inside q ≡ true) → code_length q (drop i s) ≡ suc (code_length (after_byte q (get_or s i 0)) (drop (i + 1) s))
  unfolding code_length
  code-more h f =
      let e : (eqb (get_or s i 0) 33 && not (is_inside q)) ≡ false =
      by_cases (eqb (get_or s i 0) 33) (λ e. rw (e, f (eqb-true _ _ e))) (λ e. rw e)
      in
      rw (add-one, drop-cons s i 0, code_length, e)

  pub code-end : length s ≤ i → code_length q (drop i s) ≡ 0
  unfolding code_length
  code-end h = rw (drop_of_length-le s h)

-- the last byte that trimming leaves is that of the n bytes that it leaves at the front
pub ends-trimmed : (b : ℕ) (s : List ℕ) (n : ℕ) → n ≡ length s - leading is_trimmed (reverse s) → ends_in b s ≡ starts b (reverse (take n s))
unfolding ends_in
ends-trimmed b s zero e =
    let h : length (reverse s) ≤ leading is_trimmed (reverse s) = rw length-reverse (omega arith) in
    rw (drop_of_length-le (reverse s) h) refl
ends-trimmed b s (suc n) e =
    let k = leading is_trimmed (reverse s) in
    let m : length s - 1 - k ≡ n = omega arith in
    let here : get_or (drop k (reverse s)) 0 0 ≡ get_or s n 0 = get_or-drop k (reverse s) 0 0 ∙ rw (add-zero, get_or-reverse s k 0 (omega arith), m) refl in
    rw (take-suc s n 0 (omega arith), reverse-append (take n s) (get_or s n 0 ∷ [])) (ap (λ x. eqb x b) here)

-- more text stands after a line
pub over-not : (s : List ℕ) (i : ℕ) → i < length s → is_over (drop i s) ≡ false
over-not s i h = rw (drop-cons s i 0)
