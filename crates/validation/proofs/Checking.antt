-- Laws of validation for every language: the fault of a line by what the check of its first physical line says, and that check in
-- the places that the code reads at. Assumes nothing.
use Prim.Native.Nat.{ℕ, zero, suc, ◌+◌, ◌-◌, ◌<◌, ◌≤◌}
use native.Mathlib.Nat.{add-zero}
use native.Mathlib.Omega.{arith}
use mathlib.Core.Bool.{Bool, cond, ◌&&◌}
use Rattle.std.specs.Prelude.{Some, None}
use mathlib.Core.Path.{◌≡◌, refl, sym, ap, ◌∙◌}
use mathlib.Core.List.{List, [], ◌∷◌}
use lib.ListN.{length, take, drop, get_or, length-drop, drop_of_length-le}
use lib.Seq.{drop-cons, drop-drop, length-take-le}
use lib.Dec.{ltb, leb}
use Rattle.std.proofs.lemmas.List.{take_rest}
use Rattle.ascii.specs.Ascii.{is_blank}
use Rattle.ascii.specs.Text.{leading, is_blank_text}
use Rattle.ascii.proofs.Texts.{leading_le}
use Rattle.lexer.specs.declared.Language.{Language}
use Rattle.lexer.specs.declared.Prefix.{Prefix}
use Rattle.validation.proofs.Lines.{over-not}
use Rattle.validation.proofs.BlankTail.{blank-rest}
use Rattle.validation.specs.declared.Checked.TheVariants.{Fine, WrongAt, Next}
use Rattle.validation.specs.Validation.{continued, foreign, line_length, eol_bytes, check_end, check_line, fault_from, blank_from}

pub length-leading : (q : ℕ → Bool) (xs : List ℕ) → length (take (leading q xs) xs) ≡ leading q xs
length-leading q xs = length-take-le (leading q xs) xs (leading_le q xs)

module _ (l : Language) (p : Prefix) where
  pub fault-nil : (k at : ℕ) → fault_from l p k at [] ≡ None
  unfolding fault_from
  fault-nil zero at = refl
  fault-nil (suc k) at = refl

  -- skipping is dropping
  pub fault-skip : (k at : ℕ) (xs : List ℕ) → fault_from l p k at xs ≡ fault_from l p 0 (at + k) (drop k xs)
  unfolding fault_from
  fault-skip zero at xs = rw add-zero
  fault-skip (suc k) at [] = refl
  fault-skip (suc k) at (x ∷ xs) =
      let e : at + suc k ≡ suc at + k = omega arith in
      rw e (fault-skip k (suc at) xs)

  -- where a physical line begins: the three things that its check may say
  module _ (at x : ℕ) (xs : List ℕ) where
    pub fault-fine : check_line l p (ltb 0 at) at (x ∷ xs) ≡ Fine → fault_from l p 0 at (x ∷ xs) ≡ None
    unfolding fault_from
    fault-fine e = rw (e, fault_from)

    pub fault-wrong : (q : ℕ) → check_line l p (ltb 0 at) at (x ∷ xs) ≡ WrongAt q → fault_from l p 0 at (x ∷ xs) ≡ Some q
    unfolding fault_from
    fault-wrong q e = rw (e, fault_from)

    pub fault-next : (n : ℕ) → check_line l p (ltb 0 at) at (x ∷ xs) ≡ Next (suc n) → fault_from l p 0 at (x ∷ xs) ≡ fault_from l p n (suc at) xs
    unfolding fault_from
    fault-next n e =
        let q : suc n - 1 ≡ n = omega arith in
        rw (e, fault_from, q)

  -- the same at the place i of a line
  module _ (line : List ℕ) (i : ℕ) where
    pub fault-end : length line ≤ i → fault_from l p 0 i (drop i line) ≡ None
    fault-end h = rw (drop_of_length-le line h) (fault-nil 0 i)

    pub fault-fine-at : i < length line → check_line l p (ltb 0 i) i (drop i line) ≡ Fine → fault_from l p 0 i (drop i line) ≡ None
    fault-fine-at h e = rw (drop-cons line i 0) (fault-fine i (get_or line i 0) (drop (suc i) line) (rw (drop-cons line i 0) at e))

    pub fault-wrong-at : (q : ℕ) → i < length line → check_line l p (ltb 0 i) i (drop i line) ≡ WrongAt q → fault_from l p 0 i (drop i line) ≡ Some q
    fault-wrong-at q h e = rw (drop-cons line i 0) (fault-wrong i (get_or line i 0) (drop (suc i) line) q (rw (drop-cons line i 0) at e))

    pub fault-next-at : (n : ℕ) → 0 < n → i < length line → check_line l p (ltb 0 i) i (drop i line) ≡ Next n
        → fault_from l p 0 i (drop i line) ≡ fault_from l p 0 (i + n) (drop (i + n) line)
    fault-next-at zero z h e = absurd (omega arith)
    fault-next-at (suc n) z h e =
        let q : i + suc n ≡ suc i + n = omega arith in
        rw (q, ← drop-drop n (suc i) line, drop-cons line i 0)
        (rw (fault-next i (get_or line i 0) (drop (suc i) line) n (rw (drop-cons line i 0) at e)) (fault-skip n (suc i) (drop (suc i) line)))

-- what an end of line of n bytes behind a physical line leads to, in the places that the code reads at
module _ (l : Language) (p : Prefix) (s : List ℕ) (at end tail n : ℕ) (ordered : at ≤ end) (within : end < length s) (found : tail ≡ blank_from s)
    (eol : eol_bytes (take (length s - end) (drop end s)) ≡ Some n) (fits : n ≤ length (take (length s - end) (drop end s))) where
  abbrev line : List ℕ
  line = take (end - at) (drop at s)

  size : length line ≡ end - at
  size = length-take-le (end - at) (drop at s) (rw length-drop (omega arith))

  here : at + (end - at) ≡ end
  here = omega arith

  read : eol_bytes (drop end s) ≡ Some n
  read = rw take_rest at eol

  blank : is_blank_text (drop n (drop end s)) ≡ leb tail (end + n)
  blank = rw found (blank-rest s end n (omega (arith, rw take_rest at fits, length-drop end s)))

  pub end-told : check_end l p at line (drop end s) ≡ cond (leb tail (end + n)) Fine (cond (continued l p line) (Next (end - at + n)) (WrongAt end))
  end-told = rw (over-not s end within, read, blank, size, here)

-- the check of the physical line at a place, in the places that the code reads at
pub check-at : (l : Language) (p : Prefix) (s : List ℕ) (at end : ℕ) (later : Bool) → end ≡ at + line_length (drop at s)
    → check_line l p later at (drop at s)
    ≡ cond (later && foreign l p (take (end - at) (drop at s))) (WrongAt (at + leading is_blank (drop at s))) (check_end l p at (take (end - at) (drop at s)) (drop end s))
unfolding check_line
check-at l p s at end later e =
    let k = line_length (drop at s) in
    let q : k ≡ end - at = omega arith in
    let r : drop k (drop at s) ≡ drop end s = drop-drop k at s ∙ ap (λ n. drop n s) (sym e) in
    ap (λ n. cond (later && foreign l p (take n (drop at s))) (WrongAt (at + leading is_blank (drop at s))) (check_end l p at (take n (drop at s)) (drop k (drop at s)))) q
    ∙ ap (λ rest. cond (later && foreign l p (take (end - at) (drop at s))) (WrongAt (at + leading is_blank (drop at s))) (check_end l p at (take (end - at) (drop at s)) rest)) r
