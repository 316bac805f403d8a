-- Laws of a run that stays: none, one byte before it, a run of bytes that begin no continuation, by one induction for the bytes and their places; what is
-- filled in for it. Assumes nothing.
use Prim.Native.Nat.{ℕ, zero, suc, ◌+◌, ◌-◌, ◌<◌, ◌≤◌}
use native.Mathlib.Nat.{add-zero}
use native.Mathlib.Numerals.{add-one}
use native.Mathlib.Omega.{arith}
use mathlib.Core.Path.{◌≡◌, refl, sym, ap, ◌∙◌}
use mathlib.Core.Bool.{Bool, true, false}
use mathlib.Core.List.{List, [], ◌∷◌, ◌++◌, map, append_assoc}
use lib.ListN.{length, take, drop, get_or, length-take, length-drop}
use lib.Seq.{drop-cons, get_or-drop}
use lib.Dec.{eqb}
use borrow.Author.Tests.{not-true}
use Rattle.ascii.proofs.Flags.{and_left, and_right}
use Rattle.std.specs.List.{prefix_len}
use Rattle.std.proofs.lemmas.List.{take-take, take-append-le, take-append-drop}
use Rattle.std.proofs.lemmas.List.Sums.{prefix_len_passes}
use Rattle.ascii.specs.Text.{leading}
use Rattle.ascii.proofs.Texts.{leading_le, leading_counts, leading-more}
use borrow.Rule.Slice.PartMut.{put_mid}
use Rattle.std.proofs.lemmas.Slice.{take-put_mid}
use Rattle.std.specs.Prelude.{None}
use Rattle.lexer.specs.Continuation.{if_any, break_c, break_f}
use Rattle.source.specs.Joining.{any_cut, byte_of, place_of}
use Rattle.source.specs.Staying.{BeginsNone, is_plain_c, is_plain_f, is_plain, counted, Stays}
use Rattle.source.proofs.Kept.{kept_next}

-- a byte that is neither `\` nor `&` begins no continuation, and each of them none of the other language
module _ (xs : List ℕ) (i : ℕ) where
  first-is : get_or (drop i xs) 0 0 ≡ get_or xs i 0
  first-is = get_or-drop i xs 0 0 ∙ rw add-zero refl

  plain-c : is_plain_c (get_or xs i 0) ≡ true → break_c (drop i xs) ≡ 0
  unfolding break_c
  plain-c e =
      let p : eqb (get_or (drop i xs) 0 0) 92 ≡ false = rw first-is (not-true (eqb (get_or xs i 0) 92) e) in
      rw p refl

  plain-f : is_plain_f (get_or xs i 0) ≡ true → break_f (drop i xs) ≡ 0
  unfolding break_f
  plain-f e =
      let p : eqb (get_or (drop i xs) 0 0) 38 ≡ false = rw first-is (not-true (eqb (get_or xs i 0) 38) e) in
      rw p refl

  plain-any : is_plain (get_or xs i 0) ≡ true → any_cut (drop i xs) ≡ 0
  plain-any e =
      let b = get_or xs i 0 in
      rw (plain-c (and_left (is_plain_c b) (is_plain_f b) e), plain-f (and_right (is_plain_c b) (is_plain_f b) e)) refl

pub none-c : BeginsNone is_plain_c break_c
none-c = record { none = plain-c }

pub none-f : BeginsNone is_plain_f break_f
none-f = record { none = plain-f }

pub none-any : BeginsNone is_plain any_cut
none-any = record { none = plain-any }

module _ (cut : List ℕ → ℕ) (xs : List ℕ) where
  pub stays-none : (from : ℕ) → from ≤ length xs → Stays cut xs from from
  unfolding counted
  stays-none from h =
      let n : from - from ≡ 0 = omega arith in
      record { ordered = omega arith; within = h; bytes = rw n refl; places = rw n refl }

  -- one byte before
  pub stays-first : (from end : ℕ) → from < length xs → if_any (cut (drop from xs)) ≡ None → Stays cut xs (from + 1) end → Stays cut xs from end
  unfolding counted
  stays-first from end h e s =
      let o = s.ordered in
      let n : end - from ≡ suc (end - (from + 1)) = omega arith in
      let next = kept_next cut xs from h e in
      record {
        ordered = omega arith;
        within = s.within;
        bytes = ap (map byte_of) next ∙ ap (λ (r : List ℕ). get_or xs from 0 ∷ r) s.bytes ∙ rw (n, drop-cons xs from 0, ← add-one from) refl;
        places = ap (map place_of) next ∙ ap (λ (r : List ℕ). from ∷ r) s.places ∙ rw (n, ← add-one from) refl;
      }

  -- a run of bytes that begin no continuation stays
  run-stays : (p : ℕ → Bool) → BeginsNone p cut → (n from : ℕ) → from ≤ length xs → n ≤ leading p (drop from xs)
      → Stays cut xs from (from + n)
  run-stays p free zero from h e = rw add-zero (stays-none from h)
  run-stays p free (suc n) from h e =
      let m : from + 1 + n ≡ from + suc n = omega arith in
      let l : from < length xs = omega (arith, leading_le p (drop from xs), length-drop from xs) in
      let z : 0 < prefix_len p (drop from xs) = omega (arith, leading_counts p (drop from xs)) in
      let b : p (get_or xs from 0) ≡ true = rw (get_or-drop, add-zero) at (prefix_len_passes p (drop from xs) 0 0 z) in
      rw m at (stays-first from (from + 1 + n) l (ap if_any (free.none xs from b)) (run-stays p free n (from + 1) (omega arith) (omega (arith, leading-more p xs from l b))))

  -- the same by its end
  pub stays-run : (p : ℕ → Bool) → BeginsNone p cut → (from end : ℕ) → from ≤ length xs → from ≤ end → end ≤ from + leading p (drop from xs)
      → Stays cut xs from end
  stays-run p free from end h o e =
      let m : from + (end - from) ≡ end = omega arith in
      rw m at (run-stays p free (end - from) from h (omega arith))

-- places to come: one more, none
module _ (i k n : ℕ) where
  pub counted-next : k < n → counted i (n - k) ≡ i ∷ counted (i + 1) (n - (k + 1))
  unfolding counted
  counted-next h =
      let m : n - k ≡ suc (n - (k + 1)) = omega arith in
      rw (m, add-one i) refl

  pub counted-none : n ≤ k → counted i (n - k) ≡ []
  unfolding counted
  counted-none h =
      let m : n - k ≡ 0 = omega arith in
      rw m refl

-- slots that are filled from the front: a part put in at k is what came next, and what is still to come is behind it
pub filled : {A : Type 0} (slots part to_come behind whole : List A) (k : ℕ) → k ≤ length slots → to_come ≡ part ++ behind → take k slots ++ to_come ≡ whole
    → take (k + length part) (put_mid k (k + length part - k) slots part) ++ behind ≡ whole
filled slots part to_come behind whole k h e f = rw (take-put_mid k (k + length part - k) slots part (k + length part) refl h, append_assoc, ← e) f

-- slots whose first k are a list's hold fewer of it too
pub front-same : {A : Type 0} (m k : ℕ) (slots whole : List A) → m ≤ k → m ≤ length slots → take k slots ++ drop k whole ≡ whole → take m slots ++ drop m whole ≡ whole
front-same m k slots whole h w e =
    let short : m ≤ length (take k slots) = rw length-take (omega arith) in
    let front : take m slots ≡ take m whole = sym (take-append-le m (take k slots) (drop k whole) short ∙ take-take m k slots h) ∙ ap (take m) e in
    rw front (take-append-drop m whole)
