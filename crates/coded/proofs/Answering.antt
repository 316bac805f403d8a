-- Laws of the answers of many parts, by the code's own terms: the next part answers, no part is left or no slot is.
-- Assumes nothing.
use Prim.Native.Nat.{ℕ, suc, ◌+◌, ◌-◌, ◌<◌, ◌≤◌}
use mathlib.Core.Path.{◌≡◌, refl}
use mathlib.Core.List.{List, [], ◌∷◌, ◌++◌, append-nil}
use native.Mathlib.Omega.{arith}
use lib.ListN.{length, take, set}
use lib.Seq.{take_all}
use Rattle.ascii.proofs.Slots.{pushed}
use Rattle.coded.specs.Lines.{end_of, answers_from}

module _ (answer : ℕ → ℕ → List ℕ) (zeros : List ℕ) (size n i at : ℕ) (answers : List (List ℕ)) where
  -- a slot is filled by the next part's answer
  pub fills : {end stop : ℕ} {ends left : List ℕ} {code : List ℕ} → i < n → i < length answers → left ≡ end ∷ ends → stop ≡ end_of size at end → code ≡ answer at stop
      → take (i + 1) (set answers i code) ++ answers_from answer zeros size (n - (i + 1)) stop ends ≡ take i answers ++ answers_from answer zeros size (n - i) at left
  unfolding answers_from
  fills h k l e d =
      let m : n - i ≡ suc (n - (i + 1)) = omega arith in
      rw (pushed, m, l, d, e) refl

  -- a slot is zeroed, as no part is left
  pub zeroes : {left : List ℕ} → i < n → i < length answers → left ≡ []
      → take (i + 1) (set answers i zeros) ++ answers_from answer zeros size (n - (i + 1)) at left ≡ take i answers ++ answers_from answer zeros size (n - i) at left
  unfolding answers_from
  zeroes h k l =
      let m : n - i ≡ suc (n - (i + 1)) = omega arith in
      rw (pushed, m, l) refl

  -- no slot is left
  pub closes : (left : List ℕ) → n ≤ i → length answers ≤ i → answers ≡ take i answers ++ answers_from answer zeros size (n - i) at left
  unfolding answers_from
  closes left h k =
      let m : n - i ≡ 0 = omega arith in
      rw (m, take_all, append-nil) refl
