-- A slice that is filled from the front: its first k slots are written, and `take k slots ++ what is still to come` is the whole.
-- `pushed` is a store at k; `zeros-behind` is a fill with zeros behind the first n. Assumes nothing.
use mathlib.Core.Path.{◌≡◌, ◌∙◌}
use mathlib.Core.List.{List, [], ◌∷◌, ◌++◌, append_assoc, append-nil}
use Prim.Native.Nat.{ℕ, ◌+◌, ◌-◌, ◌<◌, ◌≤◌}
use native.Mathlib.Numerals.{add-one}
use native.Mathlib.Omega.{arith}
use lib.ListN.{length, take, set, replicate, drop_of_length-le}
use lib.Seq.{take-suc-set, length-take-le, drop-drop}
use borrow.Rule.Slice.PartMut.{put_mid, post_of}
use Rattle.ascii.specs.Text.{padded}

module _ {A : Type 0} where
  pub pushed : (t : List A) (k : ℕ) (a : A) (rest : List A) → k < length t → take (k + 1) (set t k a) ++ rest ≡ take k t ++ a ∷ rest
  pushed t k a rest h = rw (add-one, take-suc-set, append_assoc)

  -- all but the first n slots are zeroed
  pub zeros-behind : (z : A) (xs ys : List A) (n : ℕ) → n ≤ length xs → ys ≡ replicate (length xs - n) z → put_mid n (length xs - n) xs ys ≡ take n xs ++ replicate (length xs - n) z
  zeros-behind z xs ys n h e =
      let m : n + (length xs - n) ≡ length xs = omega arith in
      let none : post_of n (length xs - n) xs ≡ [] = drop-drop (length xs - n) n xs ∙ rw m (drop_of_length-le xs (omega arith)) in
      rw (none, append-nil, e)

  -- the first n slots hold ys, the others zeros
  pub padded-take : (z : A) (xs : List A) (n : ℕ) {ys : List A} → n ≤ length xs → take n xs ≡ ys
      → take n xs ++ replicate (length xs - n) z ≡ padded z (length xs) ys
  padded-take z xs n h e = rw (← e, length-take-le)
