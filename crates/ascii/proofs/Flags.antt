-- Laws of the Bools that a test makes: what follows from `a && b` and `a || b`, and how `cond` goes on.
-- Assumes nothing.
use mathlib.Core.Path.{◌≡◌, refl}
use mathlib.Core.Bool.{Bool, true, false, ◌&&◌, ◌||◌}

pub and_left : (a b : Bool) → (a && b) ≡ true → a ≡ true
and_left true b h = refl
and_left false b h = h

pub and_right : (a b : Bool) → (a && b) ≡ true → b ≡ true
and_right true b h = h
and_right false true h = refl
and_right false false h = h

pub or-none : (a b : Bool) → (a || b) ≡ false → (a ≡ false) × (b ≡ false)
or-none false b h = (refl, h)
or-none true b h = (h, cond-absurd b h)
  where
    cond-absurd : (b : Bool) → true ≡ false → b ≡ false
    cond-absurd true h = h
    cond-absurd false h = refl

-- both ways of a Bool give the result
pub by_cases {ℓ} : {X : Type ℓ} (b : Bool) → (b ≡ true → X) → (b ≡ false → X) → X
by_cases true h k = h refl
by_cases false h k = k refl
