-- What a call answers: what it gives, or one refusal of the table with its place.
use Rattle.std.specs.Prelude.{ℕ, cond, List, [], length, ltb, Option, Some, None, Result, Ok, Err}
use Rattle.ascii.specs.Text.{first_high, padded}
use Rattle.refusal.specs.declared.Refusal.{Refusal}
use Rattle.refusal.specs.Table.{number_of}

pub data Answer (A : Type 0) : Type 0 where
  given : A → Answer A
  -- the number in the table, and the place
  refused : ℕ → ℕ → Answer A

-- a refusal's number and place
abbrev pub refused_by : {A : Type 0} → Refusal → Answer A
refused_by r = refused (number_of r.reason) r.place

-- the declared answer of a call: what it gives, or its refusal's number and place
abbrev pub told : {A : Type 0} → Result A Refusal → Answer A
told (Ok a) = given a
told (Err r) = refused_by r

-- a step, and the step after it: "Checked in this order"
abbrev pub and_then : {A B : Type 0} → Answer A → (A → Answer B) → Answer B
and_then (given a) f = f a
and_then (refused n p) f = refused n p

-- refusal n at the place of a fault, if there is one
abbrev pub unless_fault : {A : Type 0} → ℕ → Option ℕ → Answer A → Answer A
unless_fault n None a = a
unless_fault n (Some p) a = refused n p

-- "at most 16,384"
abbrev pub max_length : ℕ
max_length = 16384

-- rows 1 and 2, "line or text over 16,384" and "byte above 127, the first"; then the rest
abbrev pub admitted : {A : Type 0} → List ℕ → Answer A → Answer A
admitted xs a = cond (ltb max_length (length xs)) (refused 1 max_length) (unless_fault 2 (first_high 0 xs) a)

-- lent slots after a call: what it gives and zeros behind; all zeros after a refusal
abbrev pub slots : {A B : Type 0} → B → ℕ → (A → List B) → Answer A → List B
slots z size of (given a) = padded z size (of a)
slots z size of (refused n p) = padded z size []
