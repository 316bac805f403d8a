-- What checks say of a call that makes them first: a fault, two checks one after the other, and the check of a text, also of the text.
-- Assumes nothing.
use mathlib.Core.Path.{◌≡◌, refl, sym}
use mathlib.Core.Bool.{Bool, true, false, cond}
use Rattle.std.specs.Prelude.{Option, Some, None, Ok, Err}
use mathlib.Core.List.{List}
use Prim.Native.Nat.{ℕ, ◌≤◌}
use lib.ListN.{length}
use lib.Dec.{ltb}
use borrow.Author.Tests.{ltb-false}
use Rattle.ascii.specs.Text.{first_high}
use Rattle.refusal.specs.declared.Refusal.{Refusal}
use Rattle.refusal.specs.declared.Reason.{Reason}
use Rattle.refusal.specs.declared.Reason.TheVariants.{TooLong, HighByte}
use Rattle.refusal.specs.Table.{number_of}
use Rattle.refusal.specs.Answer.{Answer, refused, refused_by, unless_fault, admitted, max_length}
use Rattle.refusal.specs.Verdict.{Verdict, fine, refusal_at, fault_by, and_check, text_verdict, or_refused}

pub fault-refused : {A : Type 0} (why : Reason) (o : Option ℕ) (a : Answer A) → or_refused (fault_by why o) a ≡ unless_fault (number_of why) o a
fault-refused why None a = refl
fault-refused why (Some p) a = refl

-- two checks, one after the other
pub and_check-refused : {A : Type 0} (v w : Verdict) (a : Answer A) → or_refused (and_check v w) a ≡ or_refused v (or_refused w a)
and_check-refused (Ok u) w a = refl
and_check-refused (Err r) w a = refl

pub and_check-first : (v w : Verdict) → and_check v w ≡ fine → v ≡ fine
and_check-first (Ok u) w e = refl
and_check-first (Err r) w e = e

pub and_check-second : (v w : Verdict) → and_check v w ≡ fine → w ≡ fine
and_check-second (Ok u) w e = e
and_check-second (Err r) w e = cc

-- the verdict, and then what follows, is what the definition of a call says
pub admits : {A : Type 0} (xs : List ℕ) (a : Answer A) → or_refused (text_verdict xs) a ≡ admitted xs a
unfolding text_verdict
admits xs a = go (ltb max_length (length xs))
  where
    go : (b : Bool) → or_refused (cond b (Err (refusal_at TooLong max_length)) (fault_by HighByte (first_high 0 xs))) a
        ≡ cond b (refused 1 max_length) (unless_fault 2 (first_high 0 xs) a)
    go true = refl
    go false = fault-refused HighByte (first_high 0 xs) a

-- so in the arms of a match on the verdict
pub admits-fine : {A : Type 0} (xs : List ℕ) (a : Answer A) → text_verdict xs ≡ fine → admitted xs a ≡ a
admits-fine xs a e = rw e at (sym (admits xs a))

pub admits-bad : {A : Type 0} (xs : List ℕ) (a : Answer A) (r : Refusal) → text_verdict xs ≡ Err r → admitted xs a ≡ refused_by r
admits-bad xs a r e = rw e at (sym (admits xs a))

-- a text that is admitted is not too long
pub admits-length : (xs : List ℕ) → text_verdict xs ≡ fine → length xs ≤ max_length
unfolding text_verdict
admits-length xs e = go (ltb max_length (length xs)) refl e
  where
    go : (b : Bool) → ltb max_length (length xs) ≡ b → cond b (Err (refusal_at TooLong max_length)) (fault_by HighByte (first_high 0 xs)) ≡ fine
        → length xs ≤ max_length
    go true h e = cc
    go false h e = ltb-false max_length (length xs) h
