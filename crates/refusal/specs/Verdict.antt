-- What a check finds before a call goes on: nothing, or a refusal.
use Rattle.std.specs.Prelude.{ℕ, cond, List, length, ltb, Option, Some, None, Result, Ok, Err}
use Rattle.ascii.specs.Text.{first_high}
use Rattle.refusal.specs.declared.Reason.{Reason}
use Rattle.refusal.specs.declared.Reason.TheVariants.{TooLong, HighByte}
use Rattle.refusal.specs.declared.Refusal.{Refusal}
use Rattle.refusal.specs.Answer.{Answer, refused_by, max_length}

-- nothing is found, or this refusal
abbrev pub Verdict : Type 0
Verdict = Result (Unit {0}) Refusal

abbrev pub fine : Verdict
fine = Ok tt

-- the refusal for a reason at a place
abbrev pub refusal_at : Reason → ℕ → Refusal
refusal_at why place = record { reason = why; place = place }

-- a reason at the place of a fault, if there is one
abbrev pub fault_by : Reason → Option ℕ → Verdict
fault_by why None = fine
fault_by why (Some p) = Err (refusal_at why p)

-- a check, and the check after it
abbrev pub and_check : Verdict → Verdict → Verdict
and_check (Ok u) v = v
and_check (Err r) v = Err r

-- rows 1 and 2 of the table
unfoldable pub text_verdict : List ℕ → Verdict
unfolding first_high
text_verdict xs = cond (ltb max_length (length xs)) (Err (refusal_at TooLong max_length)) (fault_by HighByte (first_high 0 xs))

-- the refusal that a check found, or else what follows
abbrev pub or_refused : {A : Type 0} → Verdict → Answer A → Answer A
or_refused (Ok u) a = a
or_refused (Err r) a = refused_by r
