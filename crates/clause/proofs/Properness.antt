-- A step keeps what a state that goes on rests on.
-- By cases on what was read at its place: only a clause and its separator go on, and they end behind the place, within the text.
use Prim.Native.Nat.{ℕ, zero, suc, ◌<◌}
use mathlib.Core.Bool.{Bool, true, false, cond}
use mathlib.Core.List.{List}
use native.Mathlib.Omega.{arith}
use lib.ListN.{length}
use lib.Dec.{eqb}
use Rattle.std.specs.Prelude.{Result, Ok, Err}
use Rattle.refusal.specs.declared.Refusal.{Refusal}
use Rattle.rulebook.specs.Book.{book_of}
use Rattle.clause.specs.declared.Progress.{Progress}
use Rattle.clause.specs.declared.Progress.TheVariants.{Going, Ended, Refused}
use Rattle.clause.specs.declared.SequenceState.{SequenceState}
use Rattle.clause.specs.declared.ClauseRead.{ClauseRead}
use Rattle.clause.specs.declared.ClauseError.TheVariants.{Failed, Deep}
use Rattle.clause.specs.declared.Separation.{Separation}
use Rattle.clause.specs.Clause.{Read, clause_at}
use Rattle.clause.specs.Sequence.{separated, is_unsupported}
use Rattle.clause.specs.Steps.{Proper, Ready, WhenGoing, still, stopped, behind, taken, onward, next_state, state_at}
use Rattle.clause.proofs.Extents.{EndsWithin, clause-ends, Follows, separator-follows}

-- of a state by a test
proper-cond : (t : List ℕ) (b : Bool) (x y : SequenceState) → Proper t x → Proper t y → Proper t (cond b x y)
proper-cond t true x y h k = h
proper-cond t false x y h k = k

module _ (bk t : List ℕ) (s : SequenceState) (ready : Ready t s) where
  proper-gone : (c : ClauseRead) (n : Result Separation Refusal) → s.at < c.end → Follows c.end (length t) n → Proper t (behind (length t) s c n)
  proper-gone c (Ok n) l h = record { short = ready.short; inside = h.1; fewer = let f = ready.fewer in omega arith }
  proper-gone c (Err r) l h = tt

  proper-taken : (c : Read) → EndsWithin s.at (length t) c → Proper t (taken (book_of bk) t s c)
  proper-taken (Err (Failed r)) h = proper-cond t (is_unsupported (book_of bk).default) (stopped s r) (still s Ended) tt tt
  proper-taken (Err (Deep p)) h = tt
  proper-taken (Ok c) h =
      let n = separated (book_of bk).ignores_case t c.end in
      proper-cond t (eqb s.left 0) _ (behind (length t) s c n) tt (proper-gone c n h.0 (separator-follows (book_of bk).ignores_case t c.end h.1))

proper-onward : (bk t : List ℕ) (s : SequenceState) (p : Progress) → WhenGoing p (Ready t s) → Proper t (onward (book_of bk) t s p)
proper-onward bk t s Going ready =
    proper-cond t (eqb s.at (length t)) (still s Ended) _ tt (proper-taken bk t s ready (clause_at (book_of bk) t s.at) (clause-ends (book_of bk) t s.at ready.inside))
proper-onward bk t s Ended h = tt
proper-onward bk t s (Refused r) h = tt

pub proper-next : (bk t : List ℕ) (s : SequenceState) → Proper t s → Proper t (next_state bk t s)
unfolding next_state
proper-next bk t s p = proper-onward bk t s s.progress p

pub proper-at : (bk t : List ℕ) (s : SequenceState) → Proper t s → (i : ℕ) → Proper t (state_at bk t s i)
unfolding state_at
proper-at bk t s p zero = p
proper-at bk t s p (suc i) = proper-next bk t (state_at bk t s i) (proper-at bk t s p i)
