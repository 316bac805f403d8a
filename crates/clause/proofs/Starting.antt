-- The start of a reading: it is a start for as many slots, and what is read from it is what the definitions give, that of the call behind the checks before it.
-- By cases on the trivia.
use Prim.Native.Nat.{ℕ, ◌-◌, ◌≤◌}
use Rattle.std.specs.Prelude.{Some, None, Result, Ok, Err}
use mathlib.Core.Bool.{false, true≢false}
use mathlib.Core.Path.{◌≡◌, ◌∙◌, refl, sym, ap}
use mathlib.Core.List.{List}
use native.Mathlib.Omega.{arith}
use lib.ListN.{length, replicate}
use Rattle.refusal.specs.declared.Refusal.{Refusal}
use Rattle.refusal.specs.declared.Reason.TheVariants.{WrongBook}
use Rattle.refusal.specs.Answer.{Answer, given, refused_by, told, and_then, unless_fault, admitted, max_length}
use Rattle.refusal.specs.Verdict.{text_verdict, fine, refusal_at}
use Rattle.refusal.proofs.Admission.{admits-fine, admits-bad}
use Rattle.lexer.specs.Trivia.{skip}
use Rattle.lexer.proofs.Bounds.{skip-bounds}
use Rattle.rulebook.specs.Book.{book_of}
use Rattle.rulebook.specs.Check.{book_fault}
use Rattle.rulebook.specs.declared.CheckedBook.{CheckedBook}
use Rattle.rulebook.specs.Judged.{Judged}
use Rattle.clause.specs.declared.ClauseRecord.{ClauseRecord}
use Rattle.clause.specs.declared.SequenceEnd.{SequenceEnd}
use Rattle.clause.specs.Clause.{zero_record}
use Rattle.clause.specs.Sequence.{Sequence, sequence_at}
use Rattle.clause.specs.Calls.{SequenceCall, counted, sequence_call, Admits}
use Rattle.clause.specs.declared.Progress.{Progress}
use Rattle.clause.specs.declared.Progress.TheVariants.{Going, Ended, Refused}
use Rattle.clause.specs.declared.SequenceState.{SequenceState}
use Rattle.clause.specs.Steps.{Started, begun_at, start_at, is_going, answer_by, answer_of, read_from, read_on, settled}

module _ (bk t : List ℕ) (left at : ℕ) where
  -- a start behind trivia
  begun-started : (k : Result ℕ Refusal) → length t ≤ max_length → at ≤ length t → skip (book_of bk).ignores_case t at ≡ k → Started t left (begun_at left k)
  begun-started (Ok p) l h e =
      let b = skip-bounds (book_of bk).ignores_case t at p e in
      record { proper = record { short = l; inside = omega arith; fewer = omega arith }; room = omega arith; none_yet = refl }
  begun-started (Err r) l h e = record { proper = tt; room = omega arith; none_yet = refl }

  pub started-at : length t ≤ max_length → at ≤ length t → Started t left (start_at bk t left at)
  unfolding start_at
  started-at l h = begun-started (skip (book_of bk).ignores_case t at) l h refl

  -- what is read from there
  begun-reads : (k : Result ℕ Refusal) → skip (book_of bk).ignores_case t at ≡ k → read_on bk t (begun_at left k) ≡ sequence_at (book_of bk) t left at
  unfolding sequence_at
  begun-reads (Ok p) e = rw (sequence_at, e) refl
  begun-reads (Err r) e = rw (sequence_at, e) refl

  pub reads_at : read_on bk t (start_at bk t left at) ≡ sequence_at (book_of bk) t left at
  unfolding start_at
  reads_at = begun-reads (skip (book_of bk).ignores_case t at) refl

-- the checks before it: the text's, and then the book's
wrong-book : (bk t : List ℕ) (r : Refusal) {A : Type 0} (a : Answer A) → text_verdict t ≡ fine → r ≡ refusal_at WrongBook r.place → book_fault bk ≡ Some r.place
    → admitted t (unless_fault 4 (book_fault bk) a) ≡ refused_by r
wrong-book bk t r a v e f = admits-fine t _ v ∙ rw f (ap refused_by (sym e))

pub checked-admits : (bk t : List ℕ) (r : Result CheckedBook Refusal) → text_verdict t ≡ fine → Judged bk r → Admits bk t r
checked-admits bk t (Ok b) v h = (h, v)
checked-admits bk t (Err r) v h = λ a. wrong-book bk t r a v h.0 h.1

-- what is read behind them is what the call gives
module _ (bk t : List ℕ) (size : ℕ) where
  pub call-is : text_verdict t ≡ fine → book_fault bk ≡ None → settled size (read_on bk t (start_at bk t size 0)) ≡ sequence_call bk t size
  unfolding sequence_call
  call-is e v = rw (admits-fine t _ e, v) (ap (settled size) (reads_at bk t size 0))

  pub refused-is : (r : Refusal) (us : List ClauseRecord) → ((a : Answer Sequence) → admitted t (unless_fault 4 (book_fault bk) a) ≡ refused_by r) → us ≡ replicate size zero_record
      → ◌≡◌ {A = SequenceCall} (record { answer = refused_by r; records = us }) (sequence_call bk t size)
  unfolding sequence_call
  refused-is r us h e =
      let z : size - 0 ≡ size = omega arith in
      rw (h (sequence_at (book_of bk) t size 0), z, e) refl

-- its answer alone
module _ (bk t : List ℕ) (size : ℕ) where
  pub answer-read : text_verdict t ≡ fine → book_fault bk ≡ None → and_then (read_on bk t (start_at bk t size 0)) (λ s. given (counted s)) ≡ (sequence_call bk t size).answer
  answer-read e v = ap (λ (c : SequenceCall). c.answer) (call-is bk t size e v)

  pub answer-refused : (r : Refusal) → text_verdict t ≡ Err r → ◌≡◌ {A = Answer SequenceEnd} (refused_by r) (sequence_call bk t size).answer
  unfolding sequence_call
  answer-refused r e = rw (admits-bad t (unless_fault 4 (book_fault bk) (sequence_at (book_of bk) t size 0)) r e) refl

  pub answer-wrong : (r : Refusal) → text_verdict t ≡ fine → r ≡ refusal_at WrongBook r.place → book_fault bk ≡ Some r.place
      → ◌≡◌ {A = Answer SequenceEnd} (refused_by r) (sequence_call bk t size).answer
  unfolding sequence_call
  answer-wrong r v e f = rw (wrong-book bk t r (sequence_at (book_of bk) t size 0) v e f) refl

-- a start that does not go on: nothing is read, whatever the book and the text
module _ (bk t : List ℕ) (s : SequenceState) (size : ℕ) where
  pub rests-settled : (r : Result SequenceEnd Refusal) (us : List ClauseRecord) → is_going s.progress ≡ false → s.count ≡ 0 → r ≡ answer_of s → us ≡ replicate size zero_record
      → ◌≡◌ {A = SequenceCall} (record { answer = told r; records = us }) (settled size (read_on bk t s))
  rests-settled r us e c a h = go s.progress e a
    where
      go : (p : Progress) → is_going p ≡ false → r ≡ answer_by s p → ◌≡◌ {A = SequenceCall} (record { answer = told r; records = us }) (settled size (read_from bk t s p))
      go Going e a = absurd (true≢false e)
      go Ended e a = let z : size - 0 ≡ size = omega arith in rw (a, c, z, h) refl
      go (Refused f) e a = let z : size - 0 ≡ size = omega arith in rw (a, z, h) refl

  pub rests-answered : (r : Result SequenceEnd Refusal) → is_going s.progress ≡ false → s.count ≡ 0 → r ≡ answer_of s
      → ◌≡◌ {A = Answer SequenceEnd} (told r) (and_then (read_on bk t s) (λ q. given (counted q)))
  rests-answered r e c a = ap (λ (q : SequenceCall). q.answer) (rests-settled r (replicate size zero_record) e c a refl)
