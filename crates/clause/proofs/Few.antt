-- No more clauses are read than there are slots for them, so a call that uses a part of its slots leaves zeros in the others.
-- By induction over what is left of the text. Assumes nothing.
use Prim.Native.Nat.{ℕ, zero, suc, ◌+◌, ◌-◌, ◌≤◌}
use native.Mathlib.Omega.{arith}
use mathlib.Core.Path.{◌≡◌, refl, ap, ◌∙◌}
use mathlib.Core.Bool.{Bool, true, false}
use mathlib.Core.List.{List, [], ◌∷◌, ◌++◌, append_assoc}
use Rattle.std.specs.Prelude.{Result, Ok, Err}
use Rattle.std.proofs.lemmas.List.{replicate-append-replicate, take-append-le, length-append}
use borrow.Rule.Slice.PartMut.{put_mid}
use lib.ListN.{length, take, drop, replicate, length-drop}
use lib.Seq.{take_all}
use lib.Dec.{eqb}
use borrow.Author.Tests.{eqb-false}
use Rattle.refusal.specs.declared.Refusal.{Refusal}
use Rattle.refusal.specs.Answer.{Answer, given, refused, and_then, unless_fault, admitted, slots}
use Rattle.refusal.proofs.Answers.{Sure, sure-cond, sure-fault, sure-admitted}
use Rattle.lexer.specs.Trivia.{skip}
use Rattle.rulebook.specs.Book.{Book, book_of}
use Rattle.rulebook.specs.Check.{book_fault}
use Rattle.clause.specs.declared.ClauseRecord.{ClauseRecord}
use Rattle.clause.specs.declared.ClauseRead.{ClauseRead}
use Rattle.clause.specs.declared.ClauseError.TheVariants.{Failed, Deep}
use Rattle.clause.specs.declared.Separation.{Separation}
use Rattle.clause.specs.declared.SequenceEnd.{SequenceEnd}
use Rattle.clause.specs.Clause.{Read, clause_at, zero_record}
use Rattle.clause.specs.Sequence.{Sequence, consed, separated, is_unsupported, sequence_from, sequence_at}
use Rattle.clause.specs.Calls.{SequenceCall, counted, sequence_call}
use Rattle.clause.specs.Steps.{sequence_into}
use Rattle.clause.proofs.Stopping.{zeroed}

abbrev pub Few : ℕ → Sequence → Type 0
Few room s = length s.clauses ≤ room

few-more : (room : ℕ) (r : ClauseRecord) (x : Answer Sequence) → eqb room 0 ≡ false → Sure (Few (room - 1)) x → Sure (Few room) (consed r x)
few-more room r (given s) e h =
    let n = eqb-false room 0 e in
    omega (arith, n, h)
few-more room r (refused n p) e h = tt

module _ (book : Book) (text : List ℕ) where
  sequence-few : (room : ℕ) (comma : Bool) (k at : ℕ) (xs : List ℕ) → Sure (Few room) (sequence_from book text room comma k at xs)
  unfolding sequence_from
  sequence-few room comma zero at [] = omega arith
  sequence-few room comma (suc k) at [] = omega arith
  sequence-few room comma (suc k) at (x ∷ xs) = sequence-few room comma k (suc at) xs
  sequence-few room comma zero at (x ∷ xs) = read (clause_at book text at) refl (λ comma k. sequence-few (room - 1) comma k (suc at) xs)
    where
      followed : (c : ClauseRead) → clause_at book text at ≡ Ok c → (b : Bool) → eqb room 0 ≡ b → (s : Result Separation Refusal) → separated book.ignores_case text c.end ≡ s
          → ((comma : Bool) (k : ℕ) → Sure (Few (room - 1)) (sequence_from book text (room - 1) comma k (suc at) xs)) → Sure (Few room) (sequence_from book text room comma zero at (x ∷ xs))
      followed c e true q s f ih = rw (sequence_from, e, q) tt
      followed c e false q (Err r) f ih = rw (sequence_from, e, q, f) tt
      followed c e false q (Ok n) f ih = rw (sequence_from, e, q, f) (few-more room _ _ q (ih n.comma (n.next - suc at)))

      read : (r : Read) → clause_at book text at ≡ r → ((comma : Bool) (k : ℕ) → Sure (Few (room - 1)) (sequence_from book text (room - 1) comma k (suc at) xs))
          → Sure (Few room) (sequence_from book text room comma zero at (x ∷ xs))
      read (Err (Failed r)) e ih = rw (sequence_from, e) (sure-cond (Few room) (is_unsupported book.default) _ _ tt (omega arith))
      read (Err (Deep p)) e ih = rw (sequence_from, e) tt
      read (Ok c) e ih = followed c e (eqb room 0) refl (separated book.ignores_case text c.end) refl ih

  pub sequence_at-few : (room at : ℕ) → Sure (Few room) (sequence_at book text room at)
  unfolding sequence_at
  sequence_at-few room at = go (skip book.ignores_case text at) refl
    where
      go : (s : Result ℕ Refusal) → skip book.ignores_case text at ≡ s → Sure (Few room) (sequence_at book text room at)
      go (Err r) e = rw (sequence_at, e) tt
      go (Ok p) e = rw (sequence_at, e) (sequence-few room false zero p (drop p text))

-- slots of which a part is used
pub slots-more : {A : Type 0} (f : A → List ClauseRecord) (used n : ℕ) (x : Answer A) → used ≤ n → Sure (λ a. length (f a) ≤ used) x
    → slots zero_record used f x ++ replicate (n - used) zero_record ≡ slots zero_record n f x
slots-more f used n (given a) h few =
    let e : used - length (f a) + (n - used) ≡ n - length (f a) = omega (arith, few) in
    append_assoc (f a) (replicate (used - length (f a)) zero_record) (replicate (n - used) zero_record)
    ∙ rw (replicate-append-replicate (used - length (f a)) (n - used) zero_record, e) refl
slots-more f used n (refused m p) h few =
    let e : used - 0 + (n - used) ≡ n - 0 = omega arith in
    rw (replicate-append-replicate (used - 0) (n - used) zero_record, e) refl

pub call-more : (bk t : List ℕ) (used n : ℕ) (a : Answer SequenceEnd) (rs : List ClauseRecord) → used ≤ n → record { answer = a; records = rs } ≡ sequence_call bk t used
    → record { answer = a; records = rs ++ replicate (n - used) zero_record } ≡ sequence_into bk t used n
unfolding sequence_call sequence_into
call-more bk t used n a rs h e =
    let x = admitted t (unless_fault 4 (book_fault bk) (sequence_at (book_of bk) t used 0)) in
    let answer : a ≡ and_then x (λ s. given (counted s)) = ap (λ (c : SequenceCall). c.answer) e in
    let records : rs ≡ slots zero_record used (λ s. s.clauses) x = ap (λ (c : SequenceCall). c.records) e in
    let few = sure-admitted (Few used) t _ (sure-fault (Few used) 4 (book_fault bk) _ (sequence_at-few (book_of bk) t used 0)) in
    rw (answer, records, slots-more (λ (s : Sequence). s.clauses) used n x h few) refl

-- the slots of an array whose first ones a call was lent, once the others are zeroed
pub array-is : (used n : ℕ) (rs lent fill : List ClauseRecord) → length lent ≡ n → length rs ≡ used → used ≤ n
    → fill ≡ replicate (length (take (length (rs ++ drop used lent) - used) (drop used (rs ++ drop used lent)))) zero_record
    → put_mid used (length (rs ++ drop used lent) - used) (rs ++ drop used lent) fill ≡ rs ++ replicate (n - used) zero_record
array-is used n rs lent fill l m h e =
    let size : length (rs ++ drop used lent) - used ≡ n - used = omega (arith, length-append rs (drop used lent), length-drop used lent) in
    let front : take used (rs ++ drop used lent) ≡ rs = take-append-le used rs (drop used lent) (omega arith) ∙ take_all used rs (omega arith) in
    zeroed used (rs ++ drop used lent) fill e ∙ rw (front, size) refl
