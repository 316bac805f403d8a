-- Under default Unsupported an accepted sequence ends at the text's end, and every clause that was read has an entry of the book.
-- By induction over the sequence's turns, then through the steps of the call. Assumes nothing.
use Prim.Native.Nat.{ℕ, zero, suc, ◌+◌, ◌-◌, ◌≤◌, ◌<◌}
use mathlib.Core.Bool.{Bool, false}
use mathlib.Core.Path.{◌≡◌, refl}
use mathlib.Core.List.{List, [], ◌∷◌}
use native.Mathlib.Omega.{arith}
use lib.ListN.{length, drop, length-drop, get_or-append}
use Rattle.ascii.specs.Text.{padded}
use Rattle.std.specs.Prelude.{Result, Ok, Err}
use Rattle.refusal.specs.declared.Refusal.{Refusal}
use Rattle.refusal.specs.Table.{number_of}
use Rattle.refusal.specs.Answer.{Answer, given, refused, and_then, unless_fault, admitted, slots}
use Rattle.refusal.proofs.Answers.{never, Sure, sure-if, sure-fault, sure-admitted}
use Rattle.lexer.specs.Trivia.{skip}
use Rattle.lexer.proofs.Bounds.{skip-bounds}
use Rattle.bookform.specs.declared.ClauseRule.TheVariants.{Unsupported}
use Rattle.rulebook.specs.Book.{Book, book_of}
use Rattle.rulebook.specs.Check.{book_fault}
use Rattle.rulebook.proofs.Appended.{entry_from-below}
use Rattle.clause.specs.declared.ClauseRecord.{ClauseRecord}
use Rattle.clause.specs.declared.SequenceEnd.{SequenceEnd}
use Rattle.clause.specs.Clause.{zero_record}
use Rattle.clause.specs.Sequence.{Sequence, sequence_from, sequence_at}
use Rattle.clause.specs.Calls.{counted, sequence_call}
use Rattle.clause.specs.Laws.{NamesEntries, StrictSequencesAreWhole}
use Rattle.clause.proofs.Turns.{clause-found, turn-of}

names_more : (n m : ℕ) (r : ClauseRecord) (rs : List ClauseRecord) → r.entry < m → NamesEntries n m rs → NamesEntries (suc n) m (r ∷ rs)
names_more n m r rs b h zero l = b
names_more n m r rs b h (suc i) l = h i (omega arith)

-- what is known of a sequence that was read to the end
pub record IsWhole (book : Book) (text : List ℕ) (s : Sequence) : Type 0 where
  pub rest : s.rest ≡ length text
  pub entries : NamesEntries (length s.clauses) (length book.clauses) s.clauses

-- and of the slots that its records are put into
pub whole-slots : {book : Book} {text : List ℕ} {s : Sequence} → IsWhole book text s → (size : ℕ)
    → NamesEntries (length s.clauses) (length book.clauses) (padded zero_record size s.clauses)
whole-slots {s = s} w size i b = rw (get_or-append s.clauses _ zero_record i b) (w.entries i b)

module _ (book : Book) (text : List ℕ) (strict : book.default ≡ Unsupported) where
  whole-none : (at : ℕ) (s : Sequence) → at + 0 ≡ length text → given (record { clauses = []; rest = at }) ≡ given s → IsWhole book text s
  whole-none at s n h =
      let e : s ≡ record { clauses = []; rest = at } = cc in
      rw e (record { rest = omega arith; entries = λ i b. absurd (omega arith) })

  sequence-whole : (room : ℕ) (comma : Bool) (k at : ℕ) (xs : List ℕ) (s : Sequence) → at + length xs ≡ length text
      → sequence_from book text room comma k at xs ≡ given s → IsWhole book text s
  unfolding sequence_from
  sequence-whole room comma zero at [] s n h = whole-none at s n h
  sequence-whole room comma (suc k) at [] s n h = whole-none at s n h
  sequence-whole room comma (suc k) at (x ∷ xs) s n h = sequence-whole room comma k (suc at) xs s (omega arith) h
  sequence-whole room comma zero at (x ∷ xs) s n h =
      let t = turn-of book text room comma at x xs s strict h in
      let w = sequence-whole (room - 1) t.after.comma (t.after.next - suc at) (suc at) xs t.later (omega arith) t.goes_on in
      let (i, f, e) = clause-found book text at t.read strict t.reads in
      let b = entry_from-below _ 0 i _ book.clauses f in
      rw t.gives (record { rest = w.rest; entries = names_more _ _ _ t.later.clauses (omega arith) w.entries })

  pub sequence_at-whole : (room at : ℕ) → at ≤ length text → Sure (IsWhole book text) (sequence_at book text room at)
  unfolding sequence_at
  sequence_at-whole room at n = sure-if (IsWhole book text) (sequence_at book text room at) (λ s h. go s h (skip book.ignores_case text at) refl)
    where
      go : (s : Sequence) → sequence_at book text room at ≡ given s → (p : Result ℕ Refusal) → skip book.ignores_case text at ≡ p → IsWhole book text s
      go s h (Ok p) e =
          let b = skip-bounds book.ignores_case text at p e in
          sequence-whole room false zero p (drop p text) s (simp length-drop (omega arith)) (rw (sequence_at, e) at h)
      go s h (Err r) e = never _ (number_of r.reason) r.place s (rw (sequence_at, e) at h)

-- the same of the call
call-whole : (book : Book) (text : List ℕ) (size : ℕ) (end : SequenceEnd) (x : Answer Sequence) → Sure (IsWhole book text) x
    → and_then x (λ s. given (counted s)) ≡ given end
    → (end.rest ≡ length text) × NamesEntries end.count (length book.clauses) (slots zero_record size (λ s. s.clauses) x)
call-whole book text size end (given s) w h =
    let e : end ≡ counted s = cc in
    rw e (w.rest, whole-slots w size)
call-whole book text size end (refused n p) w h = never _ n p end h

pub strict-sequences-are-whole : StrictSequencesAreWhole
unfolding sequence_call
strict-sequences-are-whole book text size end strict h =
    let P = IsWhole (book_of book) text in
    let x = sequence_at (book_of book) text size 0 in
    let y = unless_fault 4 (book_fault book) x in
    call-whole (book_of book) text size end (admitted text y)
    (sure-admitted P text y (sure-fault P 4 (book_fault book) x (sequence_at-whole (book_of book) text strict size 0 (omega arith)))) h
