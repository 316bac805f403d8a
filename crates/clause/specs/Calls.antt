-- What the clause sequence call gives: the number of records and the rest, and every record slot as the call leaves it.
use Rattle.std.specs.Prelude.{ℕ, ◌≡◌, List, length, Result, Ok, Err}
use Rattle.ascii.specs.Text.{first_high}
use Rattle.refusal.specs.declared.Refusal.{Refusal}
use Rattle.refusal.specs.Answer.{Answer, given, refused_by, and_then, unless_fault, admitted, slots}
use Rattle.refusal.specs.Verdict.{text_verdict, fine}
use Rattle.rulebook.specs.Book.{book_of}
use Rattle.rulebook.specs.Check.{book_fault}
use Rattle.rulebook.specs.declared.CheckedBook.{CheckedBook}
use Rattle.clause.specs.declared.ClauseRecord.{ClauseRecord}
use Rattle.clause.specs.declared.SequenceEnd.{SequenceEnd}
use Rattle.clause.specs.Clause.{zero_record}
use Rattle.clause.specs.Sequence.{Sequence, sequence_at}

abbrev pub counted : Sequence → SequenceEnd
counted s = record { count = length s.clauses; rest = s.rest }

pub record SequenceCall : Type 0 where
  pub answer : Answer SequenceEnd
  pub records : List ClauseRecord

-- rows 1, 2 and 4, then 8 and 10 to 14 in reading order
unfoldable pub sequence_call : List ℕ → List ℕ → ℕ → SequenceCall
unfolding book_fault book_of sequence_at first_high
sequence_call book text size =
    let answer = admitted text (unless_fault 4 (book_fault book) (sequence_at (book_of book) text size 0)) in
    record { answer = and_then answer (λ s. given (counted s)); records = slots zero_record size (λ s. s.clauses) answer }

-- what the checks before a sequence leave: a text that is not too long, under its valid book, or the refusal of rows 1, 2 and 4
abbrev pub Admits : List ℕ → List ℕ → Result CheckedBook Refusal → Type 0
Admits book text (Ok b) = (b.bytes.now ≡ book) × (text_verdict text ≡ fine)
Admits book text (Err r) = (a : Answer Sequence) → admitted text (unless_fault 4 (book_fault book) a) ≡ refused_by r
