-- What is to hold of the clause sequence under default Unsupported. These are statements; their proofs are theorems of these types.
use Rattle.std.specs.Prelude.{ℕ, ◌<◌, ◌≡◌, List, length, get_or}
use Rattle.std.specs.Prelude.{None}
use Rattle.refusal.specs.Answer.{given}
use Rattle.bookform.specs.declared.ClauseRule.TheVariants.{Unsupported}
use Rattle.rulebook.specs.Book.{book_of}
use Rattle.rulebook.specs.Check.{book_fault}
use Rattle.rulebook.specs.Lookup.{IsAppended}
use Rattle.clause.specs.declared.ClauseRecord.{ClauseRecord}
use Rattle.clause.specs.declared.SequenceEnd.{SequenceEnd}
use Rattle.clause.specs.Clause.{zero_record}
use Rattle.clause.specs.Calls.{sequence_call}

-- the first n records name entries of the first m
abbrev pub NamesEntries : ℕ → ℕ → List ClauseRecord → Type 0
NamesEntries n m rs = (i : ℕ) → i < n → (get_or rs i zero_record).entry < m

-- "With default Unsupported a clause that fails is refused": so an accepted sequence ends at the text's end, and each of its clauses has an
-- entry of the book.
abbrev pub StrictSequencesAreWhole : Type 0
StrictSequencesAreWhole = (book text : List ℕ) (size : ℕ) (end : SequenceEnd) → (book_of book).default ≡ Unsupported
    → (sequence_call book text size).answer ≡ given end
    → (end.rest ≡ length text) × NamesEntries end.count (length (book_of book).clauses) (sequence_call book text size).records

-- "A book has clause names only appended to another's if ..": under the longer book every sequence that is accepted under the shorter one gives
-- the same, the answer and every record slot. "About the whole run of appended names."
abbrev pub AppendedNamesKeepSequences : Type 0
AppendedNamesKeepSequences = (short long text : List ℕ) (size : ℕ) (end : SequenceEnd)
    → book_fault short ≡ None → book_fault long ≡ None → IsAppended (book_of short) (book_of long) → (book_of short).default ≡ Unsupported
    → (sequence_call short text size).answer ≡ given end
    → sequence_call long text size ≡ sequence_call short text size
