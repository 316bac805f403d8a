-- The sequence step by step: a state by value, the state after one clause more, and the record that each step gives to its slot.
use Rattle.std.specs.Prelude.{ℕ, zero, suc, ◌+◌, ◌-◌, ◌≤◌, Bool, true, false, cond, ◌&&◌, ◌≡◌, List, [], ◌∷◌, length, drop, eqb, Result, Ok, Err}
use Rattle.refusal.specs.declared.Reason.TheVariants.{TooDeep, NoSlot}
use Rattle.refusal.specs.declared.Refusal.{Refusal}
use Rattle.refusal.specs.Answer.{Answer, given, refused_by, and_then, unless_fault, admitted, slots, max_length}
use Rattle.refusal.specs.Verdict.{refusal_at}
use Rattle.lexer.specs.Trivia.{skip}
use Rattle.rulebook.specs.Book.{Book, book_of}
use Rattle.rulebook.specs.Check.{book_fault}
use Rattle.clause.specs.declared.ClauseRecord.{ClauseRecord}
use Rattle.clause.specs.declared.ClauseRead.{ClauseRead}
use Rattle.clause.specs.declared.ClauseError.TheVariants.{Failed, Deep}
use Rattle.clause.specs.declared.Separation.{Separation}
use Rattle.clause.specs.declared.SequenceEnd.{SequenceEnd}
use Rattle.clause.specs.declared.Progress.{Progress}
use Rattle.clause.specs.declared.Progress.TheVariants.{Going, Ended, Refused}
use Rattle.clause.specs.declared.SequenceState.{SequenceState}
use Rattle.clause.specs.Clause.{Read, clause_at, zero_record}
use Rattle.clause.specs.Sequence.{Sequence, separated, flagged, is_unsupported, sequence_from, sequence_at}
use Rattle.clause.specs.Calls.{SequenceCall, counted}

-- the state at the same place, with no record for the slot of this step
abbrev pub still : SequenceState → Progress → SequenceState
still s p = record { clause = zero_record; progress = p; at = s.at; comma = s.comma; left = s.left; count = s.count }

abbrev pub stopped : SequenceState → Refusal → SequenceState
stopped s r = still s (Refused r)

-- past a clause and its separator: "preceded-by-comma, trailing comma"
abbrev pub gone : ℕ → SequenceState → ClauseRead → Separation → SequenceState
gone size s c n = record {
  clause = flagged c.clause s.comma (n.comma && eqb n.next size);
  progress = Going;
  at = n.next;
  comma = n.comma;
  left = s.left - 1;
  count = s.count + 1;
}

-- row 8 between and after clauses
abbrev pub behind : ℕ → SequenceState → ClauseRead → Result Separation Refusal → SequenceState
behind size s c (Ok n) = gone size s c n
behind size s c (Err r) = stopped s r

-- by what was read at the place: "With default Unsupported a clause that fails is refused; otherwise the list ends before it"; rows 13 and 14
abbrev pub taken : Book → List ℕ → SequenceState → Read → SequenceState
taken book text s (Err (Failed r)) = cond (is_unsupported book.default) (stopped s r) (still s Ended)
taken book text s (Err (Deep p)) = stopped s (refusal_at TooDeep p)
taken book text s (Ok c) = cond (eqb s.left 0) (stopped s (refusal_at NoSlot s.at)) (behind (length text) s c (separated book.ignores_case text c.end))

abbrev pub onward : Book → List ℕ → SequenceState → Progress → SequenceState
onward book text s Going = cond (eqb s.at (length text)) (still s Ended) (taken book text s (clause_at book text s.at))
onward book text s Ended = still s Ended
onward book text s (Refused r) = still s (Refused r)

-- more is to be read
abbrev pub is_going : Progress → Bool
is_going Going = true
is_going Ended = false
is_going (Refused r) = false

-- the state after a step: one clause more, or the end of the list
unfoldable pub next_state : List ℕ → List ℕ → SequenceState → SequenceState
unfolding book_of clause_at skip
next_state book text s = onward (book_of book) text s s.progress

-- the state after i steps
unfoldable pub state_at : List ℕ → List ℕ → SequenceState → ℕ → SequenceState
unfolding next_state
state_at book text s zero = s
state_at book text s (suc i) = next_state book text (state_at book text s i)

-- the records of n steps from the i-th on
unfoldable pub records_from : List ℕ → List ℕ → SequenceState → ℕ → ℕ → List ClauseRecord
unfolding state_at
records_from book text s i zero = []
records_from book text s i (suc n) = (state_at book text s (suc i)).clause ∷ records_from book text s (suc i) n

-- what a state that goes on rests on: a place of a text that is not too long
pub record Ready (text : List ℕ) (s : SequenceState) : Type 0 where
  pub short : length text ≤ max_length
  pub inside : s.at ≤ length text
  pub fewer : s.count ≤ s.at

abbrev pub WhenGoing : Progress → Type 0 → Type 0
WhenGoing Going P = P
WhenGoing Ended P = Unit {0}
WhenGoing (Refused r) P = Unit {0}

abbrev pub Proper : List ℕ → SequenceState → Type 0
Proper text s = WhenGoing s.progress (Ready text s)

-- a state from which so many slots are filled: no more clauses than slots, none counted yet
pub record Started (text : List ℕ) (size : ℕ) (s : SequenceState) : Type 0 where
  pub proper : Proper text s
  pub room : s.left ≤ size
  pub none_yet : s.count ≡ 0

abbrev pub begun : Progress → ℕ → ℕ → SequenceState
begun p at left = record { clause = zero_record; progress = p; at = at; comma = false; left = left; count = 0 }

-- behind the trivia; row 8 before the first clause
abbrev pub begun_at : ℕ → Result ℕ Refusal → SequenceState
begun_at left (Ok p) = begun Going p left
begun_at left (Err r) = begun (Refused r) r.place left

-- the start at a place of a text, into so many slots, under a valid book
unfoldable pub start_at : List ℕ → List ℕ → ℕ → ℕ → SequenceState
unfolding book_of skip
start_at book text left at = begun_at left (skip (book_of book).ignores_case text at)

abbrev pub answer_by : SequenceState → Progress → Result SequenceEnd Refusal
answer_by s Going = Ok (record { count = s.count; rest = s.at })
answer_by s Ended = Ok (record { count = s.count; rest = s.at })
answer_by s (Refused r) = Err r

-- the answer once the last step is done
abbrev pub answer_of : SequenceState → Result SequenceEnd Refusal
answer_of s = answer_by s s.progress

-- what is read from a state on
abbrev pub read_from : List ℕ → List ℕ → SequenceState → Progress → Answer Sequence
read_from book text s Going = sequence_from (book_of book) text s.left s.comma zero s.at (drop s.at text)
read_from book text s Ended = given (record { clauses = []; rest = s.at })
read_from book text s (Refused r) = refused_by r

abbrev pub read_on : List ℕ → List ℕ → SequenceState → Answer Sequence
read_on book text s = read_from book text s s.progress

-- what a call gives for what was read: its answer, and every slot
abbrev pub settled : ℕ → Answer Sequence → SequenceCall
settled size a = record { answer = and_then a (λ s. given (counted s)); records = slots zero_record size (λ s. s.clauses) a }

-- the sequence call with fewer slots in use than there are
unfoldable pub sequence_into : List ℕ → List ℕ → ℕ → ℕ → SequenceCall
unfolding book_fault book_of sequence_at
sequence_into book text left size = settled size (admitted text (unless_fault 4 (book_fault book) (sequence_at (book_of book) text left 0)))
