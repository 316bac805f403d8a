-- The whole line by steps: the checks before it is joined, what stands once the name is read, and what is left once the clauses are.
use Rattle.std.specs.Prelude.{ℕ, ◌+◌, ◌≤◌, ◌<◌, Bool, cond, not, ◌≡◌, List, length, take, Result, Ok, Err}
use Rattle.refusal.specs.declared.Reason.TheVariants.{WrongLanguage}
use Rattle.refusal.specs.declared.Refusal.{Refusal}
use Rattle.refusal.specs.Answer.{Answer, given, refused_by, and_then, max_length}
use Rattle.refusal.specs.Verdict.{Verdict, refusal_at}
use Rattle.lexer.specs.declared.Language.{Language}
use Rattle.lexer.specs.declared.Language.TheVariants.{C, FortranFree, FortranFixed}
use Rattle.lexer.specs.declared.Prefix.{Prefix}
use Rattle.validation.specs.Validation.{fault}
use Rattle.source.specs.Joining.{joined_text, joined_map}
use Rattle.source.specs.Verdicts.{lines_verdict}
use Rattle.clause.specs.declared.ClauseRecord.{ClauseRecord}
use Rattle.clause.specs.declared.SequenceEnd.{SequenceEnd}
use Rattle.clause.specs.Sequence.{Sequence}
use Rattle.clause.specs.Steps.{Started, read_on}
use Rattle.directive.specs.declared.DirectiveName.{DirectiveName}
use Rattle.reader.specs.declared.heading.Head.{Head}
use Rattle.reader.specs.declared.Reading.{Reading}
use Rattle.reader.specs.Line.{Parsed, line_answer}
use Rattle.reader.specs.Calls.{LineCall}

-- "Language C needs bit 0 clear, the Fortrans need it set."
abbrev pub suited : Language → Bool → Bool
suited C ignores_case = not ignores_case
suited FortranFree ignores_case = ignores_case
suited FortranFixed ignores_case = ignores_case

-- rows 5 and 6
unfoldable pub line_verdict : Language → Prefix → Bool → List ℕ → Verdict
unfolding fault
line_verdict l p ignores_case line = cond (suited l ignores_case) (lines_verdict l p line) (Err (refusal_at WrongLanguage 0))

-- the clauses that are read behind a name
abbrev pub behind : DirectiveName → Answer Sequence → Answer Parsed
behind name x = and_then x (λ s. given (record { name = name; sequence = s }))

-- a head of a text of a book that is not too long, from whose start on the answer is read
pub record Heading (book text : List ℕ) (room : ℕ) (answer : Answer Parsed) (h : Head) : Type 0 where
  pub short : length text ≤ max_length
  pub started : Started text room h.start
  pub reads : behind h.name (read_on book text h.start) ≡ answer

-- the head of a joined text, with so many slots: all of it stands
abbrev pub Heads : List ℕ → List ℕ → ℕ → Answer Parsed → Result Head Refusal → Type 0
Heads book text room answer (Ok h) = (h.length ≡ length text) × Heading book text room answer h
Heads book text room answer (Err r) = answer ≡ refused_by r

-- the head of a line, with text and map as they are then: the joined text and its map stand in front
pub record HeadLeaves (l : Language) (p : Prefix) (book line : List ℕ) (room : ℕ) (text map : List ℕ) (h : Head) : Type 0 where
  pub within : (h.length ≤ length text) × (h.length < length map)
  pub texts : take h.length text ≡ joined_text l line
  pub maps : take (h.length + 1) map ≡ joined_map l line
  pub heads : Heading book (take h.length text) room (line_answer l p book line (length text) (length map) room) h

abbrev pub HeadGives : Language → Prefix → List ℕ → List ℕ → ℕ → List ℕ → List ℕ → Result Head Refusal → Type 0
HeadGives l p book line room text map (Ok h) = HeadLeaves l p book line room text map h
HeadGives l p book line room text map (Err r) = line_answer l p book line (length text) (length map) room ≡ refused_by r

-- the reading behind a name, once the clauses are read
abbrev pub answered : DirectiveName → SequenceEnd → Reading
answered n s = record { entry = n.entry; name_start = n.start; name_end = n.end; count = s.count; rest = s.rest }

-- what is left of a call where it is over: all that it gives, or its refusal alone
abbrev pub Leaves : LineCall → List ℕ → List ℕ → List ClauseRecord → Result Reading Refusal → Type 0
Leaves call text map records (Ok r) = record { answer = given r; text = text; map = map; records = records } ≡ call
Leaves call text map records (Err r) = call.answer ≡ refused_by r
