-- Answers as one number of 64 bits, and what the numbers stand for that programs in C pass for a language, a prefix or a separator.
use Rattle.std.specs.Prelude.{ℕ, ◌+◌, ◌*◌, Bool, cond, not, List, [], ◌∷◌, ltb, eqb}
use Rattle.ascii.specs.declared.Range.{Range}
use Rattle.refusal.specs.Answer.{Answer, given, refused}
use Rattle.delimiter.specs.declared.Separator.{Separator}
use Rattle.delimiter.specs.declared.Separator.TheVariants.{Comma, Colon}
use Rattle.lexer.specs.declared.Language.{Language}
use Rattle.lexer.specs.declared.Language.TheVariants.{C, FortranFree, FortranFixed}
use Rattle.lexer.specs.declared.Prefix.{Prefix}
use Rattle.lexer.specs.declared.Prefix.TheVariants.{Omp, Acc}
use Rattle.clause.specs.declared.ClauseRecord.{ClauseRecord}
use Rattle.clause.specs.declared.SequenceEnd.{SequenceEnd}
use Rattle.clause.specs.Calls.{SequenceCall}
use Rattle.reader.specs.declared.Reading.{Reading}
use Rattle.reader.specs.Calls.{LineCall}

-- the low 32 bits hold a place; one that they do not hold, which is no place in a text, is their largest number
abbrev pub place_code : ℕ → ℕ
place_code place = cond (ltb place 4294967296) place 4294967295

-- 2^63 + number * 2^32 + place
abbrev pub coded_refusal : ℕ → ℕ → ℕ
coded_refusal n place = 9223372036854775808 + n * 4294967296 + place_code place

-- a count or length, or a refusal
abbrev pub coded : Answer ℕ → ℕ
coded (given n) = n
coded (refused n place) = coded_refusal n place

-- 0 where there is nothing to count, or a refusal
abbrev pub coded_yes : {A : Type 0} → Answer A → ℕ
coded_yes (given a) = 0
coded_yes (refused n place) = coded_refusal n place

-- the two lent numbers of map-back: the physical range, or zeros
abbrev pub span_ends : Answer Range → List ℕ
span_ends (given s) = s.start ∷ s.end ∷ []
span_ends (refused n place) = 0 ∷ 0 ∷ []

-- the two lent numbers of trim
abbrev pub range_ends : Range → List ℕ
range_ends r = r.start ∷ r.end ∷ []

-- the clause sequence: its count, and the lent number for the rest
abbrev pub coded_sequence : Answer SequenceEnd → ℕ
coded_sequence (given s) = s.count
coded_sequence (refused n place) = coded_refusal n place

abbrev pub rest_of : Answer SequenceEnd → List ℕ
rest_of (given s) = s.rest ∷ []
rest_of (refused n place) = 0 ∷ []

pub record SequenceCoded : Type 0 where
  pub answer : ℕ
  pub records : List ClauseRecord
  pub rest : List ℕ

abbrev pub sequence_coded : SequenceCall → SequenceCoded
sequence_coded c = record { answer = coded_sequence c.answer; records = c.records; rest = rest_of c.answer }

-- the whole line: the directive's entry, and the lent numbers of its reading
abbrev pub coded_line : Answer Reading → ℕ
coded_line (given r) = r.entry
coded_line (refused n place) = coded_refusal n place

abbrev pub reading_numbers : Answer Reading → List ℕ
reading_numbers (given r) = r.name_start ∷ r.name_end ∷ r.count ∷ r.rest ∷ []
reading_numbers (refused n place) = 0 ∷ 0 ∷ 0 ∷ 0 ∷ []

-- both as five numbers
abbrev pub coded_reading : Answer Reading → List ℕ
coded_reading a = coded_line a ∷ reading_numbers a

pub record LineCoded : Type 0 where
  pub answer : ℕ
  pub text : List ℕ
  pub map : List ℕ
  pub records : List ClauseRecord
  pub reading : List ℕ

abbrev pub line_coded : LineCall → LineCoded
line_coded c = record { answer = coded_line c.answer; text = c.text; map = c.map; records = c.records; reading = reading_numbers c.answer }

-- a flag as C has it: any number but 0 is true
abbrev pub is_set : ℕ → Bool
is_set n = not (eqb n 0)

-- 1 is Fortran's free form, 2 its fixed form, any other number C
abbrev pub language_of : ℕ → Language
language_of n = cond (eqb n 1) FortranFree (cond (eqb n 2) FortranFixed C)

-- 1 is acc, any other number omp
abbrev pub prefix_of : ℕ → Prefix
prefix_of n = cond (eqb n 1) Acc Omp

-- a flag that is set is the colon, one that is not the comma
abbrev pub separator_of : ℕ → Separator
separator_of n = cond (is_set n) Colon Comma
