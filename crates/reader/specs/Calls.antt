-- What the whole-line call gives: the reading, and every lent slot as the call leaves it.
use Rattle.std.specs.Prelude.{ℕ, List, length}
use Rattle.refusal.specs.Answer.{Answer, given, and_then, slots}
use Rattle.lexer.specs.declared.Language.{Language}
use Rattle.lexer.specs.declared.Prefix.{Prefix}
use Rattle.source.specs.Joining.{joined_text, joined_map}
use Rattle.clause.specs.declared.ClauseRecord.{ClauseRecord}
use Rattle.clause.specs.Clause.{zero_record}
use Rattle.reader.specs.declared.Reading.{Reading}
use Rattle.reader.specs.Line.{Parsed, line_answer}

-- "directive entry, name's joined start and end, number of records, joined place of the unread rest"
abbrev pub reading_of : Parsed → Reading
reading_of p = record {
  entry = p.name.entry;
  name_start = p.name.start;
  name_end = p.name.end;
  count = length p.sequence.clauses;
  rest = p.sequence.rest;
}

-- ".. and every lent slot as left"
pub record LineCall : Type 0 where
  pub answer : Answer Reading
  pub text : List ℕ
  pub map : List ℕ
  pub records : List ClauseRecord

-- the whole line into so many of the record slots that are lent
unfoldable pub line_within : Language → Prefix → List ℕ → List ℕ → ℕ → ℕ → ℕ → ℕ → LineCall
unfolding line_answer joined_text joined_map
line_within l p book line text_slots map_slots room record_slots =
    let answer = line_answer l p book line text_slots map_slots room in
    record {
      answer = and_then answer (λ a. given (reading_of a));
      text = slots 0 text_slots (λ _. joined_text l line) answer;
      map = slots 0 map_slots (λ _. joined_map l line) answer;
      records = slots zero_record record_slots (λ a. a.sequence.clauses) answer;
    }

-- into all of them
abbrev pub line_call : Language → Prefix → List ℕ → List ℕ → ℕ → ℕ → ℕ → LineCall
line_call l p book line text_slots map_slots record_slots = line_within l p book line text_slots map_slots record_slots record_slots
