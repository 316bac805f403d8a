-- What the call for many lines gives: under one check of the book, the answer of each line, as five numbers.
use Rattle.std.specs.Prelude.{ℕ, zero, suc, ◌-◌, min, max, List, [], ◌∷◌, length, take, drop, replicate}
use Rattle.lexer.specs.declared.Language.{Language}
use Rattle.lexer.specs.declared.Prefix.{Prefix}
use Rattle.reader.specs.Calls.{line_call, line_within}
use Rattle.coded.specs.Coded.{coded_reading}

-- where a line ends that starts at a place: no earlier, and not behind the bytes
abbrev pub end_of : ℕ → ℕ → ℕ → ℕ
end_of size at end = max at (min end size)

-- so many answers, of lines or other parts that start where the one before has ended; a slot with no part holds zeros
unfoldable pub answers_from : (ℕ → ℕ → List ℕ) → List ℕ → ℕ → ℕ → ℕ → List ℕ → List (List ℕ)
answers_from answer zeros size zero at ends = []
answers_from answer zeros size (suc n) at [] = zeros ∷ answers_from answer zeros size n at []
answers_from answer zeros size (suc n) at (end ∷ ends) = answer at (end_of size at end) ∷ answers_from answer zeros size n (end_of size at end) ends

-- the answer of the line from one place to another
unfoldable pub line_between : Language → Prefix → List ℕ → List ℕ → ℕ → ℕ → ℕ → ℕ → ℕ → List ℕ
unfolding line_within
line_between l p book lines text_slots map_slots record_slots at stop =
    coded_reading (line_call l p book (take (stop - at) (drop at lines)) text_slots map_slots record_slots).answer

abbrev pub no_line : List ℕ
no_line = 0 ∷ 0 ∷ 0 ∷ 0 ∷ 0 ∷ []

pub record LinesCall : Type 0 where
  pub count : ℕ
  pub text : List ℕ
  pub map : List ℕ
  pub answers : List (List ℕ)

-- the number of lines that were answered, and every lent slot; text and map are working space
abbrev pub lines_call : Language → Prefix → List ℕ → List ℕ → List ℕ → ℕ → ℕ → ℕ → ℕ → LinesCall
lines_call l p book lines ends text_slots map_slots record_slots answer_slots = record {
  count = min (length ends) answer_slots;
  text = replicate text_slots 0;
  map = replicate map_slots 0;
  answers = answers_from (line_between l p book lines text_slots map_slots record_slots) no_line (length lines) answer_slots 0 ends;
}
