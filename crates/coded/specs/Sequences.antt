-- What the call for many clause sequences gives: under one check of the book, the answer of each text, as two numbers.
use Rattle.std.specs.Prelude.{ℕ, ◌-◌, min, List, [], ◌∷◌, length, take, drop}
use Rattle.refusal.specs.Answer.{Answer}
use Rattle.clause.specs.declared.SequenceEnd.{SequenceEnd}
use Rattle.clause.specs.Calls.{sequence_call}
use Rattle.coded.specs.Coded.{coded_sequence, rest_of}
use Rattle.coded.specs.Lines.{answers_from}

-- the count and the rest
abbrev pub coded_end : Answer SequenceEnd → List ℕ
coded_end a = coded_sequence a ∷ rest_of a

-- the answer of the text from one place to another
unfoldable pub sequence_between : List ℕ → List ℕ → ℕ → ℕ → ℕ → List ℕ
unfolding sequence_call
sequence_between book texts record_slots at stop = coded_end (sequence_call book (take (stop - at) (drop at texts)) record_slots).answer

abbrev pub no_sequence : List ℕ
no_sequence = 0 ∷ 0 ∷ []

pub record SequencesCall : Type 0 where
  pub count : ℕ
  pub answers : List (List ℕ)

-- the number of texts that were answered, and every lent slot
abbrev pub sequences_call : List ℕ → List ℕ → List ℕ → ℕ → ℕ → SequencesCall
sequences_call book texts ends record_slots answer_slots = record {
  count = min (length ends) answer_slots;
  answers = answers_from (sequence_between book texts record_slots) no_sequence (length texts) answer_slots 0 ends;
}
