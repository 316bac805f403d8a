-- Steps of a cursor: "a place in the text that moves forward and hands itself back, or a refusal".
use Rattle.std.specs.Prelude.{ℕ, ◌+◌, ◌≤◌, Bool, false, cond, List, length, drop, eqb, Result, Ok, Err}
use Rattle.ascii.specs.Ascii.{is_word, exactly}
use Rattle.ascii.specs.Text.{bytes, leading, begins}
use Rattle.refusal.specs.declared.Refusal.{Refusal}
use Rattle.refusal.specs.Answer.{Answer, given, refused, refused_by, told, and_then}
use Rattle.lexer.specs.declared.Cursor.{Cursor}
use Rattle.lexer.specs.Trivia.{skip}

-- the declared answer of a step: the place that it comes to
abbrev pub step_of : Result Cursor Refusal → Answer ℕ
step_of (Ok c) = given c.at
step_of (Err r) = refused_by r

-- trivia, perhaps none: row 8, "comment unclosed in trivia"
abbrev pub trivia_step : Bool → List ℕ → ℕ → Answer ℕ
trivia_step f text at = told (skip f text at)

-- trivia of at least one byte (`skip_space1_and_comments`): row 7 where there is none, "where the failing step began"
abbrev pub passed_some : ℕ → Result ℕ Refusal → Answer ℕ
passed_some at (Ok p) = cond (eqb p at) (refused 7 at) (given p)
passed_some at (Err r) = refused_by r

abbrev pub some_trivia_step : Bool → List ℕ → ℕ → Answer ℕ
some_trivia_step f text at = passed_some at (skip f text at)

-- a fixed word (nom's `tag`) as the last part of a step that began at place from: row 7, "where the failing step began"
abbrev pub word_behind : ℕ → List ℕ → List ℕ → ℕ → Answer ℕ
word_behind from word text at = cond (begins exactly word (drop at text)) (given (at + length word)) (refused 7 from)

-- a fixed word that is a step by itself
abbrev pub word_step : List ℕ → List ℕ → ℕ → Answer ℕ
word_step word text at = word_behind at word text at

-- `lex_pragma` with 02, P1: "In C the opening words now allow the usual trivia between `#` and `pragma`, comments and none included"; "a missing word is
-- still 7 at the `#`, and a comment unclosed there is 8 at its start"
abbrev pub pragma_step : List ℕ → ℕ → Answer ℕ
pragma_step text at =
    and_then (word_step (bytes "#") text at) (λ a.
    and_then (trivia_step false text a) (λ b.
    word_behind at (bytes "pragma") text b))

-- `lex_identifier`, nom's `take_while1`: the end of the longest run of word bytes, the place itself where there is none
abbrev pub word_end : List ℕ → ℕ → ℕ
word_end text at = at + leading is_word (drop at text)

-- a step goes forward, and stays within n bytes
abbrev pub Forward : ℕ → ℕ → Result Cursor Refusal → Type 0
Forward at n (Ok c) = (at ≤ c.at) × (c.at ≤ n)
Forward at n (Err r) = Unit {0}
