-- The whole line: the opening words, then the name, then the clauses.
use Rattle.std.specs.Prelude.{ℕ, ◌+◌, Bool, true, false, cond, not, List, drop, eqb}
use Rattle.ascii.specs.Text.{begins, first_high}
use Rattle.refusal.specs.Answer.{Answer, given, refused, and_then, unless_fault, admitted}
use Rattle.lexer.specs.declared.Language.{Language}
use Rattle.lexer.specs.declared.Language.TheVariants.{C, FortranFree, FortranFixed}
use Rattle.lexer.specs.declared.Prefix.{Prefix}
use Rattle.lexer.specs.Continuation.{prefix_bytes, sentinel, opening_sentinel}
use Rattle.lexer.specs.Trivia.{skip}
use Rattle.lexer.specs.Steps.{trivia_step, some_trivia_step, word_step, pragma_step}
use Rattle.validation.specs.Validation.{fault}
use Rattle.source.specs.Joining.{joined_text}
use Rattle.source.specs.Calls.{is_short}
use Rattle.rulebook.specs.Book.{Book, book_of}
use Rattle.rulebook.specs.Check.{book_fault}
use Rattle.clause.specs.Sequence.{Sequence, sequence_at}
use Rattle.directive.specs.declared.DirectiveName.{DirectiveName}
use Rattle.directive.specs.Name.{name_at}

-- "C: `skip_space_and_comments`, `lex_pragma`, `skip_space1_and_comments`, `lex_dialect_keyword`, `skip_space1_and_comments`", with 02, P1: "In C the
-- opening words now allow the usual trivia between `#` and `pragma`, comments and none included"
unfoldable pub opening_c : Prefix → List ℕ → Answer ℕ
unfolding skip begins
opening_c p text =
    and_then (trivia_step false text 0) (λ a.
    and_then (pragma_step text a) (λ b.
    and_then (some_trivia_step false text b) (λ d.
    and_then (word_step (prefix_bytes p) text d) (λ e.
    some_trivia_step false text e))))

-- "Fortran: `lex_fortran_free_sentinel_with_prefix` or the fixed one, then `skip_fortran_space1_and_comments`". The sentinel's step skips C trivia
-- first, and its refusal 7 stands where the step began, at 0.
unfoldable pub opening_f : Language → Prefix → List ℕ → Answer ℕ
unfolding skip begins sentinel
opening_f l p text =
    and_then (trivia_step false text 0) (λ a.
    cond (eqb (opening_sentinel l p (drop a text)) 0) (refused 7 0)
    (some_trivia_step true text (a + opening_sentinel l p (drop a text))))

abbrev pub opening : Language → Prefix → List ℕ → Answer ℕ
opening C p text = opening_c p text
opening FortranFree p text = opening_f FortranFree p text
opening FortranFixed p text = opening_f FortranFixed p text

pub record Parsed : Type 0 where
  pub name : DirectiveName
  pub sequence : Sequence

-- the steps after joining, over a book, with so many record slots
unfoldable pub parsed : Book → Language → Prefix → ℕ → List ℕ → Answer Parsed
unfolding opening_c opening_f name_at sequence_at
parsed book l p room text =
    and_then (opening l p text) (λ at.
    and_then (name_at book text at) (λ name.
    and_then (sequence_at book text room name.end) (λ s.
    given (record { name = name; sequence = s }))))

-- "Language C needs bit 0 clear, the Fortrans need it set."
abbrev pub suits : Language → Book → Bool
suits C book = not book.ignores_case
suits FortranFree book = book.ignores_case
suits FortranFixed book = book.ignores_case

-- rows 1 to 6 in order, then the steps after joining
unfoldable pub line_answer : Language → Prefix → List ℕ → List ℕ → ℕ → ℕ → ℕ → Answer Parsed
unfolding parsed book_fault book_of fault joined_text first_high
line_answer l p book line text_slots map_slots record_slots =
    admitted line
    (cond (is_short line text_slots map_slots) (refused 3 0)
    (unless_fault 4 (book_fault book)
    (cond (suits l (book_of book))
    (unless_fault 6 (fault l p line) (parsed (book_of book) l p record_slots (joined_text l line)))
    (refused 5 0))))
