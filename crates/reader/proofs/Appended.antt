-- Clause names that are appended to a book keep every reading: under default Unsupported a line that is accepted is accepted as before.
-- The name goes by flags and directives, the sequence is kept, and the other steps do not ask the book. Assumes nothing.
use Prim.Native.Nat.{ℕ}
use Rattle.std.specs.Prelude.{None}
use mathlib.Core.Path.{◌≡◌}
use mathlib.Core.List.{List}
use Rattle.refusal.specs.Answer.{given}
use Rattle.refusal.proofs.Answers.{and_then-given, Keeps, keeps-cond, keeps-fault, keeps-admitted, keeps_then}
use Rattle.lexer.specs.declared.Language.{Language}
use Rattle.lexer.specs.declared.Language.TheVariants.{C, FortranFree, FortranFixed}
use Rattle.lexer.specs.declared.Prefix.{Prefix}
use Rattle.validation.specs.Validation.{fault}
use Rattle.source.specs.Joining.{joined_text}
use Rattle.source.specs.Calls.{is_short}
use Rattle.bookform.specs.declared.ClauseRule.TheVariants.{Unsupported}
use Rattle.rulebook.specs.Book.{Book, book_of}
use Rattle.rulebook.specs.Check.{book_fault}
use Rattle.rulebook.specs.Lookup.{IsAppended}
use Rattle.clause.specs.Sequence.{sequence_at}
use Rattle.clause.proofs.Appended.{sequence_at-kept}
use Rattle.directive.specs.Name.{name_at}
use Rattle.directive.proofs.SameNames.{names-go-by-directives}
use Rattle.reader.specs.Line.{opening, parsed, suits, line_answer}
use Rattle.reader.specs.Calls.{reading_of, line_within}
use Rattle.reader.specs.Laws.{AppendedNamesKeepReadings}

suits-same : (l : Language) (b d : Book) → b.ignores_case ≡ d.ignores_case → suits l b ≡ suits l d
suits-same C b d e = rw e
suits-same FortranFree b d e = e
suits-same FortranFixed b d e = e

parsed-kept : (short long : Book) → IsAppended short long → short.default ≡ Unsupported → (l : Language) (p : Prefix) (room : ℕ) (text : List ℕ)
    → Keeps (parsed short l p room text) (parsed long l p room text)
unfolding parsed
parsed-kept short long a strict l p room text r h =
    let (at, o, h1) = and_then-given (opening l p text) _ r h in
    let (name, n, h2) = and_then-given (name_at short text at) _ r h1 in
    let (s, q, h3) = and_then-given (sequence_at short text room name.end) _ r h2 in
    rw (o, names-go-by-directives long short a.same_case a.same_blanks a.same_directives, n, sequence_at-kept short long a strict text room name.end s q) h3

line_answer-kept : (l : Language) (p : Prefix) (short long line : List ℕ) (text_slots map_slots record_slots : ℕ)
    → book_fault short ≡ None → book_fault long ≡ None → IsAppended (book_of short) (book_of long) → (book_of short).default ≡ Unsupported
    → Keeps (line_answer l p short line text_slots map_slots record_slots) (line_answer l p long line text_slots map_slots record_slots)
unfolding line_answer
line_answer-kept l p short long line text_slots map_slots record_slots fs fl a strict =
    rw (fs, fl, suits-same l (book_of long) (book_of short) a.same_case)
    (keeps-admitted line _ _
    (keeps-cond (is_short line text_slots map_slots) _ _ _ _ (λ r e. e)
    (keeps-cond (suits l (book_of short)) _ _ _ _
    (keeps-fault 6 (fault l p line) _ _ (parsed-kept (book_of short) (book_of long) a strict l p record_slots (joined_text l line)))
    (λ r e. e))))

pub appended-names-keep-readings : AppendedNamesKeepReadings
unfolding line_within
appended-names-keep-readings l p short long line text_slots map_slots record_slots reading fs fl a strict h =
    let x = line_answer l p short line text_slots map_slots record_slots in
    let y = line_answer l p long line text_slots map_slots record_slots in
    let k = line_answer-kept l p short long line text_slots map_slots record_slots fs fl a strict in
    rw (keeps_then x y (λ r. given (reading_of r)) reading k h)
