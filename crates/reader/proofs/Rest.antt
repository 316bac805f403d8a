-- Under default Unsupported the unread rest of an accepted line is its joined text's end, and every clause has an entry of the book.
-- Opening words and name end within the text, so the sequence begins there and is whole. Assumes nothing.
use Prim.Native.Nat.{ℕ, ◌+◌, ◌≤◌}
use mathlib.Core.Bool.{Bool, true, false, cond}
use mathlib.Core.Path.{◌≡◌, refl}
use Rattle.std.specs.Prelude.{Result, Ok, Err}
use Rattle.refusal.specs.declared.Refusal.{Refusal}
use mathlib.Core.List.{List}
use native.Mathlib.Omega.{arith}
use lib.ListN.{length, drop}
use lib.Dec.{eqb}
use borrow.Author.Tests.{eqb-false}
use Rattle.refusal.specs.Answer.{Answer, given, refused, and_then, slots}
use Rattle.refusal.proofs.Answers.{never, Sure, sure-cond, sure-fault, sure-admitted, sure-then, sure-past}
use Rattle.lexer.specs.declared.Language.{Language}
use Rattle.lexer.specs.declared.Language.TheVariants.{C, FortranFree, FortranFixed}
use Rattle.lexer.specs.declared.Prefix.{Prefix}
use Rattle.lexer.specs.Continuation.{prefix_bytes, opening_sentinel}
use Rattle.lexer.specs.Trivia.{skip}
use Rattle.lexer.specs.Steps.{trivia_step, passed_some, some_trivia_step, word_step, pragma_step}
use Rattle.lexer.proofs.Bounds.{skip-bounds}
use Rattle.validation.specs.Validation.{fault}
use Rattle.source.specs.Joining.{joined_text}
use Rattle.source.specs.Calls.{is_short}
use Rattle.bookform.specs.declared.ClauseRule.TheVariants.{Unsupported}
use Rattle.rulebook.specs.Book.{Book, book_of}
use Rattle.rulebook.specs.Check.{book_fault}
use Rattle.clause.specs.Clause.{zero_record}
use Rattle.clause.specs.Sequence.{sequence_at}
use Rattle.clause.specs.Laws.{NamesEntries}
use Rattle.clause.proofs.Rest.{IsWhole, whole-slots, sequence_at-whole}
use Rattle.directive.specs.Name.{name_at}
use Rattle.directive.proofs.Ends.{name_at-end}
use Rattle.reader.specs.declared.Reading.{Reading}
use Rattle.reader.specs.Line.{opening_c, opening_f, opening, Parsed, parsed, suits, line_answer}
use Rattle.reader.specs.Calls.{reading_of, line_within}
use Rattle.reader.specs.Laws.{StrictReadingsAreWhole}

-- the opening words end within the text: the trivia after them has a byte
abbrev Within : List ℕ → ℕ → Type 0
Within text at = at ≤ length text

some_end : (f : Bool) (text : List ℕ) (at : ℕ) → Sure (Within text) (some_trivia_step f text at)
some_end f text at = go (skip f text at) refl
  where
    go : (s : Result ℕ Refusal) → skip f text at ≡ s → Sure (Within text) (passed_some at s)
    go (Err r) e = tt
    go (Ok p) e = more (eqb p at) refl
      where
        more : (b : Bool) → eqb p at ≡ b → Sure (Within text) (cond b (refused 7 at) (given p))
        more true h = tt
        more false h = let b = skip-bounds f text at p e in omega (arith, eqb-false p at h)

opening_c-end : (p : Prefix) (text : List ℕ) → Sure (Within text) (opening_c p text)
unfolding opening_c
opening_c-end p text =
    sure-past (Within text) (trivia_step false text 0) _ (λ a.
    sure-past (Within text) (pragma_step text a) _ (λ b.
    sure-past (Within text) (some_trivia_step false text b) _ (λ d.
    sure-past (Within text) (word_step (prefix_bytes p) text d) _ (λ e.
    some_end false text e))))

opening_f-end : (l : Language) (p : Prefix) (text : List ℕ) → Sure (Within text) (opening_f l p text)
unfolding opening_f
opening_f-end l p text =
    sure-past (Within text) (trivia_step false text 0) _ (λ a.
    sure-cond (Within text) (eqb (opening_sentinel l p (drop a text)) 0) (refused 7 0) _ tt (some_end true text (a + opening_sentinel l p (drop a text))))

pub opening-end : (l : Language) (p : Prefix) (text : List ℕ) → Sure (Within text) (opening l p text)
opening-end C p text = opening_c-end p text
opening-end FortranFree p text = opening_f-end FortranFree p text
opening-end FortranFixed p text = opening_f-end FortranFixed p text

-- so of the steps after joining, of all steps, and of the call
abbrev ReadsAll : Book → List ℕ → Parsed → Type 0
ReadsAll book text r = IsWhole book text r.sequence

parsed-whole : (book : Book) → book.default ≡ Unsupported → (l : Language) (p : Prefix) (room : ℕ) (text : List ℕ)
    → Sure (ReadsAll book text) (parsed book l p room text)
unfolding parsed
parsed-whole book strict l p room text =
    sure-then (Within text) (ReadsAll book text) (opening l p text) _ (opening-end l p text) (λ at b.
    sure-then (λ m. m.end ≤ length text) (ReadsAll book text) (name_at book text at) _ (name_at-end book text at b) (λ m d.
    sure-then (IsWhole book text) (ReadsAll book text) (sequence_at book text room m.end) _ (sequence_at-whole book text strict room m.end d) (λ s w. w)))

line-whole : (l : Language) (p : Prefix) (book line : List ℕ) (text_slots map_slots record_slots : ℕ) → (book_of book).default ≡ Unsupported
    → Sure (ReadsAll (book_of book) (joined_text l line)) (line_answer l p book line text_slots map_slots record_slots)
unfolding line_answer
line-whole l p book line text_slots map_slots record_slots strict =
    let P = ReadsAll (book_of book) (joined_text l line) in
    sure-admitted P line _
    (sure-cond P (is_short line text_slots map_slots) (refused 3 0) _ tt
    (sure-fault P 4 (book_fault book) _
    (sure-cond P (suits l (book_of book)) _ (refused 5 0)
    (sure-fault P 6 (fault l p line) _ (parsed-whole (book_of book) strict l p record_slots (joined_text l line)))
    tt)))

call-whole : (book : Book) (text : List ℕ) (size : ℕ) (reading : Reading) (x : Answer Parsed) → Sure (ReadsAll book text) x
    → and_then x (λ r. given (reading_of r)) ≡ given reading
    → (reading.rest ≡ length text) × NamesEntries reading.count (length book.clauses) (slots zero_record size (λ r. r.sequence.clauses) x)
call-whole book text size reading (given r) w h =
    let e : reading ≡ reading_of r = cc in
    rw e (w.rest, whole-slots w size)
call-whole book text size reading (refused n p) w h = never _ n p reading h

pub strict-readings-are-whole : StrictReadingsAreWhole
unfolding line_within
strict-readings-are-whole l p book line text_slots map_slots record_slots reading strict h =
    call-whole (book_of book) (joined_text l line) record_slots reading (line_answer l p book line text_slots map_slots record_slots)
    (line-whole l p book line text_slots map_slots record_slots strict) h
