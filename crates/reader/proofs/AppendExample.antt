-- The law of the appended names at work: document 01's strict book, and the same with `if` appended. Its premises hold, and a line is read alike.
-- The premises are evaluated, the longer book's reading comes by the law. Assumes nothing.
use Prim.Native.Nat.{ℕ}
use Rattle.std.specs.Prelude.{None}
use mathlib.Core.Path.{◌≡◌, refl}
use mathlib.Core.List.{List, [], ◌∷◌}
use Rattle.ascii.specs.Text.{bytes, leading, up_to, same_by, begins, first_high}
use Rattle.refusal.specs.Answer.{given}
use Rattle.lexer.specs.declared.Language.TheVariants.{C}
use Rattle.lexer.specs.declared.Prefix.TheVariants.{Omp}
use Rattle.lexer.specs.Continuation.{break_c}
use Rattle.lexer.specs.Trivia.{trivia_c, skip_from, skip}
use Rattle.validation.specs.Validation.{check_line, fault_from, fault}
use Rattle.source.specs.Joining.{kept_from, joined_text}
use Rattle.bookform.specs.declared.ClauseRule.TheVariants.{Parenthesized, Unsupported}
use Rattle.bookform.specs.Format.{bad_from}
use Rattle.rulebook.specs.Book.{entries_from, place_after, clauses_of, header_of, book_of}
use Rattle.rulebook.specs.Check.{is_named, repeat_from, book_fault}
use Rattle.rulebook.specs.Lookup.{entry_from, rule_at, IsAppended}
use Rattle.clause.specs.Clause.{clause_at}
use Rattle.clause.specs.Sequence.{sequence_from, sequence_at}
use Rattle.directive.specs.Name.{entry_of, head_from, is_head, may_grow, name_from, name_at}
use Rattle.reader.specs.declared.Reading.{Reading}
use Rattle.reader.specs.Line.{opening_c, parsed, line_answer}
use Rattle.reader.specs.Calls.{LineCall, line_call, line_within}
use Rattle.reader.specs.Examples.{strict, with_if}
use Rattle.reader.proofs.Appended.{appended-names-keep-readings}

appended : IsAppended (book_of strict) (book_of with_if)
unfolding entries_from place_after clauses_of header_of book_of
appended = record {
  same_case = refl;
  same_blanks = refl;
  same_default = refl;
  same_directives = refl;
  more = record { at = 26; rule = Parenthesized; name = bytes "if" } ∷ [];
  same_names = refl;
  same_rules = refl;
}

valid : (book_fault strict ≡ None) × (book_fault with_if ≡ None) × ((book_of strict).default ≡ Unsupported)
unfolding same_by bad_from entries_from place_after clauses_of header_of book_of is_named repeat_from book_fault
valid = (refl, refl, refl)

abbrev line : List ℕ → LineCall
line book = line_call C Omp book (bytes "#pragma omp parallel nowait,") 64 64 2

abbrev reading : Reading
reading = record { entry = 0; name_start = 12; name_end = 20; count = 1; rest = 28 }

read : (line strict).answer ≡ given reading
unfolding leading up_to same_by begins first_high break_c trivia_c skip_from skip check_line fault_from fault kept_from joined_text bad_from entries_from place_after clauses_of header_of book_of is_named repeat_from book_fault entry_from rule_at clause_at sequence_from sequence_at entry_of head_from is_head may_grow name_from name_at opening_c parsed line_answer line_within
read = refl

pub alike : line with_if ≡ line strict
alike = appended-names-keep-readings C Omp strict with_if (bytes "#pragma omp parallel nowait,") 64 64 2 reading valid.0 valid.1 appended valid.2 read
