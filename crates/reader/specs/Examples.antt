-- The examples of document 01, evaluated on the definitions that the public calls meet: the marked ones in one statement, the table's and the
-- unmarked ones in another; and those of document 02's requests P1 and P6.
use Rattle.std.specs.Prelude.{ℕ, suc, Bool, true, false, ◌≡◌, refl, List, [], ◌∷◌, ◌++◌, length, replicate}
use Prim.Native.String.{String}
use Rattle.ascii.specs.Text.{bytes, leading, up_to, trimmed, same_by, begins, first_high}
use Rattle.refusal.specs.Answer.{Answer, given, refused}
use Rattle.delimiter.specs.declared.Separator.TheVariants.{Comma, Colon}
use Rattle.code.specs.Code.{literal, block_end, piece, scan_from}
use Rattle.code.specs.Bracket.{taken}
use Rattle.code.specs.Matching.{match_from, matching}
use Rattle.delimiter.specs.Split.{next_solid, bracketed, turned, split_from, split, flat, SplitCall, split_call}
use Rattle.lexer.specs.declared.Language.{Language}
use Rattle.lexer.specs.declared.Language.TheVariants.{C, FortranFree, FortranFixed}
use Rattle.lexer.specs.declared.Prefix.TheVariants.{Omp}
use Rattle.lexer.specs.Continuation.{break_c, break_f, sentinel, sentinel_ended, sentinel_any, eol, comment_f, marker, lead}
use Rattle.lexer.specs.Trivia.{trivia_c, trivia_f, skip_from, skip}
use Rattle.validation.specs.Validation.{code_length, ends_in, continued_f, check_line, fault_from, fault}
use Rattle.source.specs.Joining.{kept_from, joined_text, joined_map}
use Rattle.source.specs.Calls.{JoinCall, join_answer, join_call, span_answer}
use Rattle.bookform.specs.Format.{bad_from}
use Rattle.rulebook.specs.Book.{entries_from, place_after, clauses_of, header_of, book_of}
use Rattle.rulebook.specs.Check.{is_named, repeat_from, book_fault, book_call}
use Rattle.rulebook.specs.Lookup.{entry_from, rule_at}
use Rattle.clause.specs.declared.ClauseRecord.{ClauseRecord}
use Rattle.clause.specs.declared.SequenceEnd.{SequenceEnd}
use Rattle.clause.specs.Clause.{clause_at, zero_record}
use Rattle.clause.specs.Sequence.{sequence_from, sequence_at}
use Rattle.clause.specs.Calls.{sequence_call}
use Rattle.directive.specs.Name.{compact, entries_with, entry_of, head_from, is_head, may_grow, name_from, name_at}
use Rattle.reader.specs.declared.Reading.{Reading}
use Rattle.reader.specs.Line.{opening_c, opening_f, parsed, line_answer}
use Rattle.reader.specs.Calls.{LineCall, line_call, line_within}

-- join alone, omp, with just enough slots
abbrev join : Language → List ℕ → JoinCall
join l line = join_call l Omp line (length line) (suc (length line))

abbrev joined : ℕ → List ℕ → List ℕ → JoinCall
joined n text map = record { answer = given n; text = text; map = map }

-- a split by commas or colons, angles off, with eight numbers lent
abbrev commas : List ℕ → SplitCall
commas text = split_call text C Comma false 8

abbrev colons : List ℕ → SplitCall
colons text = split_call text C Colon false 8

abbrev items : ℕ → List ℕ → SplitCall
items n numbers = record { answer = given n; items = numbers }

-- "a refusal zeroes every lent slot"
abbrev no_items : ℕ → ℕ → SplitCall
no_items n place = record { answer = refused n place; items = replicate 8 0 }

-- ◆
pub marked :
    (join C (bytes "a\\\nb") ≡ joined 2 (bytes "ab" ++ replicate 2 0) (0 ∷ 3 ∷ 4 ∷ 0 ∷ 0 ∷ []))
    × (join C (bytes "\\\n") ≡ joined 0 (0 ∷ 0 ∷ []) (2 ∷ 0 ∷ 0 ∷ []))
    × (join C [] ≡ joined 0 [] (0 ∷ []))
    × (join C (bytes "\\\\\n\n") ≡ joined 2 (bytes "\\\n" ++ replicate 2 0) (0 ∷ 3 ∷ 4 ∷ 0 ∷ 0 ∷ []))
    × (join C (bytes "x\r") ≡ record { answer = refused 6 1; text = replicate 2 0; map = replicate 3 0 })
    × (join C (bytes "x\n\r") ≡ joined 3 (bytes "x\n\r") (0 ∷ 1 ∷ 2 ∷ 3 ∷ []))
    × (join FortranFree (bytes "!$omp parallel &\n!$omp& nowait")
    ≡ joined 22 (bytes "!$omp parallel  nowait" ++ replicate 8 0)
    ((0 ∷ 1 ∷ 2 ∷ 3 ∷ 4 ∷ 5 ∷ 6 ∷ 7 ∷ 8 ∷ 9 ∷ 10 ∷ 11 ∷ 12 ∷ 13 ∷ 14 ∷ 23 ∷ 24 ∷ 25 ∷ 26 ∷ 27 ∷ 28 ∷ 29 ∷ 30 ∷ []) ++ replicate 8 0))
    × ((join FortranFree (bytes "!$omp parallel &\n!$acc end")).answer ≡ refused 6 17)
    × (commas (bytes "a, b[1,2], c") ≡ items 3 (0 ∷ 1 ∷ 3 ∷ 9 ∷ 11 ∷ 12 ∷ 0 ∷ 0 ∷ []))
    × (commas [] ≡ no_items 15 0)
    × (colons (bytes "a:'x':b") ≡ items 1 ((0 ∷ 7 ∷ []) ++ replicate 6 0))
    × (colons (bytes "p?q::r:s") ≡ items 2 ((0 ∷ 6 ∷ 7 ∷ 8 ∷ []) ++ replicate 4 0))
unfolding leading up_to trimmed begins first_high literal block_end piece scan_from taken next_solid bracketed turned split_from split flat split_call break_c break_f sentinel sentinel_ended sentinel_any eol comment_f marker lead code_length ends_in continued_f check_line fault_from fault kept_from joined_text joined_map join_answer join_call
marked = (refl, refl, refl, refl, refl, refl, refl, refl, refl, refl, refl, refl)

-- "Strict" is a book with flags 0, `parallel`, and `nowait` Bare, default 3.
abbrev pub strict : List ℕ
strict = bytes "DRB" ++ (0 ∷ 1 ∷ 0 ∷ 3 ∷ 1 ∷ 1 ∷ 8 ∷ bytes "parallel") ++ (0 ∷ 6 ∷ bytes "nowait")

-- "Table rows 7 to 14, and `if(a) 'b` below, take it with `if` Parenthesized appended."
abbrev pub with_if : List ℕ
with_if = bytes "DRB" ++ (0 ∷ 1 ∷ 0 ∷ 3 ∷ 1 ∷ 2 ∷ 8 ∷ bytes "parallel") ++ (0 ∷ 6 ∷ bytes "nowait") ++ (1 ∷ 2 ∷ bytes "if")

-- the same with bit 0 set
abbrev ignoring : List ℕ
ignoring = bytes "DRB" ++ (0 ∷ 1 ∷ 1 ∷ 3 ∷ 1 ∷ 1 ∷ 8 ∷ bytes "parallel") ++ (0 ∷ 6 ∷ bytes "nowait")

-- the whole line in C, omp, with slots that suffice, and so many records
abbrev line : List ℕ → ℕ → List ℕ → LineCall
line book records text = line_call C Omp book text 64 64 records

abbrev sequence : ℕ → List ℕ → Answer SequenceEnd
sequence records text = (sequence_call with_if text records).answer

-- rows 1 to 19 of the table, each by its example, and then the unmarked examples
pub table :
    ((commas (replicate 16385 97)).answer ≡ refused 1 16384)
    × ((commas (97 ∷ 200 ∷ [])).answer ≡ refused 2 1)
    × (join_call C Omp (bytes "ab") 2 2 ≡ record { answer = refused 3 0; text = replicate 2 0; map = replicate 2 0 })
    × (book_call (bytes "DRX") ≡ refused 4 2)
    × ((line ignoring 1 (bytes "#pragma omp parallel")).answer ≡ refused 5 0)
    × ((join C (bytes "x\ny")).answer ≡ refused 6 1)
    × ((line with_if 1 (bytes "#pragma acc loop")).answer ≡ refused 7 8)
    × ((line with_if 1 (bytes "#pragma omp /* p")).answer ≡ refused 8 12)
    × ((line with_if 1 (bytes "#pragma omp zzz")).answer ≡ refused 9 12)
    × (sequence 1 (bytes "zzz") ≡ refused 10 3)
    × (sequence 1 (bytes "if x") ≡ refused 11 3)
    × (sequence 1 (bytes "if(a") ≡ refused 12 2)
    × (commas (replicate 257 40) ≡ no_items 13 256)
    × (sequence 1 (bytes "nowait nowait") ≡ refused 14 7)
    × (commas (bytes "a,,b") ≡ no_items 15 2)
    × (commas (bytes "'a") ≡ no_items 16 0)
    × (commas (bytes "a]") ≡ no_items 17 1)
    × (commas (bytes "(a") ≡ no_items 18 2)
    × (span_answer (0 ∷ 1 ∷ 2 ∷ 3 ∷ []) 3 3 2 ≡ refused 19 0)
    × (join FortranFree (bytes "!$omp a &\u{b}\n b")
    ≡ joined 13 (bytes "!$omp a &\u{b}\n b") (0 ∷ 1 ∷ 2 ∷ 3 ∷ 4 ∷ 5 ∷ 6 ∷ 7 ∷ 8 ∷ 9 ∷ 10 ∷ 11 ∷ 12 ∷ 13 ∷ []))
    × (commas (bytes "/* k */") ≡ items 1 ((0 ∷ 7 ∷ []) ++ replicate 6 0))
    × ((sequence_call strict (bytes "nowait\u{b}") 1).answer ≡ refused 10 6)
    × (sequence 1 (bytes "if(a) 'b") ≡ refused 12 2)
    × (commas (replicate 256 40 ++ replicate 256 41) ≡ items 1 ((0 ∷ 512 ∷ []) ++ replicate 6 0))
    × (line strict 2 (bytes "#pragma omp parallel nowait,")
    ≡ record {
      answer = given (record { entry = 0; name_start = 12; name_end = 20; count = 1; rest = 28 });
      text = bytes "#pragma omp parallel nowait," ++ replicate 36 0;
      map = (0 ∷ 1 ∷ 2 ∷ 3 ∷ 4 ∷ 5 ∷ 6 ∷ 7 ∷ 8 ∷ 9 ∷ 10 ∷ 11 ∷ 12 ∷ 13 ∷ 14 ∷ 15 ∷ 16 ∷ 17 ∷ 18 ∷ 19 ∷ 20 ∷ 21 ∷ 22 ∷ 23 ∷ 24 ∷ 25 ∷ 26 ∷ 27 ∷ 28 ∷ [])
          ++ replicate 35 0;
      records = record { name_start = 21; name_end = 27; entry = 0; parenthesized = false; content_start = 0; content_end = 0; preceded = false; trailing = true }
          ∷ zero_record
          ∷ [];
    })
unfolding leading up_to trimmed same_by begins first_high literal block_end piece scan_from match_from matching taken next_solid bracketed turned split_from split flat split_call break_c break_f sentinel sentinel_ended sentinel_any eol comment_f marker lead trivia_c trivia_f skip_from skip code_length ends_in continued_f check_line fault_from fault kept_from joined_text joined_map join_answer join_call span_answer bad_from entries_from place_after clauses_of header_of book_of is_named repeat_from book_fault book_call entry_from rule_at clause_at sequence_from sequence_at sequence_call compact entries_with entry_of head_from is_head may_grow name_from name_at opening_c opening_f parsed line_answer line_within
table = (refl, refl, refl, refl, refl, refl, refl, refl, refl, refl, refl, refl, refl, refl, refl, refl, refl, refl, refl, refl, refl, refl, refl, refl, refl)

-- a book with the directive `p` and no clause, default 3
abbrev only_p : List ℕ
only_p = bytes "DRB" ++ (0 ∷ 1 ∷ 0 ∷ 3 ∷ 1 ∷ 0 ∷ 1 ∷ bytes "p")

abbrev opened : List ℕ → Answer Reading
opened text = (line only_p 0 text).answer

-- the reading of a line that ends with the name `p`, at that place
abbrev named : ℕ → Answer Reading
named at = given (record { entry = 0; name_start = at; name_end = suc at; count = 0; rest = suc at })

-- 02, P1: trivia between `#` and `pragma`, and what is none; the last two with a break there, which changes the map alone
pub behind_hash :
    (opened (bytes "# pragma omp p") ≡ named 13)
    × (opened (bytes "#/**/pragma omp p") ≡ named 16)
    × (opened (bytes "# x") ≡ refused 7 0)
    × (opened (bytes " #") ≡ refused 7 1)
    × (opened (bytes "# /*") ≡ refused 8 2)
    × (opened (bytes "#//pragma omp p") ≡ refused 7 0)
    × (opened (bytes "#pragmaomp p") ≡ refused 7 7)
    × (opened (bytes " # pragma\n") ≡ refused 7 10)
    × (opened (bytes "pragma omp p") ≡ refused 7 0)
    × (opened (bytes "##pragma omp p") ≡ refused 7 0)
    × (opened (bytes "#\u{b}pragma omp p") ≡ refused 7 0)
    × (opened (bytes "#\\\\\n\n") ≡ refused 7 0)
    × (opened (bytes "#\\\npragma omp p") ≡ named 12)
    × (line only_p 0 (bytes "#\\\n pragma omp p")
    ≡ record {
      answer = named 13;
      text = bytes "# pragma omp p" ++ replicate 50 0;
      map = (0 ∷ 3 ∷ 4 ∷ 5 ∷ 6 ∷ 7 ∷ 8 ∷ 9 ∷ 10 ∷ 11 ∷ 12 ∷ 13 ∷ 14 ∷ 15 ∷ 16 ∷ []) ++ replicate 49 0;
      records = [];
    })
unfolding leading up_to same_by begins first_high block_end break_c trivia_c skip_from skip check_line fault_from fault kept_from joined_text joined_map bad_from entries_from place_after clauses_of header_of book_of is_named repeat_from book_fault entry_from rule_at clause_at sequence_from sequence_at compact entries_with entry_of head_from is_head may_grow name_from name_at opening_c parsed line_answer line_within
behind_hash = (refl, refl, refl, refl, refl, refl, refl, refl, refl, refl, refl, refl, refl, refl)

-- a book with these flags, the directive `p` and the clause `i` Parenthesized, default 3
abbrev with_i : ℕ → List ℕ
with_i flags = bytes "DRB" ++ (0 ∷ 1 ∷ flags ∷ 3 ∷ 1 ∷ 1 ∷ 1 ∷ bytes "p") ++ (1 ∷ 1 ∷ bytes "i")

abbrev clauses : ℕ → String → Answer SequenceEnd
clauses flags text = (sequence_call (with_i flags) (bytes text) 2).answer

-- the clause `i` with this content
abbrev clause_i : ℕ → ℕ → ℕ → Bool → ClauseRecord
clause_i start from to comma =
    record { name_start = start; name_end = suc start; entry = 0; parenthesized = true; content_start = from; content_end = to; preceded = comma; trailing = false }

-- 02, P6: literals of Fortran by bit 0 of the book, those of a split by its language; of C they are what they were
pub fortran_literals :
    (sequence_call (with_i 1) (bytes "i('c:\\'), i(x)") 2
    ≡ record { answer = given (record { count = 2; rest = 14 }); records = clause_i 0 2 7 false ∷ clause_i 10 12 13 true ∷ [] })
    × (clauses 0 "i('c:\\'), i(x)" ≡ refused 12 1)
    × (clauses 1 "i('\\')" ≡ given (record { count = 1; rest = 6 }))
    × (clauses 0 "i('\\')" ≡ refused 12 1)
    × (clauses 1 "i('\\'')" ≡ refused 12 1)
    × (clauses 0 "i('\\'')" ≡ given (record { count = 1; rest = 7 }))
    × (clauses 1 "i('it''s')" ≡ given (record { count = 1; rest = 10 }))
    × ((line_call FortranFree Omp (with_i 1) (bytes "!$omp p i('\\')") 64 64 1).answer ≡ given (record { entry = 0; name_start = 6; name_end = 7; count = 1; rest = 14 }))
    × ((line_call FortranFixed Omp (with_i 1) (bytes "c$omp p i('\\'')") 64 64 1).answer ≡ refused 12 9)
    × ((line (with_i 0) 1 (bytes "#pragma omp p i('\\')")).answer ≡ refused 12 15)
    × (split_call (bytes "'\\',b") FortranFree Comma false 8 ≡ items 2 ((0 ∷ 3 ∷ 4 ∷ 5 ∷ []) ++ replicate 4 0))
    × (commas (bytes "'\\',b") ≡ no_items 16 0)
unfolding leading up_to trimmed same_by begins first_high literal block_end piece scan_from match_from matching taken next_solid bracketed turned split_from split flat split_call break_c break_f sentinel sentinel_ended sentinel_any eol comment_f marker lead trivia_c trivia_f skip_from skip code_length ends_in continued_f check_line fault_from fault kept_from joined_text joined_map join_answer join_call span_answer bad_from entries_from place_after clauses_of header_of book_of is_named repeat_from book_fault book_call entry_from rule_at clause_at sequence_from sequence_at sequence_call compact entries_with entry_of head_from is_head may_grow name_from name_at opening_c opening_f parsed line_answer line_within
fortran_literals = (refl, refl, refl, refl, refl, refl, refl, refl, refl, refl, refl, refl)
