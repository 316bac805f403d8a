-- Demand 3, as statements about what the calls give: breaks change nothing but the map, and appended clause names change no accepted reading;
-- and what is read under default Unsupported. Their proofs are theorems of these types.
use Rattle.std.specs.Prelude.{ℕ, suc, ◌≤◌, ◌<◌, ◌≡◌, List, length, get_or}
use Rattle.std.specs.Prelude.{None}
use Rattle.ascii.specs.Text.{padded}
use Rattle.refusal.specs.Answer.{given, max_length}
use Rattle.lexer.specs.declared.Language.{Language}
use Rattle.lexer.specs.declared.Language.TheVariants.{C}
use Rattle.lexer.specs.declared.Prefix.{Prefix}
use Rattle.source.specs.Joining.{joined_text}
use Rattle.source.specs.Calls.{join_call}
use Rattle.source.specs.Laws.{Break, broken, broken_map, IsPlain}
use Rattle.bookform.specs.declared.ClauseRule.TheVariants.{Unsupported}
use Rattle.rulebook.specs.Book.{book_of}
use Rattle.rulebook.specs.Check.{book_fault}
use Rattle.rulebook.specs.Lookup.{IsAppended}
use Rattle.clause.specs.Laws.{NamesEntries}
use Rattle.reader.specs.declared.Reading.{Reading}
use Rattle.reader.specs.Calls.{line_call}

-- "Breaks, for demand 3": whatever the lists of breaks in all gaps of a text, "a single claim about all the lists together". Any record slots, text and
-- map that suffice for the broken line. The whole line's reading or refusal, text and records are those of the unbroken text; join alone gives the text
-- and the map of the breaks, whose last entry is the line's length.
abbrev pub BreaksChangeNothing : Type 0
BreaksChangeNothing = (t : List ℕ) → IsPlain t → (gap : ℕ → List Break) (p : Prefix) (book : List ℕ) (text_slots map_slots record_slots : ℕ)
    → length (broken t gap) ≤ max_length → length (broken t gap) ≤ text_slots → length (broken t gap) < map_slots
    → ((line_call C p book (broken t gap) text_slots map_slots record_slots).answer ≡ (line_call C p book t text_slots map_slots record_slots).answer)
    × ((line_call C p book (broken t gap) text_slots map_slots record_slots).text ≡ (line_call C p book t text_slots map_slots record_slots).text)
    × ((line_call C p book (broken t gap) text_slots map_slots record_slots).records ≡ (line_call C p book t text_slots map_slots record_slots).records)
    × (join_call C p (broken t gap) text_slots map_slots
    ≡ record { answer = given (length t); text = padded 0 text_slots t; map = padded 0 map_slots (broken_map gap 0 (suc (length t))) })
    × (get_or (broken_map gap 0 (suc (length t))) (length t) 0 ≡ length (broken t gap))

-- Appended names: "about the whole run of appended names". With default Unsupported every line that is accepted under the shorter book gives the same
-- under the longer one: the reading, and every lent slot.
abbrev pub AppendedNamesKeepReadings : Type 0
AppendedNamesKeepReadings = (l : Language) (p : Prefix) (short long line : List ℕ) (text_slots map_slots record_slots : ℕ) (reading : Reading)
    → book_fault short ≡ None → book_fault long ≡ None → IsAppended (book_of short) (book_of long) → (book_of short).default ≡ Unsupported
    → (line_call l p short line text_slots map_slots record_slots).answer ≡ given reading
    → line_call l p long line text_slots map_slots record_slots ≡ line_call l p short line text_slots map_slots record_slots

-- "With default Unsupported a clause that fails is refused": so the unread rest of an accepted line is the end of its joined text, and each of its
-- clauses has an entry of the book.
abbrev pub StrictReadingsAreWhole : Type 0
StrictReadingsAreWhole = (l : Language) (p : Prefix) (book line : List ℕ) (text_slots map_slots record_slots : ℕ) (reading : Reading)
    → (book_of book).default ≡ Unsupported
    → (line_call l p book line text_slots map_slots record_slots).answer ≡ given reading
    → (reading.rest ≡ length (joined_text l line))
    × NamesEntries reading.count (length (book_of book).clauses) (line_call l p book line text_slots map_slots record_slots).records
