-- The form of a book, byte by byte: what may come next, and the first byte that may not.
use Rattle.std.specs.Prelude.{ℕ, zero, suc, ◌+◌, ◌-◌, Bool, true, false, cond, ◌&&◌, ◌||◌, ◌≡◌, List, [], ◌∷◌, get_or, eqb, ltb, leb}
use Rattle.std.specs.Prelude.{Option, Some, None, Result, Ok, Err}
use Rattle.ascii.specs.Ascii.{within, is_word}
use Rattle.ascii.specs.Text.{bytes}
use Rattle.bookform.specs.declared.ClauseRule.{ClauseRule}
use Rattle.bookform.specs.declared.ClauseRule.TheVariants.{Bare, Parenthesized, Flexible, Unsupported}
use Rattle.bookform.specs.declared.UnknownRule.{UnknownRule}
use Rattle.bookform.specs.declared.EntryKind.{EntryKind}
use Rattle.bookform.specs.declared.EntryKind.TheVariants.{Directive, Clause}
use Rattle.bookform.specs.declared.Expect.{Expect}
use Rattle.bookform.specs.declared.Expect.TheVariants.{HeaderByte, ClauseCount, DirectiveLength, DirectiveName, Rule, ClauseLength, ClauseName, End}

-- what comes before an entry's length byte: nothing in a directive entry ("a length byte 1 to 64 and the name"), one byte in a clause entry ("rule byte,
-- length byte 1 to 64, name")
abbrev pub lead_of : EntryKind → ℕ
lead_of Directive = 0
lead_of Clause = 1

-- "0 Bare, 1 Parenthesized, 2 Flexible, 3 Unsupported"; no other rule byte is known
abbrev pub rule_for : ℕ → Option ClauseRule
rule_for b =
    cond (eqb b 0) (Some Bare) (cond (eqb b 1) (Some Parenthesized) (cond (eqb b 2) (Some Flexible) (cond (eqb b 3) (Some Unsupported) None)))

abbrev pub is_known : Option ClauseRule → Bool
is_known (Some r) = true
is_known None = false

-- what a byte is turned to: its rule, or itself as the one that is not known
abbrev pub rule_or : ℕ → Option ClauseRule → Result ClauseRule UnknownRule
rule_or b (Some r) = Ok r
rule_or b None = Err (record { 0 = b })

abbrev pub Rules : ℕ → Result ClauseRule UnknownRule → Type 0
Rules b r = r ≡ rule_or b (rule_for b)

-- "Bytes 0 to 2 are the mark `DRB`; 3 to 4 the version, 16 bits big-endian, 1; byte 5 flags: bit 0 .. bit 1 .., others zero;
-- byte 6 the default clause rule: 0 .. 3; byte 7 directives (1 to 255)"
abbrev pub is_header : ℕ → ℕ → Bool
is_header i b =
    cond (ltb i 3) (eqb (get_or (bytes "DRB") i 0) b)
    (cond (eqb i 3) (eqb b 0) (cond (eqb i 4) (eqb b 1) (cond (eqb i 5) (ltb b 4) (cond (eqb i 6) (is_known (rule_for b)) (leb 1 b)))))

-- "a length byte 1 to 64"
abbrev pub is_length : ℕ → Bool
is_length b = within 1 64 b

-- what is waited for where so many clause entries are to come
abbrev pub clauses_left : ℕ → Expect
clauses_left zero = End
clauses_left (suc c) = Rule c

-- "Directive entries follow .. Then clause entries"
abbrev pub directives_left : ℕ → ℕ → Expect
directives_left zero c = clauses_left c
directives_left (suc d) c = DirectiveLength d c

abbrev pub when_good : Bool → Expect → Option Expect
when_good true e = Some e
when_good false e = None

abbrev pub header_step : ℕ → ℕ → Option Expect
header_step i b = when_good (is_header i b) (cond (ltb i 7) (HeaderByte (i + 1)) (ClauseCount b))

-- "Names are words of letters, digits, `_`; directive words have one blank between them": a blank stands after a byte of a word, and not last
abbrev pub name_step : ℕ → Bool → ℕ → ℕ → ℕ → Option Expect
name_step zero w d c b = when_good (is_word b) (directives_left d c)
name_step (suc n) w d c b = when_good (is_word b || eqb b 32 && w) (DirectiveName n (is_word b) d c)

-- "a clause name is one word"
abbrev pub word_step : ℕ → ℕ → ℕ → Option Expect
word_step zero c b = when_good (is_word b) (clauses_left c)
word_step (suc n) c b = when_good (is_word b) (ClauseName n c)

-- what is waited for after a byte, or nothing if the byte is bad
abbrev pub stepped : Expect → ℕ → Option Expect
stepped (HeaderByte i) b = header_step i b
stepped (ClauseCount d) b = Some (directives_left d b)
stepped (DirectiveLength d c) b = when_good (is_length b) (DirectiveName (b - 1) false d c)
stepped (DirectiveName n w d c) b = name_step n w d c b
stepped (Rule c) b = when_good (is_known (rule_for b)) (ClauseLength c)
stepped (ClauseLength c) b = when_good (is_length b) (ClauseName (b - 1) c)
stepped (ClauseName n c) b = word_step n c b
-- "Nothing follows."
stepped End b = None

-- a book that ends here: whole, or cut at this place
abbrev pub ended_at : Expect → ℕ → Option ℕ
ended_at (HeaderByte i) at = Some at
ended_at (ClauseCount d) at = Some at
ended_at (DirectiveLength d c) at = Some at
ended_at (DirectiveName n w d c) at = Some at
ended_at (Rule c) at = Some at
ended_at (ClauseLength c) at = Some at
ended_at (ClauseName n c) at = Some at
ended_at End at = None

-- row 4, "first bad byte, its end if cut", from place at on
unfoldable pub bad_from : Expect → ℕ → List ℕ → Option ℕ
bad_from e at [] = ended_at e at
bad_from e at (b ∷ bs) = elim (stepped e b) [ None ↦ Some at | Some e' ↦ bad_from e' (suc at) bs ]

-- "repeats aside": no byte of it is bad, and it is not cut
abbrev pub HasForm : List ℕ → Type 0
HasForm bs = bad_from (HeaderByte 0) 0 bs ≡ None
