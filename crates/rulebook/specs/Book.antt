-- What a book says: its flags, its default rule, and its entries in order. "Entries count from 0."
use Rattle.std.specs.Prelude.{ℕ, zero, suc, ◌+◌, ◌≤◌, ◌/◌, ◌%◌, Bool, List, [], ◌∷◌, length, map, get_or, eqb, Option, Some, None}
use mathlib.Core.HLevel.{×₃_prop}
use denote.Struct.Props as logic
use Rattle.ascii.specs.declared.Range.{Range}
use Rattle.ascii.specs.Text.{part}
use Rattle.bookform.specs.declared.ClauseRule.{ClauseRule}
use Rattle.bookform.specs.declared.ClauseRule.TheVariants.{Bare, Unsupported}
use Rattle.bookform.specs.declared.Entries.{Entries}
use Rattle.bookform.specs.declared.EntryKind.TheVariants.{Directive, Clause}
use Rattle.rulebook.specs.declared.Header.{Header}
use Rattle.bookform.specs.Format.{rule_for, lead_of}

-- a name, the place of its entry's first byte, and a clause's rule
pub record Entry : Type 0 where
  pub at : ℕ
  pub rule : ClauseRule
  pub name : List ℕ

-- the rule that a byte says; a book has known ones only
abbrev pub rule_said : Option ClauseRule → ClauseRule
rule_said (Some r) = r
rule_said None = Unsupported

-- Both kinds of entries are a length byte and the name, after as many bytes as lead: none in a directive entry, the rule byte in a clause entry.
-- A directive has no rule.
abbrev pub rule_led : ℕ → ℕ → ClauseRule
rule_led zero b = Bare
rule_led (suc lead) b = rule_said (rule_for b)

-- where the name of the entry at a place stands; the next entry follows it
abbrev pub name_at : ℕ → ℕ → List ℕ → Range
name_at lead at bs = record { start = at + lead + 1; end = at + lead + 1 + get_or bs (at + lead) 0 }

abbrev pub entry_at : ℕ → ℕ → List ℕ → Entry
entry_at lead at bs = record { at = at; rule = rule_led lead (get_or bs at 0); name = part bs (name_at lead at bs) }

-- n entries, from place at on
unfoldable pub entries_from : ℕ → ℕ → ℕ → List ℕ → List Entry
entries_from lead zero at bs = []
entries_from lead (suc n) at bs = entry_at lead at bs ∷ entries_from lead n (name_at lead at bs).end bs

-- their names
abbrev pub names_from : ℕ → ℕ → ℕ → List ℕ → List (List ℕ)
names_from lead n at bs = map (λ e. e.name) (entries_from lead n at bs)

-- the place after n entries from place at on
unfoldable pub place_after : ℕ → ℕ → ℕ → List ℕ → ℕ
place_after lead zero at bs = at
place_after lead (suc n) at bs = place_after lead n (name_at lead at bs).end bs

-- n entries from place at on lie inside the book, and their names are not empty
unfoldable pub Laid : ℕ → ℕ → ℕ → List ℕ → Type 0
Laid lead zero at bs = at ≤ length bs
Laid lead (suc n) at bs =
    (1 ≤ get_or bs (at + lead) 0) × ((name_at lead at bs).end ≤ length bs) × Laid lead n (name_at lead at bs).end bs

-- that has one proof at most, so it may be a ghost field
pub Laid-prop : (lead n at : ℕ) (bs : List ℕ) → IsProp (Laid lead n at bs)
unfolding Laid
Laid-prop lead zero at bs = Prim.hlevel logic.props
Laid-prop lead (suc n) at bs = ×₃_prop (Prim.hlevel logic.props) (Prim.hlevel logic.props) (Laid-prop lead n (name_at lead at bs).end bs)

-- the entries of one kind
abbrev pub entries_in : Entries → List ℕ → List Entry
entries_in es bs = entries_from (lead_of es.kind) es.count es.first bs

abbrev pub LaidIn : Entries → List ℕ → Type 0
LaidIn es bs = Laid (lead_of es.kind) es.count es.first bs

-- "Directive entries follow" the nine bytes of the header
abbrev pub directives_of : List ℕ → Entries
directives_of bs = record { kind = Directive; first = 9; count = get_or bs 7 0 }

-- "Then clause entries"
unfoldable pub clauses_of : List ℕ → Entries
unfolding place_after
clauses_of bs = record { kind = Clause; first = place_after 0 (get_or bs 7 0) 9 bs; count = get_or bs 8 0 }

-- "byte 5 flags: bit 0 ignore case and use Fortran trivia, bit 1 optional blanks in directive names .. byte 6 the default clause rule ..
-- byte 7 directives (1 to 255); byte 8 clauses (0 to 255)"
unfoldable pub header_of : List ℕ → Header
unfolding clauses_of
header_of bs = record {
  ignores_case = eqb (get_or bs 5 0 % 2) 1;
  optional_blanks = eqb (get_or bs 5 0 / 2 % 2) 1;
  default_rule = rule_said (rule_for (get_or bs 6 0));
  directives = directives_of bs;
  clauses = clauses_of bs;
}

pub record Book : Type 0 where
  -- "bit 0 ignore case and use Fortran trivia"
  pub ignores_case : Bool
  -- "bit 1 optional blanks in directive names"
  pub optional_blanks : Bool
  -- "byte 6 the default clause rule"
  pub default : ClauseRule
  pub directives : List Entry
  pub clauses : List Entry

unfoldable pub book_of : List ℕ → Book
unfolding entries_from header_of
book_of bs = record {
  ignores_case = (header_of bs).ignores_case;
  optional_blanks = (header_of bs).optional_blanks;
  default = (header_of bs).default_rule;
  directives = entries_in (header_of bs).directives bs;
  clauses = entries_in (header_of bs).clauses bs;
}
