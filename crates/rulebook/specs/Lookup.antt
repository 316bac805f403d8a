-- Looking a name up in a book, and books with clause names appended.
use Rattle.std.specs.Prelude.{ℕ, zero, suc, cond, ◌≡◌, List, [], ◌∷◌, ◌++◌, map}
use Rattle.std.specs.Prelude.{Option, Some, None}
use Rattle.ascii.specs.Text.{same_by, comparing}
use Rattle.bookform.specs.declared.ClauseRule.{ClauseRule}
use Rattle.rulebook.specs.declared.ClauseEntry.{ClauseEntry}
use Rattle.rulebook.specs.declared.index.FoundEntry.{FoundEntry}
use Rattle.rulebook.specs.Book.{Entry, Book}

-- how names compare under a book: "bit 0 ignore case"
abbrev pub comparison : Book → ℕ → ℕ
comparison book = comparing book.ignores_case

-- the index of the first entry with a name, counted from i ("`HashMap`: the book in order; the names are distinct, so the answer is equal")
unfoldable pub entry_from : (ℕ → ℕ) → ℕ → List ℕ → List Entry → Option ℕ
unfolding same_by
entry_from f i name [] = None
entry_from f i name (e ∷ es) = cond (same_by f e.name name) (Some i) (entry_from f (suc i) name es)

-- the same entry with its place
unfoldable pub find_from : (ℕ → ℕ) → ℕ → List ℕ → List Entry → Option FoundEntry
unfolding same_by
find_from f i name [] = None
find_from f i name (e ∷ es) = cond (same_by f e.name name) (Some (record { index = i; at = e.at })) (find_from f (suc i) name es)

-- the rule of the entry with an index
unfoldable pub rule_at : ClauseRule → ℕ → List Entry → ClauseRule
rule_at default zero [] = default
rule_at default (suc i) [] = default
rule_at default zero (e ∷ es) = e.rule
rule_at default (suc i) (e ∷ es) = rule_at default i es

-- the rule of a clause: its entry's, or else the default
abbrev pub rule_or : ClauseRule → Option ℕ → List Entry → ClauseRule
rule_or default None es = default
rule_or default (Some i) es = rule_at default i es

-- the entry of a clause's name and its rule
unfoldable pub clause_entry : Book → List ℕ → ClauseEntry
unfolding entry_from rule_at
clause_entry book name = record {
  index = entry_from (comparison book) 0 name book.clauses;
  rule = rule_or book.default (entry_from (comparison book) 0 name book.clauses) book.clauses;
}

-- "A book has clause names only appended to another's if flags, default and directive entries are the other's and its clause entries
-- begin with all of the other's, in order." Entries agree in name and rule; their places in the two files differ.
pub record IsAppended (short long : Book) : Type 0 where
  pub same_case : long.ignores_case ≡ short.ignores_case
  pub same_blanks : long.optional_blanks ≡ short.optional_blanks
  pub same_default : long.default ≡ short.default
  pub same_directives : map (λ e. e.name) long.directives ≡ map (λ e. e.name) short.directives
  pub more : List Entry
  pub same_names : map (λ e. e.name) long.clauses ≡ map (λ e. e.name) short.clauses ++ map (λ e. e.name) more
  pub same_rules : map (λ e. e.rule) long.clauses ≡ map (λ e. e.rule) short.clauses ++ map (λ e. e.rule) more
