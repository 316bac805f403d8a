-- What is to hold of the directive's name. This is a statement; its proof is a theorem of this type.
use Rattle.std.specs.Prelude.{ℕ, ◌≡◌, List, map}
use Rattle.rulebook.specs.Book.{Book}
use Rattle.directive.specs.Name.{name_at}

-- `lex_name` asks a book for its flags and its directives' names alone, so that books which agree in these ("flags, default and directive
-- entries are the other's") find the same name.
abbrev pub NamesGoByDirectives : Type 0
NamesGoByDirectives = (b d : Book) → b.ignores_case ≡ d.ignores_case → b.optional_blanks ≡ d.optional_blanks
    → map (λ e. e.name) b.directives ≡ map (λ e. e.name) d.directives
    → (text : List ℕ) (at : ℕ) → name_at b text at ≡ name_at d text at
