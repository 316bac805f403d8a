-- The directive's name (`lex_name`): word by word, the longest candidate that is a name of the book.
use Prim.Native.Nat.{ℕ, zero, suc, ◌+◌, ◌-◌}
use Rattle.std.specs.Prelude.{Bool, true, false, ◌&&◌, ◌||◌, take, drop, eqb}
use Rattle.std.proofs.Math.Bool.{cond}
use Rattle.std.specs.Prelude.{Option, Some, None, Ok, Err}
use mathlib.Core.List.{List, [], ◌∷◌, ◌++◌}
use Rattle.std.proofs.Math.ListN.{length}
use Rattle.ascii.specs.Ascii.{is_word, is_space, fold}
use Rattle.ascii.specs.Text.{leading, same_by}
use Rattle.refusal.specs.Answer.{Answer, given, refused, refused_by}
use Rattle.lexer.specs.Trivia.{skip}
use Rattle.rulebook.specs.Book.{Entry, Book}
use Rattle.rulebook.specs.Lookup.{comparison, entry_from}
use Rattle.directive.specs.declared.DirectiveName.{DirectiveName}
use Rattle.directive.specs.declared.Named.{Named}

-- a name without its blanks
unfoldable pub compact : List ℕ → List ℕ
compact [] = []
compact (x ∷ xs) = cond (is_space x) (compact xs) (x ∷ compact xs)

-- `compact_name_eq`: the same name once blanks are taken out and case is ignored, in C too
abbrev pub same_compact : List ℕ → List ℕ → Bool
same_compact a b = same_by fold (compact a) (compact b)

-- the entries whose name has the property, counted from i
unfoldable pub entries_with : (List ℕ → Bool) → ℕ → List Entry → List ℕ
entries_with p i [] = []
entries_with p i (e ∷ es) = cond (p e.name) (i ∷ entries_with p (suc i) es) (entries_with p (suc i) es)

-- exactly one
abbrev pub only : List ℕ → Option ℕ
only [] = None
only (i ∷ []) = Some i
only (i ∷ j ∷ r) = None

-- the entry of a candidate: the name itself, or else, with "optional blanks in directive names", the one name that is equal without them
abbrev pub or_compact : Bool → Option ℕ → Option ℕ → Option ℕ
or_compact optional (Some i) other = Some i
or_compact true None other = other
or_compact false None other = None

unfoldable pub entry_of : Book → List ℕ → Option ℕ
unfolding entry_from compact entries_with same_by
entry_of book name =
    or_compact book.optional_blanks (entry_from (comparison book) 0 name book.directives)
    (only (entries_with (λ n. same_compact n name) 0 book.directives))

-- "prefixes as `register_prefixes` makes them": a candidate equals a name, or the words of the name before one of its blanks, by a comparison of texts
unfoldable pub head_from : (List ℕ → List ℕ → Bool) → List ℕ → List ℕ → List ℕ → Bool
head_from same done [] name = same done name
head_from same done (x ∷ xs) name = (eqb x 32 && same done name) || head_from same (done ++ (x ∷ [])) xs name

unfoldable pub is_head : (List ℕ → List ℕ → Bool) → List ℕ → List Entry → Bool
unfolding head_from
is_head same name [] = false
is_head same name (e ∷ es) = head_from same [] e.name name || is_head same name es

-- `has_matching_prefix`: a longer name may follow
unfoldable pub may_grow : Book → List ℕ → Bool
unfolding is_head same_by compact
may_grow book name =
    is_head (same_by (comparison book)) name book.directives || (book.optional_blanks && is_head same_compact name book.directives)

-- the last candidate that was a name: its entry and its end
abbrev pub latest : Option ℕ → ℕ → Option Named → Option Named
latest None end before = before
latest (Some i) end before = Some (record { entry = i; end = end })

-- the candidate with one word more, "one blank between them"
abbrev pub extended : List ℕ → List ℕ → List ℕ
extended [] word = word
extended (x ∷ xs) word = x ∷ xs ++ (32 ∷ word)

-- row 9, "no directive name, at its search's start"
abbrev pub or_missing : ℕ → Option Named → Answer Named
or_missing search None = refused 9 search
or_missing search (Some f) = given f

abbrev pub starts_word : List ℕ → Bool
starts_word [] = false
starts_word (y ∷ ys) = is_word y

-- the word that a text begins with
abbrev pub word_of : List ℕ → List ℕ
word_of xs = take (leading is_word xs) xs

module _ (book : Book) (text : List ℕ) (search : ℕ) where
  -- words from place at on, where xs is what is left of the text there, once k bytes are passed over; the candidate is the words before, and found
  -- the last that was a name. The trivia after each word is skipped before anything is decided (row 8), and a word is added only if one stands there and
  -- the candidate is a name or a beginning of one.
  unfoldable pub name_from : List ℕ → Option Named → ℕ → ℕ → List ℕ → Answer Named
  unfolding leading entry_of may_grow skip
  name_from candidate found zero at [] = or_missing search found
  name_from candidate found (suc k) at [] = or_missing search found
  name_from candidate found (suc k) at (x ∷ xs) = name_from candidate found k (suc at) xs
  name_from candidate found zero at (x ∷ xs) =
      let grown = extended candidate (word_of (x ∷ xs)) in
      let end = at + length (word_of (x ∷ xs)) in
      let now = latest (entry_of book grown) end found in
      cond (is_word x)
      (elim (skip book.ignores_case text end) [
        | Err r ↦ refused_by r
        | Ok p ↦ cond (starts_word (drop p text) && may_grow book grown) (name_from grown now (p - suc at) (suc at) xs) (or_missing search now)
      ])
      (or_missing search found)

abbrev pub named : ℕ → Answer Named → Answer DirectiveName
named start (given f) = given (record { entry = f.entry; start = start; end = f.end })
named start (refused n p) = refused n p

-- the name from a place of the text on, behind trivia
unfoldable pub name_at : Book → List ℕ → ℕ → Answer DirectiveName
unfolding name_from skip
name_at book text at =
    elim (skip book.ignores_case text at) [
      | Err r ↦ refused_by r
      | Ok p ↦ named p (name_from book text at [] None zero p (drop p text))
    ]
