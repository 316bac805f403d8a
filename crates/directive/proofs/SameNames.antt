-- The directive's name that is read depends on a book's flags and its directive entries' names alone.
-- Each look-up goes by names, so by induction over what is left of the text. Assumes nothing.
use Prim.Native.Nat.{ℕ, zero, suc, ◌+◌}
use mathlib.Core.Bool.{Bool}
use Rattle.std.specs.Prelude.{Option, Result, Ok, Err}
use mathlib.Core.Path.{◌≡◌, refl}
use mathlib.Core.List.{List, [], ◌∷◌}
use lib.ListN.{length}
use Rattle.ascii.specs.Text.{same_by}
use Rattle.refusal.specs.declared.Refusal.{Refusal}
use Rattle.lexer.specs.Trivia.{skip}
use Rattle.rulebook.specs.Book.{Entry, Book}
use Rattle.rulebook.specs.Lookup.{comparison}
use Rattle.rulebook.proofs.Appended.{named, names_of, entry_from-same}
use Rattle.directive.specs.declared.Named.{Named}
use Rattle.directive.specs.Name.{same_compact, entries_with, entry_of, is_head, may_grow, word_of, name_from, name_at}
use Rattle.directive.specs.Laws.{NamesGoByDirectives}

entries_with-named : (p : List ℕ → Bool) (i : ℕ) (es : List Entry) → entries_with p i es ≡ entries_with p i (named (names_of es))
unfolding entries_with
entries_with-named p i [] = refl
entries_with-named p i (e ∷ es) = rw (entries_with-named p (suc i) es)

is_head-named : (same : List ℕ → List ℕ → Bool) (name : List ℕ) (es : List Entry) → is_head same name es ≡ is_head same name (named (names_of es))
unfolding is_head
is_head-named same name [] = refl
is_head-named same name (e ∷ es) = rw (is_head-named same name es)

-- equal names give equal answers
module _ (es ds : List Entry) (same : names_of es ≡ names_of ds) where
  pub entries_with-same : (p : List ℕ → Bool) (i : ℕ) → entries_with p i es ≡ entries_with p i ds
  entries_with-same p i = rw (entries_with-named p i es, entries_with-named p i ds, same)

  pub is_head-same : (by : List ℕ → List ℕ → Bool) (name : List ℕ) → is_head by name es ≡ is_head by name ds
  is_head-same by name = rw (is_head-named by name es, is_head-named by name ds, same)

module _ (b d : Book) (case : b.ignores_case ≡ d.ignores_case) (blanks : b.optional_blanks ≡ d.optional_blanks)
    (names : names_of b.directives ≡ names_of d.directives) where
  entry_of-same : (name : List ℕ) → entry_of b name ≡ entry_of d name
  unfolding entry_of
  entry_of-same name = rw (case, blanks, entry_from-same b.directives d.directives names, entries_with-same b.directives d.directives names)

  may_grow-same : (name : List ℕ) → may_grow b name ≡ may_grow d name
  unfolding may_grow
  may_grow-same name =
      let same = is_head-same b.directives d.directives names in
      rw (case, blanks, same (same_by (comparison d)) name, same same_compact name)

  name_from-same : (text : List ℕ) (search : ℕ) (candidate : List ℕ) (found : Option Named) (k at : ℕ) (xs : List ℕ)
      → name_from b text search candidate found k at xs ≡ name_from d text search candidate found k at xs
  unfolding name_from
  name_from-same text search candidate found zero at [] = refl
  name_from-same text search candidate found (suc k) at [] = refl
  name_from-same text search candidate found (suc k) at (x ∷ xs) = name_from-same text search candidate found k (suc at) xs
  name_from-same text search candidate found zero at (x ∷ xs) =
      go (skip d.ignores_case text (at + length (word_of (x ∷ xs)))) refl (λ c f k i. name_from-same text search c f k i xs)
    where
      go : (s : Result ℕ Refusal) → skip d.ignores_case text (at + length (word_of (x ∷ xs))) ≡ s
          → ((c : List ℕ) (f : Option Named) (k i : ℕ) → name_from b text search c f k i xs ≡ name_from d text search c f k i xs)
          → name_from b text search candidate found zero at (x ∷ xs) ≡ name_from d text search candidate found zero at (x ∷ xs)
      go (Ok p) e ih = rw (case, e, entry_of-same, may_grow-same, ih)
      go (Err r) e ih = rw (case, e)

pub names-go-by-directives : NamesGoByDirectives
unfolding name_at
names-go-by-directives b d case blanks names text at = go (skip d.ignores_case text at) refl
  where
    go : (s : Result ℕ Refusal) → skip d.ignores_case text at ≡ s → name_at b text at ≡ name_at d text at
    go (Ok p) e = rw (name_at, case, e, name_from-same b d case blanks names)
    go (Err r) e = rw (name_at, case, e)
