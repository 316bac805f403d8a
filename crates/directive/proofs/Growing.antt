-- A candidate that is a name may grow: it is one of its own beginnings. So the entry that was found answers the question.
-- By induction over the name and over the entries. Assumes nothing.
use Prim.Native.Nat.{ℕ, suc}
use mathlib.Core.Bool.{Bool, true, false, cond, ◌&&◌, ◌||◌, or-true}
use Rattle.std.specs.Prelude.{Option, Some, None}
use mathlib.Core.Path.{◌≡◌, refl}
use mathlib.Core.List.{List, [], ◌∷◌, ◌++◌, append_assoc, append-nil}
use lib.Dec.{eqb}
use Rattle.ascii.specs.Text.{same_by}
use Rattle.rulebook.specs.Book.{Entry, Book}
use Rattle.rulebook.specs.Lookup.{comparison, entry_from}
use Rattle.directive.specs.Name.{same_compact, entries_with, only, or_compact, entry_of, head_from, is_head, may_grow}

module _ (same : List ℕ → List ℕ → Bool) (c : List ℕ) where
  -- the whole name is its last beginning
  whole : (done xs : List ℕ) → same (done ++ xs) c ≡ true → head_from same done xs c ≡ true
  unfolding head_from
  whole done [] e = rw (append-nil done) at e
  whole done (x ∷ xs) e = rw (whole (done ++ (x ∷ [])) xs (rw (append_assoc done (x ∷ []) xs) e)) (or-true (eqb x 32 && same done c))

  here : (e : Entry) (es : List Entry) → same e.name c ≡ true → is_head same c (e ∷ es) ≡ true
  unfolding is_head
  here e es h = rw (whole [] e.name h)

  later : (e : Entry) (es : List Entry) → is_head same c es ≡ true → is_head same c (e ∷ es) ≡ true
  unfolding is_head
  later e es h = rw h (or-true (head_from same [] e.name c))

-- by the first of the entries
exact : (f : ℕ → ℕ) (c : List ℕ) (i k : ℕ) (es : List Entry) → entry_from f i c es ≡ Some k → is_head (same_by f) c es ≡ true
unfolding entry_from
exact f c i k [] e = cc
exact f c i k (x ∷ es) e = go (exact f c (suc i) k es) (same_by f x.name c) refl e
  where
    go : (entry_from f (suc i) c es ≡ Some k → is_head (same_by f) c es ≡ true) → (b : Bool) → same_by f x.name c ≡ b → cond b (Some i) (entry_from f (suc i) c es) ≡ Some k → is_head (same_by f) c (x ∷ es) ≡ true
    go again true h e = here (same_by f) c x es h
    go again false h e = later (same_by f) c x es (again e)

compactly : (c : List ℕ) (i k : ℕ) (es : List Entry) → only (entries_with (λ n. same_compact n c) i es) ≡ Some k → is_head same_compact c es ≡ true
unfolding entries_with
compactly c i k [] e = cc
compactly c i k (x ∷ es) e = go (compactly c (suc i) k es) (same_compact x.name c) refl e
  where
    go : (only (entries_with (λ n. same_compact n c) (suc i) es) ≡ Some k → is_head same_compact c es ≡ true) → (b : Bool) → same_compact x.name c ≡ b → only (cond b (i ∷ entries_with (λ n. same_compact n c) (suc i) es) (entries_with (λ n. same_compact n c) (suc i) es)) ≡ Some k
        → is_head same_compact c (x ∷ es) ≡ true
    go again true h e = here same_compact c x es h
    go again false h e = later same_compact c x es (again e)

either : (optional : Bool) (a b : Option ℕ) (p q : Bool) (k : ℕ) → ((i : ℕ) → a ≡ Some i → p ≡ true) → ((i : ℕ) → b ≡ Some i → q ≡ true)
    → or_compact optional a b ≡ Some k → (p || (optional && q)) ≡ true
either optional (Some i) b p q k f g e = rw (f i refl)
either true None b p q k f g e = rw (g k e) (or-true p)
either false None b p q k f g e = cc

pub named-grows : (book : Book) (c : List ℕ) (k : ℕ) → entry_of book c ≡ Some k → may_grow book c ≡ true
unfolding entry_of may_grow
named-grows book c k e =
    either book.optional_blanks (entry_from (comparison book) 0 c book.directives) (only (entries_with (λ n. same_compact n c) 0 book.directives))
    (is_head (same_by (comparison book)) c book.directives) (is_head same_compact c book.directives) k
    (λ i. exact (comparison book) c 0 i book.directives) (λ i. compactly c 0 i book.directives) e
