-- The names that a candidate agrees with, over the list of a book's names: the only one, by where the first stands and whether another follows it; and
-- any of them. By induction over the names. Assumes nothing.
use Rattle.std.proofs.Common.{ℕ, suc, ◌<◌, ◌≡◌, refl, Bool, true, false, cond, ◌&&◌, ◌||◌, List, [], ◌∷◌, ◌++◌, map, length, ap, sym, ◌∙◌, append_assoc, arith}
use mathlib.Core.Bool.{or-false}
use lib.ListN.{length-map}
use Rattle.std.specs.Prelude.{Option, Some, None, is_some}
use Rattle.std.specs.List.{list_any}
use Rattle.ascii.specs.Text.{same_by, comparing}
use Rattle.rulebook.specs.Book.{Entry, Book}
use Rattle.rulebook.specs.Lookup.{comparison, entry_from}
use Rattle.directive.specs.Name.{same_compact, entries_with, only, entry_of, head_from, is_head, may_grow}
use Rattle.directive.specs.declared.foreseen.Tally.{Tally}
use Rattle.directive.specs.declared.foreseen.Tally.TheVariants.{Zero, Many}
use Rattle.directive.specs.Steps.{Sought, Unbegun, Left, tally, one_more, only_one}

abbrev pub names_of : List Entry → List (List ℕ)
names_of es = map (λ e. e.name) es

pub length-names : (es : List Entry) → length (names_of es) ≡ length es
length-names es = length-map es (λ e. e.name)

module _ (p : List ℕ → Bool) where
  -- the places of the names with the property, counted from i
  unfoldable pub places : ℕ → List (List ℕ) → List ℕ
  places i [] = []
  places i (n ∷ ns) = cond (p n) (i ∷ places (suc i) ns) (places (suc i) ns)

  pub entries-places : (i : ℕ) (es : List Entry) → entries_with p i es ≡ places i (names_of es)
  unfolding entries_with places
  entries-places i [] = refl
  entries-places i (e ∷ es) = rw (entries-places (suc i) es)

  -- a name more is counted where it has the property
  pub tally-place : (before : Tally) (i : ℕ) (n : List ℕ) (ns : List (List ℕ)) → tally before (places i (n ∷ ns)) ≡ tally (cond (p n) (one_more before i) before) (places (suc i) ns)
  unfolding places
  tally-place before i n ns = go (p n)
    where
      go : (b : Bool) → tally before (cond b (i ∷ places (suc i) ns) (places (suc i) ns)) ≡ tally (cond b (one_more before i) before) (places (suc i) ns)
      go true = refl
      go false = refl

  pub tally-end : (before : Tally) (i : ℕ) → tally before (places i []) ≡ before
  unfolding places
  tally-end before i = refl

-- the only one of those that are counted
tally-many : (is : List ℕ) → tally Many is ≡ Many
tally-many [] = refl
tally-many (i ∷ is) = tally-many is

pub tally-only : (is : List ℕ) → only_one (tally Zero is) ≡ only is
tally-only [] = refl
tally-only (i ∷ []) = refl
tally-only (i ∷ j ∷ is) = rw (tally-many is)

-- any: a beginning of one of the names
pub any_head : (same : List ℕ → List ℕ → Bool) (c : List ℕ) (es : List Entry) → is_head same c es ≡ list_any (λ n. head_from same [] n c) (names_of es)
unfolding is_head
any_head same c [] = refl
any_head same c (e ∷ es) = rw (any_head same c es)

-- the questions that a book answers, in these terms
module _ (book : Book) (c : List ℕ) (r : Option ℕ) (e : r ≡ entry_from (comparison book) 0 c book.directives) where
  pub entry-named : is_some r ≡ true → r ≡ entry_of book c
  unfolding entry_of
  entry-named h = go r h e
    where
      go : (o : Option ℕ) → is_some o ≡ true → o ≡ entry_from (comparison book) 0 c book.directives → o ≡ entry_of book c
      go (Some i) h q = rw (← q)
      go None h q = cc

  pub entry-strict : is_some r ≡ false → book.optional_blanks ≡ false → r ≡ entry_of book c
  unfolding entry_of
  entry-strict h b = go r h e
    where
      go : (o : Option ℕ) → is_some o ≡ false → o ≡ entry_from (comparison book) 0 c book.directives → o ≡ entry_of book c
      go (Some i) h q = cc
      go None h q = rw (← q, b)

  pub entry-else : is_some r ≡ false → book.optional_blanks ≡ true → only (entries_with (λ n. same_compact n c) 0 book.directives) ≡ entry_of book c
  unfolding entry_of
  entry-else h b = go r h e
    where
      go : (o : Option ℕ) → is_some o ≡ false → o ≡ entry_from (comparison book) 0 c book.directives
          → only (entries_with (λ n. same_compact n c) 0 book.directives) ≡ entry_of book c
      go (Some i) h q = cc
      go None h q = rw (← q, b)

pub grow-any : (book : Book) (c : List ℕ) (b o : Bool) → book.ignores_case ≡ b → book.optional_blanks ≡ o
    → may_grow book c
    ≡ (list_any (λ n. head_from (same_by (comparing b)) [] n c) (names_of book.directives)
    || (o && list_any (λ n. head_from same_compact [] n c) (names_of book.directives)))
unfolding may_grow
grow-any book c b o e f =
    rw (any_head (same_by (comparison book)) c book.directives, any_head same_compact c book.directives, e, f)

-- the same where blanks are not optional
pub grow-exact : (book : Book) (c : List ℕ) (b : Bool) → book.ignores_case ≡ b → book.optional_blanks ≡ false
    → may_grow book c ≡ list_any (λ n. head_from (same_by (comparing b)) [] n c) (names_of book.directives)
grow-exact book c b e f = grow-any book c b false e f ∙ or-false (list_any (λ n. head_from (same_by (comparing b)) [] n c) (names_of book.directives))

-- names that are passed in order, as one by one they have not a property
module _ (test : List ℕ → Bool) where
  abbrev pub PassedTo : List (List ℕ) → List (List ℕ) → Type 0
  PassedTo before after = (passed : List (List ℕ)) × (before ≡ passed ++ after) × (list_any test passed ≡ false)

  pub any-append : (xs ys : List (List ℕ)) → list_any test (xs ++ ys) ≡ (list_any test xs || list_any test ys)
  any-append [] ys = refl
  any-append (x ∷ xs) ys = rw (any-append xs ys) (go (test x))
    where
      go : (b : Bool) → (b || (list_any test xs || list_any test ys)) ≡ ((b || list_any test xs) || list_any test ys)
      go true = refl
      go false = refl

  pub pass-one : (before rest : List (List ℕ)) (n : List ℕ) → PassedTo before (n ∷ rest) → test n ≡ false → PassedTo before rest
  pass-one before rest n (passed, e, h) t =
      (passed ++ (n ∷ []), e ∙ sym (append_assoc passed (n ∷ []) rest), rw (any-append passed (n ∷ []), h, t))

  -- the search is over at a name that has it, or where no name is left
  pub sought-here : (before rest : List (List ℕ)) (n : List ℕ) → PassedTo before (n ∷ rest) → test n ≡ true → Sought test before (n ∷ rest) true
  sought-here before rest n (passed, e, h) t = (passed, e, h, rw t)

  pub sought-end : (before rest none : List (List ℕ)) (n : List ℕ) → PassedTo before (n ∷ rest) → test n ≡ false → rest ≡ [] → none ≡ [] → Sought test before (n ∷ none) false
  sought-end before rest none n (passed, e, h) t r m = (passed, e ∙ ap (λ (l : List (List ℕ)). passed ++ (n ∷ l)) (r ∙ sym m), h, rw (t, m))

  -- what all of them say is what those that are left say
  pub passed-any : (before after : List (List ℕ)) → PassedTo before after → list_any test before ≡ list_any test after
  passed-any before after (passed, e, h) = rw (e, any-append passed after, h)

-- what was sought among those that are left is so of all names of the book
module _ (b : Bool) (c : List ℕ) where
  abbrev begun : List ℕ → Bool
  begun n = head_from (same_by (comparing b)) [] n c

  none-passed : (p q : List (List ℕ)) → 0 < length c → Unbegun b c p → list_any begun q ≡ false → Unbegun b c (p ++ q)
  none-passed p q some = go c some
    where
      go : (d : List ℕ) → 0 < length d → Unbegun b d p → list_any (λ n. head_from (same_by (comparing b)) [] n d) q ≡ false → Unbegun b d (p ++ q)
      go [] l g h = absurd (omega arith)
      go (x ∷ xs) l g h = rw (any-append (λ n. head_from (same_by (comparing b)) [] n (x ∷ xs)) p q, g, h)

  passed-none : (p : List (List ℕ)) → 0 < length c → Unbegun b c p → list_any begun p ≡ false
  passed-none p some = go c some
    where
      go : (d : List ℕ) → 0 < length d → Unbegun b d p → list_any (λ n. head_from (same_by (comparing b)) [] n d) p ≡ false
      go [] l g = absurd (omega arith)
      go (x ∷ xs) l g = g

  empty-none : 0 < length c → begun [] ≡ false
  unfolding head_from same_by
  empty-none some = go c some
    where
      go : (d : List ℕ) → 0 < length d → same_by (comparing b) [] d ≡ false
      go [] l = absurd (omega arith)
      go (x ∷ xs) l = refl

module _ (book : Book) (c : List ℕ) (b : Bool) (case : book.ignores_case ≡ b) (some : 0 < length c) {before after : List (List ℕ)} {found : Bool} where
  pub sought-left : Left book c before → Sought (λ n. head_from (same_by (comparing b)) [] n c) before after found → Left book c after
  sought-left (p, e, g) (q, f, h, r) =
      (p ++ q, e ∙ ap (λ (l : List (List ℕ)). p ++ l) f ∙ sym (append_assoc p q after), rw case (none-passed b c p q some (rw case at g) h))

  pub sought-exact : Left book c before → Sought (λ n. head_from (same_by (comparing b)) [] n c) before after found
      → found ≡ list_any (λ n. head_from (same_by (comparing b)) [] n c) (names_of book.directives)
  sought-exact (p, e, g) (q, f, h, r) =
      let parts : list_any (begun b c) (p ++ (q ++ after)) ≡ list_any (begun b c) after =
      rw (any-append (begun b c) p (q ++ after), any-append (begun b c) q after, passed-none b c p some (rw case at g), h) in
      let all : list_any (begun b c) ([] ∷ names_of book.directives) ≡ list_any (begun b c) after =
      ap (list_any (begun b c)) (e ∙ ap (λ (l : List (List ℕ)). p ++ l) f) ∙ parts in
      r ∙ sym (rw (empty-none b c some) at all)
