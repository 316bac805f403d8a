-- Where blanks are optional, comparing without them is enough: a candidate that begins a name as it stands begins it without blanks too.
-- By induction over the names and their bytes. Assumes nothing.
use mathlib.Core.Path.{◌≡◌, refl, sym, ap, ◌∙◌}
use mathlib.Core.Bool.{Bool, true, false, cond, ◌&&◌, ◌||◌, or-true}
use mathlib.Core.List.{List, [], ◌∷◌, ◌++◌}
use Prim.Native.Nat.{ℕ, ◌+◌}
use native.Mathlib.Omega.{arith}
use lib.Dec.{eqb, leb}
use borrow.Author.Tests.{eqb-true, eq-eqb, leb-true}
use Rattle.std.specs.List.{list_any}
use Rattle.ascii.specs.Ascii.{is_space, is_upper, fold}
use Rattle.ascii.specs.Text.{same_by, comparing}
use Rattle.ascii.proofs.Flags.{by_cases, and_left, and_right}
use Rattle.rulebook.specs.Book.{Book}
use Rattle.directive.specs.Name.{compact, same_compact, head_from, may_grow}
use Rattle.directive.proofs.Long.{past-blanks}
use Rattle.directive.proofs.Tallying.{names_of, grow-any}

-- bytes that are equal with case ignored are both blanks or both none
fold-high : (x : ℕ) → is_upper x ≡ true → (is_space x ≡ false) × (is_space (x + 32) ≡ false)
fold-high x u =
    let l = leb-true 65 x (and_left (leb 65 x) (leb x 90) u) in
    (past-blanks x (omega arith), past-blanks (x + 32) (omega arith))

pub fold-space : (x y : ℕ) → eqb (fold x) (fold y) ≡ true → is_space x ≡ is_space y
fold-space x y e =
    by_cases (is_upper x)
    (λ u. by_cases (is_upper y)
    (λ v. (fold-high x u).0 ∙ sym (fold-high y v).0)
    (λ v. let q : x + 32 ≡ y = rw (u, v) at (eqb-true (fold x) (fold y) e) in (fold-high x u).0 ∙ sym (fold-high x u).1 ∙ ap is_space q))
    (λ u. by_cases (is_upper y)
    (λ v. let q : x ≡ y + 32 = rw (u, v) at (eqb-true (fold x) (fold y) e) in ap is_space q ∙ (fold-high y v).1 ∙ sym (fold-high y v).0)
    (λ v. let q : x ≡ y = rw (u, v) at (eqb-true (fold x) (fold y) e) in ap is_space q))

folded : (b : Bool) (x y : ℕ) → eqb (comparing b x) (comparing b y) ≡ true → eqb (fold x) (fold y) ≡ true
folded true x y e = e
folded false x y e = let q : x ≡ y = eqb-true x y e in rw q (eq-eqb (fold y) (fold y) refl)

same-squeezed : (b : Bool) (a c : List ℕ) → same_by (comparing b) a c ≡ true → same_compact a c ≡ true
unfolding same_by compact
same-squeezed b [] [] e = refl
same-squeezed b [] (y ∷ ys) e = cc
same-squeezed b (x ∷ xs) [] e = cc
same-squeezed b (x ∷ xs) (y ∷ ys) e =
    let f = folded b x y (and_left (eqb (comparing b x) (comparing b y)) (same_by (comparing b) xs ys) e) in
    let r = same-squeezed b xs ys (and_right (eqb (comparing b x) (comparing b y)) (same_by (comparing b) xs ys) e) in
    rw (fold-space x y f) (go (is_space y) f r)
  where
    go : (s : Bool) → eqb (fold x) (fold y) ≡ true → same_by fold (compact xs) (compact ys) ≡ true
        → same_by fold (cond s (compact xs) (x ∷ compact xs)) (cond s (compact ys) (y ∷ compact ys)) ≡ true
    go true f r = r
    go false f r = rw (f, r)

-- what a comparison says of a name, a weaker one says too
or-weaker : (p q r s : Bool) → (p ≡ true → q ≡ true) → (r ≡ true → s ≡ true) → (p || r) ≡ true → (q || s) ≡ true
or-weaker true q r s f g e = rw (f refl)
or-weaker false q r s f g e = rw (g e) (or-true q)

module _ (same other : List ℕ → List ℕ → Bool) (c : List ℕ) (weaker : (a : List ℕ) → same a c ≡ true → other a c ≡ true) where
  head-weaker : (done name : List ℕ) → head_from same done name c ≡ true → head_from other done name c ≡ true
  unfolding head_from
  head-weaker done [] e = weaker done e
  head-weaker done (x ∷ xs) e =
      or-weaker (eqb x 32 && same done c) (eqb x 32 && other done c) (head_from same (done ++ (x ∷ [])) xs c) (head_from other (done ++ (x ∷ [])) xs c)
      (blank (eqb x 32)) (head-weaker (done ++ (x ∷ [])) xs) e
    where
      blank : (b : Bool) → (b && same done c) ≡ true → (b && other done c) ≡ true
      blank true h = weaker done h
      blank false h = h

  any-weaker : (names : List (List ℕ)) → list_any (λ n. head_from same [] n c) names ≡ true → list_any (λ n. head_from other [] n c) names ≡ true
  any-weaker [] e = e
  any-weaker (n ∷ ns) e =
      or-weaker (head_from same [] n c) (head_from other [] n c) (list_any (λ n. head_from same [] n c) ns) (list_any (λ n. head_from other [] n c) ns)
      (head-weaker [] n) (any-weaker ns) e

pub grow-compact : (book : Book) (c : List ℕ) → book.optional_blanks ≡ true → may_grow book c ≡ list_any (λ n. head_from same_compact [] n c) (names_of book.directives)
grow-compact book c o =
    grow-any book c book.ignores_case true refl o
    ∙ go (list_any (λ n. head_from (same_by (comparing book.ignores_case)) [] n c) (names_of book.directives))
    (list_any (λ n. head_from same_compact [] n c) (names_of book.directives))
    (any-weaker (same_by (comparing book.ignores_case)) same_compact c (λ a. same-squeezed book.ignores_case a c) (names_of book.directives))
  where
    go : (a b : Bool) → (a ≡ true → b ≡ true) → (a || (true && b)) ≡ b
    go true b f = sym (f refl)
    go false b f = refl
