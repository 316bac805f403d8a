-- A candidate of more than 128 bytes is no name of a book and begins none: a name has at most 64 bytes, as the form says, and a candidate
-- has no more blanks than other bytes. So what is said of the candidate that a buffer keeps holds of every candidate. Assumes nothing.
use mathlib.Core.Path.{◌≡◌, refl, sym, ap, ◌∙◌}
use mathlib.Core.Bool.{Bool, true, false, cond, ◌&&◌, ◌||◌, true≢false}
use Rattle.std.specs.Prelude.{None, Result, Ok, Err, is_err}
use mathlib.Core.List.{List, [], ◌∷◌, ◌++◌}
use Prim.Native.Nat.{ℕ, zero, suc, ◌+◌, ◌-◌, ◌*◌, ◌<◌, ◌≤◌}
use native.Mathlib.Omega.{arith}
use lib.ListN.{length, take, drop, get_or, length-append, length-take}
use lib.Seq.{drop-drop, get_or-drop, drop-append_seam}
use lib.Dec.{eqb, leb}
use borrow.Author.Tests.{le-leb, lt-leb, ne_eqb, leb-true, leb-false}
use Rattle.ascii.specs.Ascii.{is_space, is_word, fold}
use Rattle.ascii.specs.Text.{leading, same_by}
use Rattle.ascii.proofs.Flags.{by_cases}
use Rattle.ascii.proofs.Texts.{leading_le}
use Rattle.bookform.specs.Format.{HasForm}
use Rattle.bookform.specs.Grammar.{Entries, clauses, directive, IsBook}
use Rattle.bookform.proofs.Grammars.{form-is-book}
use Rattle.rulebook.specs.Book.{Entry, Book, entries_from, header_of, book_of}
use Rattle.rulebook.specs.Lookup.{comparison, entry_from}
use Rattle.rulebook.proofs.NameLaws.{same-lengths}
use Rattle.directive.specs.Name.{compact, same_compact, entries_with, or_compact, entry_of, head_from, is_head, may_grow, extended}
use Rattle.directive.specs.declared.candidate.Full.{Full}
use Rattle.directive.specs.Steps.{fitting, kept_if}

-- a candidate that does not fit is too long, and one that does is what it should be
pub fits-none : (c grown : List ℕ) (r : Result (Unit {0}) Full) → is_err r ≡ true → kept_if r c ≡ fitting grown → 128 < length grown
fits-none c grown (Ok done) h k = absurd (cc)
fits-none c grown (Err full) h k =
    by_cases (leb (length grown) 128)
    (λ m. let f = rw m at k in cc f)
    (λ m. leb-false (length grown) 128 m)

pub fits-some : (c grown : List ℕ) (r : Result (Unit {0}) Full) → is_err r ≡ false → kept_if r c ≡ fitting grown → c ≡ grown
fits-some c grown (Err full) h k = absurd (cc)
fits-some c grown (Ok done) h k =
    by_cases (leb (length grown) 128)
    (λ m. let f = rw m at k in cc f)
    (λ m. let f = rw m at k in cc f)

-- a byte above the blanks, as one of a word
pub past-blanks : (x : ℕ) → 32 < x → is_space x ≡ false
past-blanks x l = simp (le-leb 9 x (omega arith), lt-leb x 13 (omega arith), ne_eqb x 32 (omega arith))

word-solid : (x : ℕ) → is_word x ≡ true → is_space x ≡ false
word-solid x h =
    by_cases (leb x 32)
    (λ e. let l = leb-true x 32 e in
    let n : is_word x ≡ false = simp (lt-leb 48 x (omega arith), lt-leb 65 x (omega arith), lt-leb 97 x (omega arith), ne_eqb x 95 (omega arith)) in
    absurd (true≢false (sym h ∙ n)))
    (λ e. past-blanks x (leb-false x 32 e))

-- blanks taken out
pub compact-le : (xs : List ℕ) → length (compact xs) ≤ length xs
unfolding compact
compact-le [] = omega arith
compact-le (x ∷ xs) = go (is_space x) (compact-le xs)
  where
    go : (b : Bool) → length (compact xs) ≤ length xs → length (cond b (compact xs) (x ∷ compact xs)) ≤ suc (length xs)
    go true h = omega arith
    go false h = omega arith

pub compact-append : (xs ys : List ℕ) → compact (xs ++ ys) ≡ compact xs ++ compact ys
unfolding compact
compact-append [] ys = refl
compact-append (x ∷ xs) ys = go (is_space x) (compact-append xs ys)
  where
    go : (b : Bool) → compact (xs ++ ys) ≡ compact xs ++ compact ys
        → cond b (compact (xs ++ ys)) (x ∷ compact (xs ++ ys)) ≡ cond b (compact xs) (x ∷ compact xs) ++ compact ys
    go true h = h
    go false h = rw h

pub compact-word : (xs : List ℕ) → compact (take (leading is_word xs) xs) ≡ take (leading is_word xs) xs
unfolding compact leading
compact-word [] = refl
compact-word (x ∷ xs) = go (is_word x) refl (compact-word xs)
  where
    go : (b : Bool) → is_word x ≡ b → compact (take (leading is_word xs) xs) ≡ take (leading is_word xs) xs
        → compact (take (cond b (suc (leading is_word xs)) 0) (x ∷ xs)) ≡ take (cond b (suc (leading is_word xs)) 0) (x ∷ xs)
    go true e h = rw (word-solid x e, h)
    go false e h = refl

-- the word at a place of a text
pub compact-word-at : (s : List ℕ) (i end : ℕ) → end ≡ i + leading is_word (drop i s) → compact (take (end - i) (drop i s)) ≡ take (end - i) (drop i s)
compact-word-at s i end e = let q : end - i ≡ leading is_word (drop i s) = omega (arith, e) in rw q (compact-word (drop i s))

-- no more blanks than other bytes
abbrev pub Spaced : List ℕ → Type 0
Spaced c = length c ≤ 2 * length (compact c)

spaced-add : (c w : List ℕ) → Spaced c → compact w ≡ w → 0 < length w → Spaced (extended c w)
unfolding compact
spaced-add [] w s e h = rw e (omega arith)
spaced-add (x ∷ xs) w s e h =
    let q : compact ((x ∷ xs) ++ (32 ∷ w)) ≡ compact (x ∷ xs) ++ w = compact-append (x ∷ xs) (32 ∷ w) ∙ rw e in
    let l = length-append (compact (x ∷ xs)) w in
    let m = length-append (x ∷ xs) (32 ∷ w) in
    let k : length ((x ∷ xs) ++ (32 ∷ w)) ≤ 2 * length (compact ((x ∷ xs) ++ (32 ∷ w))) = rw q (omega (arith, s)) in
    k

pub spaced-grown : (c xs : List ℕ) → Spaced c → 0 < leading is_word xs → Spaced (extended c (take (leading is_word xs) xs))
spaced-grown c xs s h = spaced-add c (take (leading is_word xs) xs) s (compact-word xs) (simp length-take (omega (arith, leading_le is_word xs)))

-- names of at most 64 bytes
unfoldable pub Short : List Entry → Type 0
Short [] = Unit {0}
Short (e ∷ es) = (length e.name ≤ 64) × Short es

-- "a length byte 1 to 64", entry by entry
short-entries : (bs : List ℕ) (d c at : ℕ) (xs : List ℕ) → drop at bs ≡ xs → Entries d c xs → Short (entries_from 0 d at bs)
unfolding Short entries_from
short-entries bs zero c at xs e (clauses c' xs' cs) = tt
short-entries bs (suc d) c at xs e (directive d' c' name more w l es) =
    let b : get_or bs (at + 0) 0 ≡ length name = sym (get_or-drop at bs 0 0) ∙ rw e in
    let q : at + 0 + 1 + length name ≡ at + suc (length name) = omega arith in
    let r : drop (at + 0 + 1 + length name) bs ≡ more = rw (q, ← drop-drop (suc (length name)) at bs, e) (drop-append_seam name more) in
    let n : length (take (at + 0 + 1 + length name - (at + 0 + 1)) (drop (at + 0 + 1) bs)) ≤ 64 = simp length-take (omega (arith, l)) in
    rw b (n, short-entries bs d c (at + 0 + 1 + length name) more r es)

short-form : (bs : List ℕ) → IsBook bs → Short (book_of bs).directives
unfolding book_of header_of
short-form bs b =
    let d : get_or bs 7 0 ≡ b.d = ap (λ (l : List ℕ). get_or l 7 0) b.is in
    let f : drop 9 bs ≡ b.entries = ap (λ (l : List ℕ). drop 9 l) b.is in
    rw d (short-entries bs b.d b.c 9 b.entries f b.follow)

pub short-book : (bs : List ℕ) → HasForm bs → Short (book_of bs).directives
short-book bs h = short-form bs ((form-is-book bs).0 h)

-- by a comparison that a name never passes
module _ (same : List ℕ → List ℕ → Bool) (c : List ℕ) (far : (a : List ℕ) → length a ≤ 64 → same a c ≡ false) where
  head-far : (done name : List ℕ) → length done + length name ≤ 64 → head_from same done name c ≡ false
  unfolding head_from
  head-far done [] h = far done (omega arith)
  head-far done (x ∷ xs) h =
      rw (far done (omega arith), head-far (done ++ (x ∷ [])) xs (simp length-append (omega arith))) (go (eqb x 32))
    where
      go : (b : Bool) → ((b && false) || false) ≡ false
      go true = refl
      go false = refl

  is-head-far : (es : List Entry) → Short es → is_head same c es ≡ false
  unfolding is_head Short
  is-head-far [] s = refl
  is-head-far (e ∷ es) s = rw (head-far [] e.name (omega (arith, s.0)), is-head-far es s.1)

  with-far : (i : ℕ) (es : List Entry) → Short es → entries_with (λ n. same n c) i es ≡ []
  unfolding entries_with Short
  with-far i [] s = refl
  with-far i (e ∷ es) s = rw (far e.name s.0, with-far (suc i) es s.1)

pub entry-far : (f : ℕ → ℕ) (c : List ℕ) → 64 < length c → (i : ℕ) (es : List Entry) → Short es → entry_from f i c es ≡ None
unfolding entry_from Short
entry-far f c l i [] s = refl
entry-far f c l i (e ∷ es) s = rw (same-lengths f e.name c (omega (arith, s.0)), entry-far f c l (suc i) es s.1)

module _ (book : Book) (c : List ℕ) (short : Short book.directives) (s : Spaced c) where
  exactly-far : 128 < length c → (a : List ℕ) → length a ≤ 64 → same_by (comparison book) a c ≡ false
  exactly-far l a h = same-lengths (comparison book) a c (omega arith)

  compact-far : 128 < length c → (a : List ℕ) → length a ≤ 64 → same_compact a c ≡ false
  compact-far l a h = same-lengths fold (compact a) (compact c) (omega (arith, compact-le a))

  pub entry-long : 128 < length c → entry_of book c ≡ None
  unfolding entry_of
  entry-long l =
      rw (entry-far (comparison book) c (omega arith) 0 book.directives short, with-far same_compact c (compact-far l) 0 book.directives short) (go book.optional_blanks)
    where
      go : (b : Bool) → or_compact b None None ≡ None
      go true = refl
      go false = refl

  pub grows-long : 128 < length c → may_grow book c ≡ false
  unfolding may_grow
  grows-long l =
      rw (is-head-far (same_by (comparison book)) c (exactly-far l) book.directives short, is-head-far same_compact c (compact-far l) book.directives short) (go book.optional_blanks)
    where
      go : (b : Bool) → (b && false) ≡ false
      go true = refl
      go false = refl
