-- Laws of the search for a name, in the terms of its loop: what follows a word, where the search stops, and one turn of it.
-- Assumes nothing.
use mathlib.Core.Path.{◌≡◌, refl, sym, ◌∙◌}
use mathlib.Core.Bool.{Bool, true, false, cond, ◌&&◌, and-false, true≢false}
use Rattle.std.specs.Prelude.{Option, Some, None, Result, Ok, Err}
use mathlib.Core.List.{List, [], ◌∷◌}
use Prim.Native.Nat.{ℕ, zero, suc, ◌+◌, ◌-◌, ◌<◌}
use native.Mathlib.Nat.{add-zero}
use native.Mathlib.Omega.{arith}
use lib.ListN.{length, take, drop, get_or, drop_of_length-le, get_or-eq_default}
use lib.Seq.{drop-cons, drop-drop, length-take-le}
use borrow.Author.Tests.{ltb-true, ltb-false}
use lib.Dec.{ltb}
use Rattle.ascii.specs.Ascii.{is_word}
use Rattle.ascii.specs.Text.{leading}
use Rattle.ascii.proofs.Flags.{by_cases}
use Rattle.ascii.proofs.Texts.{leading_le, leading-more}
use Rattle.refusal.specs.declared.Refusal.{Refusal}
use Rattle.refusal.specs.Answer.{Answer, refused_by}
use Rattle.lexer.specs.Trivia.{skip, Inside}
use Rattle.rulebook.specs.Book.{Book}
use Rattle.directive.specs.declared.Named.{Named}
use Rattle.directive.specs.Name.{entry_of, may_grow, latest, extended, or_missing, starts_word, word_of, name_from, named, name_at}
use Rattle.directive.specs.Steps.{behind, next_of, Ahead}

-- a word begins where one of its bytes stands
starts-at : (s : List ℕ) (i : ℕ) → starts_word (drop i s) ≡ is_word (get_or s i 0)
starts-at s i =
    by_cases (ltb i (length s))
    (λ e. let h = ltb-true i (length s) e in rw (drop-cons s i 0 h))
    (λ e. let h = ltb-false i (length s) e in rw (drop_of_length-le s h, get_or-eq_default s 0 h))

-- what follows a word, by the trivia behind it
pub next-is : (book : Book) (text : List ℕ) (end : ℕ) (c : List ℕ) (k : Result ℕ Refusal) → skip book.ignores_case text end ≡ k
    → next_of book text end c ≡ behind (λ p. cond (is_word (get_or text p 0) && may_grow book c) (Some p) None) k
unfolding next_of
next-is book text end c (Err r) e = rw e
next-is book text end c (Ok p) e = rw (e, starts-at text p)

-- nothing follows a candidate that begins no name
pub next-none : (book : Book) (text : List ℕ) (end : ℕ) (c : List ℕ) (k : Result ℕ Refusal) → skip book.ignores_case text end ≡ k → may_grow book c ≡ false
    → next_of book text end c ≡ behind (λ p. None) k
unfolding next_of
next-none book text end c (Err r) e g = rw e
next-none book text end c (Ok p) e g = rw (e, g, and-false (starts_word (drop p text)))

-- the name behind trivia
module _ (book : Book) (text : List ℕ) (at : ℕ) where
  pub name-open : (r : Refusal) → skip book.ignores_case text at ≡ Err r → name_at book text at ≡ refused_by r
  unfolding name_at
  name-open r h = rw (name_at, h)

  pub name-past : (p : ℕ) → skip book.ignores_case text at ≡ Ok p → name_at book text at ≡ named p (name_from book text at [] None 0 p (drop p text))
  unfolding name_at
  name-past p h = rw (name_at, h)

-- passing over is dropping
module _ (book : Book) (text : List ℕ) (search : ℕ) (c : List ℕ) (found : Option Named) where
  name-pass : (k at : ℕ) (xs : List ℕ) → name_from book text search c found k at xs ≡ name_from book text search c found 0 (at + k) (drop k xs)
  unfolding name_from
  name-pass zero at xs = rw add-zero
  name-pass (suc k) at [] = refl
  name-pass (suc k) at (x ∷ xs) =
      let e : at + suc k ≡ suc at + k = omega arith in
      rw e (name-pass k (suc at) xs)

  pub name-stop : (i : ℕ) → is_word (get_or text i 0) ≡ false → name_from book text search c found 0 i (drop i text) ≡ or_missing search found
  unfolding name_from
  name-stop i h =
      by_cases (ltb i (length text))
      (λ e. rw (drop-cons text i 0 (ltb-true i (length text) e), name_from, h))
      (λ e. rw (drop_of_length-le text (ltb-false i (length text) e)))

  -- a word is added at place at, and what follows it decides
  module _ (at x : ℕ) (xs : List ℕ) (h : is_word x ≡ true) where
    first-open : (r : Refusal) → skip book.ignores_case text (at + length (word_of (x ∷ xs))) ≡ Err r → name_from book text search c found 0 at (x ∷ xs) ≡ refused_by r
    unfolding name_from
    first-open r e = rw (name_from, e, h)

    first_past : (p : ℕ) → skip book.ignores_case text (at + length (word_of (x ∷ xs))) ≡ Ok p
        → name_from book text search c found 0 at (x ∷ xs)
        ≡ cond (starts_word (drop p text) && may_grow book (extended c (word_of (x ∷ xs))))
        (name_from book text search (extended c (word_of (x ∷ xs))) (latest (entry_of book (extended c (word_of (x ∷ xs)))) (at + length (word_of (x ∷ xs))) found) (p - suc at) (suc at) xs)
        (or_missing search (latest (entry_of book (extended c (word_of (x ∷ xs)))) (at + length (word_of (x ∷ xs))) found))
    unfolding name_from may_grow
    first_past p e = rw (e, h)

-- the rest of the search, by what follows a word
abbrev pub turned : Book → List ℕ → ℕ → List ℕ → Option Named → Result (Option ℕ) Refusal → Answer Named
turned book text search grown now (Ok (Some p)) = name_from book text search grown now 0 p (drop p text)
turned book text search grown now (Ok None) = or_missing search now
turned book text search grown now (Err r) = refused_by r

module _ (book : Book) (text : List ℕ) (search : ℕ) where
  -- trivia is passed: the next word, or the end
  onward : (grown : List ℕ) (now : Option Named) (at end n p : ℕ) (b : Bool) → at < end → Ahead end n (Ok (cond b (Some p) None))
      → cond b (name_from book text search grown now (p - suc at) (suc at) (drop (suc at) text)) (or_missing search now)
      ≡ turned book text search grown now (Ok (cond b (Some p) None))
  onward grown now at end n p true l a =
      let e : suc at + (p - suc at) ≡ p = omega (arith, a) in
      name-pass book text search grown now (p - suc at) (suc at) (drop (suc at) text) ∙ rw (drop-drop (p - suc at) (suc at) text, e)
  onward grown now at end n p false l a = refl

  -- the same from the word on
  module _ (c : List ℕ) (found : Option Named) (n at x : ℕ) (h : is_word x ≡ true) where
    first : (xs grown : List ℕ) (end : ℕ) → xs ≡ drop (suc at) text → grown ≡ extended c (word_of (x ∷ xs)) → end ≡ at + length (word_of (x ∷ xs)) → at < end
        → (k : Result ℕ Refusal) → skip book.ignores_case text end ≡ k → Ahead end n (next_of book text end grown)
        → name_from book text search c found 0 at (x ∷ xs) ≡ turned book text search grown (latest (entry_of book grown) end found) (next_of book text end grown)
    unfolding next_of
    first xs grown end d g q l (Err r) e a =
        first-open book text search c found at x xs h r (rw q at e) ∙ rw e
    first xs grown end d g q l (Ok p) e a =
        first_past book text search c found at x xs h p (rw q at e)
        ∙ rw (← g, ← q, d, e)
        (onward grown (latest (entry_of book grown) end found) at end n p (starts_word (drop p text) && may_grow book grown) l (rw e at a))

-- one turn, at the place i of the text
word-here : (text : List ℕ) (i : ℕ) → is_word (get_or text i 0) ≡ true → i < length text
word-here text i h =
    by_cases (ltb i (length text))
    (λ e. ltb-true i (length text) e)
    (λ e. let d : get_or text i 0 ≡ 0 = get_or-eq_default text 0 (ltb-false i (length text) e) in absurd (true≢false (sym h ∙ rw d)))

pub word-ahead : (text : List ℕ) (i end : ℕ) → is_word (get_or text i 0) ≡ true → end ≡ i + leading is_word (drop i text) → i < end
word-ahead text i end h q = omega (arith, q, leading-more is_word text i (word-here text i h) h)

pub turn : (book : Book) (text : List ℕ) (search : ℕ) (c : List ℕ) (found : Option Named) (i end : ℕ) (grown : List ℕ)
    → is_word (get_or text i 0) ≡ true → end ≡ i + leading is_word (drop i text) → grown ≡ extended c (take (end - i) (drop i text))
    → Ahead end (length text) (next_of book text end grown)
    → name_from book text search c found 0 i (drop i text) ≡ turned book text search grown (latest (entry_of book grown) end found) (next_of book text end grown)
turn book text search c found i end grown h q g a =
    let l = word-here text i h in
    let d = drop-cons text i 0 l in
    let k : end - i ≡ leading is_word (drop i text) = omega (arith, q) in
    let w : take (end - i) (drop i text) ≡ word_of (get_or text i 0 ∷ drop (suc i) text) = rw (k, d) in
    let n : length (word_of (get_or text i 0 ∷ drop (suc i) text)) ≡ leading is_word (drop i text) =
    rw d (length-take-le _ _ (leading_le is_word (get_or text i 0 ∷ drop (suc i) text))) in
    rw d
    (first book text search c found (length text) i (get_or text i 0) h (drop (suc i) text) grown end refl (rw w at g) (rw n q) (word-ahead text i end h q)
    (skip book.ignores_case text end) refl a)

-- the same where the candidate with the word is too long: nothing follows but what trivia may say
pub long-turn : (book : Book) (text : List ℕ) (search : ℕ) (c : List ℕ) (found : Option Named) (i end : ℕ) (grown : List ℕ)
    → is_word (get_or text i 0) ≡ true → end ≡ i + leading is_word (drop i text) → grown ≡ extended c (take (end - i) (drop i text))
    → entry_of book grown ≡ None → may_grow book grown ≡ false
    → (k : Result ℕ Refusal) → skip book.ignores_case text end ≡ k → Inside end (length text) k
    → name_from book text search c found 0 i (drop i text) ≡ turned book text search grown found (behind (λ p. None) k)
long-turn book text search c found i end grown h q g n m (Err r) e b =
    let t = next-none book text end grown (Err r) e m in
    turn book text search c found i end grown h q g (rw t b) ∙ rw (n, t)
long-turn book text search c found i end grown h q g n m (Ok p) e b =
    let t = next-none book text end grown (Ok p) e m in
    turn book text search c found i end grown h q g (rw t tt) ∙ rw (n, t)
