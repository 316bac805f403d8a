-- The directive's name ends within the text.
-- Each word does, so by induction over what is left of the text. Assumes nothing.
use Prim.Native.Nat.{ℕ, zero, suc, ◌+◌, ◌-◌, ◌≤◌}
use mathlib.Core.Bool.{◌&&◌, cond}
use Rattle.std.specs.Prelude.{Option, Some, None, Result, Ok, Err}
use mathlib.Core.Path.{◌≡◌, refl}
use mathlib.Core.List.{List, [], ◌∷◌}
use native.Mathlib.Omega.{arith}
use lib.ListN.{length, drop, length-take, length-drop}
use Rattle.ascii.specs.Ascii.{is_word}
use Rattle.refusal.specs.declared.Refusal.{Refusal}
use Rattle.refusal.specs.Answer.{Answer, given, refused, refused_by}
use Rattle.refusal.proofs.Answers.{Sure, sure-cond}
use Rattle.lexer.specs.Trivia.{skip}
use Rattle.lexer.proofs.Bounds.{skip-bounds}
use Rattle.rulebook.specs.Book.{Book}
use Rattle.directive.specs.declared.DirectiveName.{DirectiveName}
use Rattle.directive.specs.declared.Named.{Named}
use Rattle.directive.specs.Name.{entry_of, may_grow, latest, extended, or_missing, starts_word, word_of, name_from, named, name_at}

abbrev EndsBy : ℕ → Option Named → Type 0
EndsBy n None = Unit {0}
EndsBy n (Some f) = f.end ≤ n

abbrev EndsIn : ℕ → Answer Named → Type 0
EndsIn n x = Sure {A = Named} (λ f. f.end ≤ n) x

latest-end : (n : ℕ) (o : Option ℕ) (end : ℕ) (before : Option Named) → end ≤ n → EndsBy n before → EndsBy n (latest o end before)
latest-end n None end before e h = h
latest-end n (Some i) end before e h = e

missing-end : (n from : ℕ) (f : Option Named) → EndsBy n f → EndsIn n (or_missing from f)
missing-end n from None h = tt
missing-end n from (Some f) h = h

module _ (book : Book) (text : List ℕ) (from : ℕ) where
  name_from-end : (candidate : List ℕ) (before : Option Named) (k at : ℕ) (xs : List ℕ)
      → at + length xs ≡ length text → EndsBy (length text) before → EndsIn (length text) (name_from book text from candidate before k at xs)
  unfolding name_from
  name_from-end candidate before zero at [] n b = missing-end (length text) from before b
  name_from-end candidate before (suc k) at [] n b = missing-end (length text) from before b
  name_from-end candidate before (suc k) at (x ∷ xs) n b = name_from-end candidate before k (suc at) xs (omega arith) b
  name_from-end candidate before zero at (x ∷ xs) n b =
      go (skip book.ignores_case text (at + length (word_of (x ∷ xs)))) refl (λ c f k. name_from-end c f k (suc at) xs (omega arith))
    where
      go : (s : Result ℕ Refusal) → skip book.ignores_case text (at + length (word_of (x ∷ xs))) ≡ s
          → ((c : List ℕ) (f : Option Named) (k : ℕ) → EndsBy (length text) f → EndsIn (length text) (name_from book text from c f k (suc at) xs))
          → EndsIn (length text) (name_from book text from candidate before zero at (x ∷ xs))
      go (Ok p) e ih =
          let P : Named → Type 0 = λ f. f.end ≤ length text in
          let grown = extended candidate (word_of (x ∷ xs)) in
          let end = at + length (word_of (x ∷ xs)) in
          let ends : end ≤ length text = simp length-take (omega arith) in
          let now = latest (entry_of book grown) end before in
          let later = latest-end (length text) (entry_of book grown) end before ends b in
          let grows = starts_word (drop p text) && may_grow book grown in
          let next = name_from book text from grown now (p - suc at) (suc at) xs in
          rw e
          (sure-cond P (is_word x) (cond grows next (or_missing from now)) (or_missing from before)
          (sure-cond P grows next (or_missing from now) (ih grown now (p - suc at) later) (missing-end (length text) from now later))
          (missing-end (length text) from before b))
      go (Err r) e ih =
          rw e (sure-cond {A = Named} (λ f. f.end ≤ length text) (is_word x) (refused_by r) (or_missing from before) tt (missing-end (length text) from before b))

named_end : (n start : ℕ) (x : Answer Named) → EndsIn n x → Sure {A = DirectiveName} (λ m. m.end ≤ n) (named start x)
named_end n start (given f) h = h
named_end n start (refused m p) h = tt

pub name_at-end : (book : Book) (text : List ℕ) (at : ℕ) → at ≤ length text → Sure {A = DirectiveName} (λ m. m.end ≤ length text) (name_at book text at)
unfolding name_at
name_at-end book text at n = go (skip book.ignores_case text at) refl
  where
    go : (s : Result ℕ Refusal) → skip book.ignores_case text at ≡ s → Sure {A = DirectiveName} (λ m. m.end ≤ length text) (name_at book text at)
    go (Ok p) e =
        let b = skip-bounds book.ignores_case text at p e in
        let q : p + length (drop p text) ≡ length text = simp length-drop (omega arith) in
        rw (name_at, e) (named_end (length text) p (name_from book text at [] None zero p (drop p text)) (name_from-end book text at [] None zero p (drop p text) q tt))
    go (Err r) e = rw (name_at, e) tt
