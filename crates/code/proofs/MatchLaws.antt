-- Laws of matching at a byte of code, in the terms of the loops that walk the code bytes.
-- Assumes nothing.
use mathlib.Core.Path.{◌≡◌, refl, sym, ap, ◌∙◌}
use mathlib.Core.Bool.{Bool, true, false, not, ◌&&◌, ◌||◌}
use mathlib.Core.List.{List, [], ◌∷◌}
use Prim.Native.Nat.{ℕ, ◌+◌, ◌<◌, ◌≤◌}
use native.Mathlib.Omega.{arith}
use borrow.Author.Tests.{not-true, ltb-true, ltb-false}
use Rattle.std.proofs.lemmas.List.{get_or_past}
use lib.Dec.{eqb, ltb}
use lib.ListN.{length, drop, get_or}
use Rattle.ascii.specs.Ascii.{class_of}
use Rattle.ascii.proofs.Flags.{and_left, and_right, by_cases}
use Rattle.ascii.proofs.Table.{agree, values}
use Rattle.code.specs.declared.CommentStyle.{CommentStyle}
use Rattle.std.specs.Prelude.{Ok, Err}
use Rattle.code.specs.declared.NoMatch.TheVariants.{Unmatched, DeepAt}
use Rattle.code.specs.declared.Piece.TheVariants.{Code}
use Rattle.code.specs.Code.{CodeByte, is_plain, piece, scan_at, onward}
use Rattle.code.specs.Bracket.{is_empty, is_bracket, held, deep, wrong, taken}
use Rattle.code.specs.Matching.{matched, match_from}
use Rattle.code.proofs.Laws.{scan-code, onward-code, onward-end}
use Rattle.code.proofs.Stack.{taken-plain}

-- a byte that is no bracket and begins no literal or comment
abbrev is_passed : ℕ → Bool
is_passed b = is_plain b && not (is_bracket b)

-- every byte of a word and every blank is one, and every bracket is plain: evaluated over all 256
evaluated : values (λ b. (eqb (class_of b) 0 || is_passed b) && (not (is_bracket b) || is_plain b)) 0 256 ≡ values (λ b. true) 0 256
unfolding class_of
evaluated = refl

told : (b : ℕ) → b < 256 → ((eqb (class_of b) 0 || is_passed b) && (not (is_bracket b) || is_plain b)) ≡ true
told = agree (λ b. (eqb (class_of b) 0 || is_passed b) && (not (is_bracket b) || is_plain b)) (λ b. true) 256 evaluated

pub bracket-plain : (b : ℕ) → b < 256 → is_bracket b ≡ true → is_plain b ≡ true
bracket-plain b h e = rw e at (and_right (eqb (class_of b) 0 || is_passed b) (not (is_bracket b) || is_plain b) (told b h))

pub class-passed : (b : ℕ) → b < 256 → eqb (class_of b) 0 ≡ false → (is_plain b ≡ true) × (is_bracket b ≡ false)
class-passed b h e =
    let p : is_passed b ≡ true = rw e at (and_left (eqb (class_of b) 0 || is_passed b) (not (is_bracket b) || is_plain b) (told b h)) in
    (and_left (is_plain b) (not (is_bracket b)) p, not-true (is_bracket b) (and_right (is_plain b) (not (is_bracket b)) p))

pub match-end : (style : CommentStyle) (s : List ℕ) (i : ℕ) (stack : List ℕ) → length s ≤ i → match_from stack (onward style s i) ≡ Err Unmatched
unfolding match_from
match-end style s i stack h = rw (onward-end style s i h) refl

-- what has the same code bytes has the same match
pub match-same : (stack : List ℕ) (xs ys : List CodeByte) → xs ≡ ys → match_from stack xs ≡ match_from stack ys
match-same stack xs ys e = ap (match_from stack) e

module _ (style : CommentStyle) (s : List ℕ) (i : ℕ) (stack : List ℕ) (inside : i < length s) where
  -- a byte of code that is no bracket changes nothing
  pub match-passed : piece style (drop i s) ≡ Code → is_bracket (get_or s i 0) ≡ false → is_empty stack ≡ false
      → match_from stack (scan_at style s i).codes ≡ match_from stack (scan_at style s (i + 1)).codes
  unfolding match_from
  match-passed e f g = rw (scan-code style s i inside e, taken-plain stack (get_or s i 0) f, g) refl

  match-step : match_from stack (onward style s i) ≡ matched (taken stack (get_or s i 0)) i (λ left. match_from left (scan_at style s (i + 1)).codes)
  unfolding match_from
  match-step = rw (onward-code style s i inside) refl

  pub match-goes : (left : List ℕ) → taken stack (get_or s i 0) ≡ held left → is_empty left ≡ false
      → match_from stack (onward style s i) ≡ match_from left (scan_at style s (i + 1)).codes
  match-goes left e f = match-step ∙ rw (e, f) refl

  pub match-closed : (left : List ℕ) → taken stack (get_or s i 0) ≡ held left → is_empty left ≡ true → match_from stack (onward style s i) ≡ Ok i
  match-closed left e f = match-step ∙ rw (e, f) refl

  pub match-wrong : taken stack (get_or s i 0) ≡ wrong → match_from stack (onward style s i) ≡ Err Unmatched
  match-wrong e = match-step ∙ rw e refl

  pub match-deep : taken stack (get_or s i 0) ≡ deep → match_from stack (onward style s i) ≡ Err (DeepAt i)
  match-deep e = match-step ∙ rw e refl

-- the parenthesis that is open closes at the first bracket, if that is `)`, which no look past the end gives
pub match-first : (style : CommentStyle) (s : List ℕ) (i : ℕ) → get_or s i 0 ≡ 41 → match_from (41 ∷ []) (onward style s i) ≡ Ok i
unfolding taken
match-first style s i e =
    by_cases (ltb i (length s))
    (λ t. match-closed style s i (41 ∷ []) (ltb-true i (length s) t) [] (rw e refl) refl)
    (λ t. let z : 0 ≡ 41 = sym (get_or_past s i 0 (ltb-false i (length s) t)) ∙ e in absurd (omega (arith, z)))
