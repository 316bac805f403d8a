-- Where a clause and its separator end: behind their start, and within the text.
-- Each step by what it gives: the code bytes of a scan and the match among them, the clause by its rule, the separator by its trivia.
use Prim.Native.Nat.{ℕ, zero, suc, ◌+◌, ◌-◌, ◌≤◌, ◌<◌}
use mathlib.Core.Bool.{Bool, true, false, cond}
use mathlib.Core.Path.{◌≡◌, refl, sym, ◌∙◌}
use mathlib.Core.List.{List, [], ◌∷◌}
use native.Mathlib.Omega.{arith}
use Rattle.std.specs.Prelude.{Option, Some, None, Result, Ok, Err}
use lib.ListN.{length, drop, get_or, length-drop, get_or-eq_default}
use lib.Dec.{eqb, ltb}
use borrow.Author.Tests.{eqb-true, eqb-false, ltb-true, ltb-false}
use Rattle.ascii.specs.Ascii.{is_word}
use Rattle.ascii.specs.Text.{starts}
use Rattle.ascii.proofs.Texts.{leading_le}
use Rattle.refusal.specs.declared.Reason.{Reason}
use Rattle.refusal.specs.declared.Refusal.{Refusal}
use Rattle.code.specs.declared.CommentStyle.{CommentStyle}
use Rattle.code.specs.declared.NoMatch.TheVariants.{Unmatched, DeepAt}
use Rattle.code.specs.declared.Piece.{Piece}
use Rattle.code.specs.declared.Piece.TheVariants.{Code, Hidden, OpenQuote, OpenComment}
use Rattle.code.specs.declared.Unclosed.{Unclosed}
use Rattle.code.specs.declared.Unclosed.TheVariants.{Quote, Comment}
use Rattle.code.specs.Code.{CodeByte, Scan, piece, rest, placed, scan_from}
use Rattle.code.specs.Bracket.{is_empty, Brackets, held, deep as too_deep, wrong, taken}
use Rattle.code.specs.Matching.{Match, matched, match_from, unless_open, matching}
use Rattle.lexer.specs.Trivia.{skip}
use Rattle.lexer.proofs.Bounds.{skip-bounds}
use Rattle.bookform.specs.declared.ClauseRule.{ClauseRule}
use Rattle.bookform.specs.declared.ClauseRule.TheVariants.{Bare, Parenthesized, Flexible, Unsupported}
use Rattle.rulebook.specs.Book.{Book}
use Rattle.rulebook.specs.Lookup.{rule_or}
use Rattle.clause.specs.declared.Separation.{Separation}
use Rattle.clause.specs.Clause.{Read, failed, style, closing, argument, word_length, found, clause_at}
use Rattle.clause.specs.Sequence.{after_comma, at_comma, separated}

-- every code byte stands at a place from low on, before high
abbrev Within : ℕ → ℕ → List CodeByte → Type 0
Within low high [] = Unit {0}
Within low high (c ∷ cs) = (low ≤ c.place) × (c.place < high) × Within low high cs

within_more : (low low' high : ℕ) (cs : List CodeByte) → low' ≤ low → Within low high cs → Within low' high cs
within_more low low' high [] l h = tt
within_more low low' high (c ∷ cs) l h = (omega arith, h.1, within_more low low' high cs l h.2)

placed-within : (low high : ℕ) (p : Piece) (c : CodeByte) (s : Scan) → low ≤ c.place → c.place < high → Within low high s.codes → Within low high (placed p c s).codes
placed-within low high Code c s l g h = (l, g, h)
placed-within low high (Hidden n) c s l g h = h
placed-within low high OpenQuote c s l g h = tt
placed-within low high OpenComment c s l g h = tt

scan-within : (y : CommentStyle) (xs : List ℕ) (k at high : ℕ) → at + length xs ≤ high → Within at high (scan_from y k at xs).codes
unfolding scan_from
scan-within y [] zero at high h = tt
scan-within y [] (suc k) at high h = tt
scan-within y (x ∷ xs) (suc k) at high h = within_more (suc at) at high (scan_from y k (suc at) xs).codes (omega arith) (scan-within y xs k (suc at) high (omega arith))
scan-within y (x ∷ xs) zero at high h =
    let later = scan_from y (rest (piece y (x ∷ xs))) (suc at) xs in
    placed-within at high (piece y (x ∷ xs)) (record { place = at; byte = x }) later (omega arith) (omega arith)
    (within_more (suc at) at high later.codes (omega arith) (scan-within y xs (rest (piece y (x ∷ xs))) (suc at) high (omega arith)))

-- a match stands at a place from low on, before high
abbrev pub Closes : ℕ → ℕ → Match → Type 0
Closes low high (Ok q) = (low ≤ q) × (q < high)
Closes low high (Err e) = Unit {0}

closes-cond : (low high : ℕ) (t : Bool) (x y : Match) → Closes low high x → Closes low high y → Closes low high (cond t x y)
closes-cond low high true x y h k = h
closes-cond low high false x y h k = k

matched-closes : (low high : ℕ) (b : Brackets) (p : ℕ) (more : List ℕ → Match) → low ≤ p → p < high → ((l : List ℕ) → Closes low high (more l)) → Closes low high (matched b p more)
matched-closes low high (held l) p more a z h = closes-cond low high (is_empty l) (Ok p) (more l) (a, z) (h l)
matched-closes low high too_deep p more a z h = tt
matched-closes low high wrong p more a z h = tt

match-closes : (low high : ℕ) (cs : List CodeByte) (stack : List ℕ) → Within low high cs → Closes low high (match_from stack cs)
unfolding match_from
match-closes low high [] stack h = tt
match-closes low high (c ∷ cs) stack h = matched-closes low high (taken stack c.byte) c.place _ h.0 h.1 (λ l. match-closes low high cs l h.2)

unless-closes : (low high : ℕ) (u : Option Unclosed) (m : Match) → Closes low high m → Closes low high (unless_open u m)
unless-closes low high None m h = h
unless-closes low high (Some (Quote p)) m h = tt
unless-closes low high (Some (Comment p)) m h = tt

matching-closes : (y : CommentStyle) (at : ℕ) (xs : List ℕ) (high : ℕ) → at + length xs ≤ high → Closes at high (matching y at xs)
unfolding matching
matching-closes y at xs high h =
    unless-closes at high (scan_from y zero at xs).fault _ (match-closes at high (scan_from y zero at xs).codes (41 ∷ []) (scan-within y xs zero at high h))

-- the match of a parenthesis before place at of a text stands from there on, within the text
pub matching-within : (y : CommentStyle) (text : List ℕ) (at : ℕ) → at ≤ length text → Closes at (length text) (matching y at (drop at text))
matching-within y text at h = matching-closes y at (drop at text) (length text) (simp length-drop (omega arith))

-- the first byte of what is left at a place is no 0, so the place is within the text
pub starts-inside : (b p : ℕ) (text : List ℕ) → starts (suc b) (drop p text) ≡ true → p < length text
starts-inside b p text h = go (ltb p (length text)) refl
  where
    go : (t : Bool) → ltb p (length text) ≡ t → p < length text
    go true e = ltb-true p (length text) e
    go false e =
        let l = ltb-false p (length text) e in
        let over : length (drop p text) ≤ 0 = simp length-drop (omega arith) in
        let z : 0 ≡ suc b = sym (get_or-eq_default (drop p text) 0 over) ∙ eqb-true (get_or (drop p text) 0 0) (suc b) h in
        absurd (omega arith)

-- a clause ends behind its start, within n bytes
abbrev pub EndsWithin : ℕ → ℕ → Read → Type 0
EndsWithin at n (Ok c) = (at < c.end) × (c.end ≤ n)
EndsWithin at n (Err e) = Unit {0}

ends-cond : (at n : ℕ) (t : Bool) (x y : Read) → (t ≡ true → EndsWithin at n x) → (t ≡ false → EndsWithin at n y) → EndsWithin at n (cond t x y)
ends-cond at n true x y h k = h refl
ends-cond at n false x y h k = k refl

module _ (f : Bool) (text : List ℕ) (at end : ℕ) (i : Option ℕ) (a : at < end) (z : end ≤ length text) where
  closing-ends : (p : ℕ) (m : Match) → end ≤ p → Closes (suc p) (length text) m → EndsWithin at (length text) (closing f text at end i p m)
  closing-ends p (Ok q) l h = (omega arith, omega arith)
  closing-ends p (Err Unmatched) l h = tt
  closing-ends p (Err (DeepAt q)) l h = tt

  opened-ends : (p : ℕ) → end ≤ p → starts 40 (drop p text) ≡ true → EndsWithin at (length text) (closing f text at end i p (matching (style f) (suc p) (drop (suc p) text)))
  opened-ends p l t =
      let inside = starts-inside 39 p text t in
      closing-ends p (matching (style f) (suc p) (drop (suc p) text)) l (matching-within (style f) text (suc p) (omega arith))

  argument-ends : (rule : ClauseRule) (s : Result ℕ Refusal) → skip f text end ≡ s → EndsWithin at (length text) (argument f text at end i rule s)
  argument-ends Bare s e = (a, z)
  argument-ends Parenthesized (Ok p) e =
      let b = skip-bounds f text end p e in
      ends-cond at (length text) (starts 40 (drop p text)) _ (failed Reason.NoParenthesis p) (λ t. opened-ends p b.0 t) (λ t. tt)
  argument-ends Parenthesized (Err r) e = tt
  argument-ends Flexible (Ok p) e =
      let b = skip-bounds f text end p e in
      ends-cond at (length text) (starts 40 (drop p text)) _ (argument f text at end i Bare (Ok p)) (λ t. opened-ends p b.0 t) (λ t. (a, z))
  argument-ends Flexible (Err r) e = tt
  argument-ends Unsupported s e = tt

pub clause-ends : (book : Book) (text : List ℕ) (at : ℕ) → at ≤ length text → EndsWithin at (length text) (clause_at book text at)
unfolding clause_at
clause-ends book text at h =
    let w = word_length book text at in
    let l : w ≤ length text - at = rw length-drop at (leading_le is_word (drop at text)) in
    ends-cond at (length text) (eqb w 0) (failed Reason.NoClause at) _ (λ t. tt)
    (λ t. let more = eqb-false w 0 t in
    argument-ends book.ignores_case text at (at + w) (found book text at) (omega arith) (omega arith) (rule_or book.default (found book text at) book.clauses) (skip book.ignores_case text (at + w)) refl)

-- what follows a clause does not begin before its end, and is within n bytes
abbrev pub Follows : ℕ → ℕ → Result Separation Refusal → Type 0
Follows at n (Ok s) = (at ≤ s.next) × (s.next ≤ n)
Follows at n (Err r) = Unit {0}

module _ (f : Bool) (text : List ℕ) (at : ℕ) where
  follows-skip : (comma : Bool) (from : ℕ) (s : Result ℕ Refusal) → at ≤ from → from ≤ length text → skip f text from ≡ s → Follows at (length text) (after_comma comma s)
  follows-skip comma from (Ok p) l h e = let b = skip-bounds f text from p e in (omega arith, omega arith)
  follows-skip comma from (Err r) l h e = tt

  follows-cond : (t : Bool) (x y : Result Separation Refusal) → (t ≡ true → Follows at (length text) x) → (t ≡ false → Follows at (length text) y) → Follows at (length text) (cond t x y)
  follows-cond true x y h k = h refl
  follows-cond false x y h k = k refl

  comma-follows : (s : Result ℕ Refusal) → at ≤ length text → skip f text at ≡ s → Follows at (length text) (at_comma f text s)
  comma-follows (Ok p) h e =
      let b = skip-bounds f text at p e in
      follows-cond (starts 44 (drop p text)) _ _
      (λ t. let inside = starts-inside 43 p text t in follows-skip true (suc p) (skip f text (suc p)) (omega arith) (omega arith) refl)
      (λ t. follows-skip false p (skip f text p) (omega arith) (omega arith) refl)
  comma-follows (Err r) h e = tt

  pub separator-follows : at ≤ length text → Follows at (length text) (separated f text at)
  separator-follows h = comma-follows (skip f text at) h refl
