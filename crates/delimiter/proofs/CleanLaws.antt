-- Laws of what a split's walk tells of literals and comments without an end, and of the verdict on them.
-- Assumes nothing.
use mathlib.Core.Path.{◌≡◌, refl, sym, ap, ◌∙◌}
use mathlib.Core.Bool.{Bool, true, false, ◌&&◌, ◌||◌}
use mathlib.Core.List.{List, []}
use Rattle.std.specs.Prelude.{Option, Some, None, Err, is_none}
use Rattle.std.proofs.Common.{◌⊎◌, inl, inr}
use Prim.Native.Nat.{ℕ, ◌+◌, ◌<◌, ◌≤◌}
use native.Mathlib.Omega.{arith}
use borrow.Author.Tests.{le-leb, lt-leb, leb-true, eq-eqb, eqb-true}
use lib.Dec.{eqb, leb}
use lib.ListN.{length, drop, get_or}
use Rattle.ascii.proofs.Flags.{and_left}
use Rattle.refusal.specs.declared.Refusal.{Refusal}
use Rattle.refusal.specs.Verdict.{fine, text_verdict}
use Rattle.code.specs.declared.CommentStyle.{CommentStyle}
use Rattle.code.specs.declared.Unclosed.{Unclosed}
use Rattle.code.specs.declared.Unclosed.TheVariants.{Quote, Comment}
use Rattle.code.specs.declared.Piece.{Piece}
use Rattle.code.specs.declared.Piece.TheVariants.{Code, Hidden, OpenQuote, OpenComment}
use Rattle.code.specs.Code.{Scan, more, literal, quoted, piece, scan_at, Ends}
use Rattle.code.specs.Marks.{clean}
use Rattle.code.proofs.Laws.{piece_is, scan-hidden, scan-quote, scan-comment, scan-end}
use Rattle.code.proofs.MarkLaws.{clean-code, clean-past}
use Rattle.delimiter.specs.Cutting.{open_verdict, split_verdict, clean_behind, clean_to, PassedTo}

module _ (style : CommentStyle) (s : List ℕ) (i : ℕ) where
  -- at a byte of code, and behind a literal or comment
  pub clean-here : i < length s → piece style (drop i s) ≡ Code → clean style s i ≡ clean_behind style s i
  clean-here h e = rw (le-leb i (length s) (omega arith)) (clean-code style s i h e)

  pub clean-over : (n : ℕ) → i < length s → piece style (drop i s) ≡ Hidden n → 0 < n → clean style s i ≡ clean style s (i + n)
  unfolding clean
  clean-over n h e p = ap (λ (x : Scan). is_none x.fault) (scan-hidden style s i n h e p)

  -- past a piece
  pub over : (n : ℕ) → i < length s → piece style (drop i s) ≡ Hidden n → 0 < n → i + n ≤ length s → PassedTo style s i (i + n)
  over n h e p u = (ap (λ (x : Scan). x.codes) (scan-hidden style s i n h e p), rw (le-leb (i + n) (length s) u) (clean-over n h e p))

  none-past : (scan_at style s (length s + 1)).codes ≡ []
  none-past = ap (λ (x : Scan). x.codes) (scan-end style s (length s + 1) (omega arith))

  pub past-open : (p : Piece) → i < length s → piece style (drop i s) ≡ p → (p ≡ OpenQuote) ⊎ (p ≡ OpenComment) → PassedTo style s i (length s + 1)
  unfolding clean
  past-open p h e (inl q) =
      let f = scan-quote style s i h (e ∙ q) in
      (ap (λ (x : Scan). x.codes) f ∙ sym none-past, rw (lt-leb (length s + 1) (length s) (omega arith)) (ap (λ (x : Scan). is_none x.fault) f))
  past-open p h e (inr q) =
      let f = scan-comment style s i h (e ∙ q) in
      (ap (λ (x : Scan). x.codes) f ∙ sym none-past, rw (lt-leb (length s + 1) (length s) (omega arith)) (ap (λ (x : Scan). is_none x.fault) f))

  -- past a literal, by its end
  abbrev pub PassedOver : Option ℕ → Type 0
  PassedOver None = PassedTo style s i (length s + 1)
  PassedOver (Some p) = PassedTo style s i p

  literal-passed : (o : Option ℕ) → i < length s → piece style (drop i s) ≡ quoted o → Ends (i + 1) (length s) (more (i + 1) o) → PassedOver (more (i + 1) o)
  literal-passed None h e n = past-open OpenQuote h e (inl refl)
  literal-passed (Some k) h e n =
      let q : i + (1 + k) ≡ i + 1 + k = omega arith in
      rw q at (over (1 + k) h e (omega arith) (omega (arith, n.1)))

  pub quote-passed : i < length s → (eqb (get_or s i 0) 39 || eqb (get_or s i 0) 34) ≡ true → (o : Option ℕ)
      → o ≡ more (i + 1) (literal style (get_or s i 0) 0 (drop (i + 1) s)) → Ends (i + 1) (length s) o → PassedOver o
  quote-passed h e o f n =
      rw f (literal-passed (literal style (get_or s i 0) 0 (drop (i + 1) s)) h (piece_is style s i h ∙ rw e refl) (rw f at n))

  -- where a walk has come to, inside the text and behind it
  pub clean-in : i ≤ length s → clean_to style s i ≡ clean style s i
  clean-in h = rw (le-leb i (length s) h) refl

  pub clean-out : length s ≤ i → clean_to style s i ≡ clean_behind style s i
  clean-out k = rw (clean-past style s i k, clean-past style s (i + 1) (omega arith)) refl

  -- at the place where a walk has come to
  pub clean-at : i ≤ length s → clean_behind style s i ≡ clean style s (i + 1)
  clean-at h = rw (le-leb i (length s) h) refl

  pub clean-last : (e : Bool) → (eqb i (length s) && e) ≡ true → clean_behind style s i ≡ clean style s (length s + 1)
  clean-last e h = let q = eqb-true i (length s) (and_left (eqb i (length s)) e h) in rw q (clean-at-end)
    where
      clean-at-end : clean_behind style s (length s) ≡ clean style s (length s + 1)
      clean-at-end = rw (le-leb (length s) (length s) (omega arith)) refl

  pub not-last : (e : Bool) → length s ≤ i → clean_behind style s i ≡ true → (eqb i (length s) && e) ≡ false → e ≡ false
  not-last e h c f =
      let k = leb-true i (length s) (and_left (leb i (length s)) (clean style s (i + 1)) c) in
      let q : eqb i (length s) ≡ true = eq-eqb i (length s) (omega (arith, k)) in
      rw q at f

-- the verdict on a text that is admitted
module _ (style : CommentStyle) (text : List ℕ) where
  pub verdict-bad : (r : Refusal) → text_verdict text ≡ Err r → split_verdict style text ≡ Err r
  unfolding split_verdict
  verdict-bad r e = rw e refl

  pub verdict-open : text_verdict text ≡ fine → split_verdict style text ≡ open_verdict (scan_at style text 0).fault
  unfolding split_verdict
  verdict-open e = rw e refl

  none-open : (f : Option Unclosed) → is_none f ≡ true → open_verdict f ≡ fine
  none-open None e = refl
  none-open (Some u) e = cc

  fine-none : (f : Option Unclosed) → open_verdict f ≡ fine → is_none f ≡ true
  fine-none None e = refl
  fine-none (Some (Quote p)) e = cc
  fine-none (Some (Comment p)) e = cc

  pub open-clean : clean style text 0 ≡ true → open_verdict (scan_at style text 0).fault ≡ fine
  unfolding clean
  open-clean e = none-open (scan_at style text 0).fault e

  pub clean-open-fine : open_verdict (scan_at style text 0).fault ≡ fine → clean style text 0 ≡ true
  unfolding clean
  clean-open-fine e = fine-none (scan_at style text 0).fault e
