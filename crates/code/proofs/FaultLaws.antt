-- Laws of the scan's fault: a literal or comment without an end is the same one before and behind a piece, and where none is the brackets alone tell
-- the match. Each by what the scan is at a piece. Assumes nothing.
use mathlib.Core.Path.{◌≡◌, refl, ap, ◌∙◌}
use mathlib.Core.Bool.{true, false, true≢false, false≢true, ◌||◌}
use mathlib.Core.List.{List, [], ◌∷◌}
use Rattle.std.specs.Prelude.{Option, Some, None, Err, is_none}
use Prim.Native.Nat.{ℕ, ◌+◌, ◌<◌}
use borrow.Author.Tests.{not-true}
use lib.Dec.{eqb}
use lib.ListN.{length, drop, get_or}
use Rattle.ascii.proofs.Flags.{or-none}
use Rattle.code.specs.declared.CommentStyle.{CommentStyle}
use Rattle.code.specs.declared.Unclosed.{Unclosed}
use Rattle.code.specs.declared.Unclosed.TheVariants.{Quote, Comment}
use Rattle.code.specs.declared.Piece.TheVariants.{Code, Hidden}
use Rattle.code.specs.declared.NoMatch.TheVariants.{Unmatched}
use Rattle.code.specs.Code.{Scan, piece, is_plain, scan_at}
use Rattle.code.specs.Marks.{clean}
use Rattle.code.specs.Matching.{Match, match_from, unless_open, matching}
use Rattle.code.proofs.Laws.{piece_is, scan-code, scan-hidden}

-- a plain byte opens no literal and no comment
pub plain-parts : (b : ℕ) → is_plain b ≡ true → ((eqb b 39 || eqb b 34) ≡ false) × (eqb b 47 ≡ false) × (eqb b 33 ≡ false)
plain-parts b t =
    let e = or-none (eqb b 39 || eqb b 34 || eqb b 47) (eqb b 33) (not-true (eqb b 39 || eqb b 34 || eqb b 47 || eqb b 33) t) in
    let f = or-none (eqb b 39 || eqb b 34) (eqb b 47) e.0 in
    (f.0, f.1, e.1)

-- a step of the walk keeps the fault
module _ (style : CommentStyle) (s : List ℕ) (i : ℕ) where
  pub fault-code : i < length s → piece style (drop i s) ≡ Code → (scan_at style s i).fault ≡ (scan_at style s (i + 1)).fault
  fault-code h e = ap (λ (x : Scan). x.fault) (scan-code style s i h e)

  pub fault-hidden : (n : ℕ) → i < length s → piece style (drop i s) ≡ Hidden n → 0 < n → (scan_at style s i).fault ≡ (scan_at style s (i + n)).fault
  fault-hidden n h e p = ap (λ (x : Scan). x.fault) (scan-hidden style s i n h e p)

  -- a plain byte is one of code
  pub plain_code : i < length s → is_plain (get_or s i 0) ≡ true → piece style (drop i s) ≡ Code
  plain_code h t = let p = plain-parts (get_or s i 0) t in piece_is style s i h ∙ rw (p.0, p.1, p.2) refl

-- where nothing is unclosed the match is that of the brackets alone, and else there is none
by-brackets : (f : Option Unclosed) (m : Match) → is_none f ≡ true → unless_open f m ≡ m
by-brackets None m e = refl
by-brackets (Some u) m e = absurd (false≢true e)

unmatched : (f : Option Unclosed) (m : Match) → is_none f ≡ false → unless_open f m ≡ Err Unmatched
unmatched None m e = absurd (true≢false e)
unmatched (Some (Quote p)) m e = refl
unmatched (Some (Comment p)) m e = refl

module _ (style : CommentStyle) (s : List ℕ) (at : ℕ) where
  pub match-clean : clean style s at ≡ true → matching style at (drop at s) ≡ match_from (41 ∷ []) (scan_at style s at).codes
  unfolding clean matching
  match-clean e = by-brackets (scan_at style s at).fault (match_from (41 ∷ []) (scan_at style s at).codes) e

  pub match-unclosed : clean style s at ≡ false → matching style at (drop at s) ≡ Err Unmatched
  unfolding clean matching
  match-unclosed e = unmatched (scan_at style s at).fault (match_from (41 ∷ []) (scan_at style s at).codes) e
