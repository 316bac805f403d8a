-- Laws of code bytes at a place of a text, in the terms of the loops that walk it.
-- Assumes nothing.
use mathlib.Core.Path.{◌≡◌, refl, sym, ap, ◌∙◌}
use mathlib.Core.Bool.{Bool, true, false, cond, not, ◌&&◌, ◌||◌}
use Rattle.std.specs.Prelude.{Option, Some, None}
use Rattle.std.proofs.Common.{◌⊎◌, inl, inr}
use mathlib.Core.List.{List, [], ◌∷◌}
use Prim.Native.Nat.{ℕ, zero, suc, ◌+◌, ◌-◌, ◌<◌, ◌≤◌}
use native.Mathlib.Nat.{add-zero}
use native.Mathlib.Numerals.{add-one}
use native.Mathlib.Omega.{arith}
use borrow.Author.Tests.{lt-ltb, le-ltb}
use lib.Dec.{eqb}
use lib.ListN.{length, drop, get_or, drop_of_length-le}
use lib.Seq.{drop-cons, drop-drop, get_or-drop}
use Rattle.ascii.specs.Ascii.{is_eol}
use Rattle.ascii.specs.Text.{up_to}
use Rattle.code.specs.declared.CommentStyle.{CommentStyle}
use Rattle.code.specs.declared.Piece.{Piece}
use Rattle.code.specs.declared.Piece.TheVariants.{Code, Hidden, OpenQuote, OpenComment}
use Rattle.code.specs.declared.Unclosed.TheVariants.{Quote, Comment}
use Rattle.code.specs.Code.{Scan, is_c_like, is_fortran, hides_next, more, literal, block_end, quoted, commented, slashed, banged, piece, rest, placed, scan_from, scan_at, onward, Ends}

pub more-more : (a b : ℕ) (o : Option ℕ) → more a (more b o) ≡ more (a + b) o
more-more a b None = refl
more-more a b (Some k) = ap Some (omega arith)

-- a text from one of its places on, and the byte after that
module _ (s : List ℕ) (i : ℕ) where
  pub drop_at : i < length s → drop i s ≡ get_or s i 0 ∷ drop (i + 1) s
  drop_at h = rw (add-one i) (drop-cons s i 0 h)

  pub head_at : get_or (drop i s) 0 0 ≡ get_or s i 0
  head_at = get_or-drop i s 0 0 ∙ ap (λ k. get_or s k 0) (add-zero i)

pub drop-two : (s : List ℕ) (i : ℕ) → drop 1 (drop (i + 1) s) ≡ drop (i + 2) s
drop-two s i = let n : i + 1 + 1 ≡ i + 2 = omega arith in drop-drop 1 (i + 1) s ∙ ap (λ k. drop k s) n

-- literals
module _ (style : CommentStyle) (q x : ℕ) (xs : List ℕ) where
  pass-one : (ys : List ℕ) → literal style q 1 ys ≡ more 1 (literal style q 0 (drop 1 ys))
  unfolding literal
  pass-one [] = refl
  pass-one (y ∷ ys) = refl

  both : hides_next style q x (get_or xs 0 0) ≡ true → literal style q 0 (x ∷ xs) ≡ more 2 (literal style q 0 (drop 1 xs))
  unfolding literal
  both e = rw (e) (ap (more 1) (pass-one xs) ∙ more-more 1 1 (literal style q 0 (drop 1 xs)))

  closed : hides_next style q x (get_or xs 0 0) ≡ false → eqb x q ≡ true → literal style q 0 (x ∷ xs) ≡ Some 1
  unfolding literal
  closed e f = rw (e, f) refl

  plain : hides_next style q x (get_or xs 0 0) ≡ false → eqb x q ≡ false → literal style q 0 (x ∷ xs) ≡ more 1 (literal style q 0 xs)
  unfolding literal
  plain e f = rw (e, f) refl

module _ (style : CommentStyle) (q : ℕ) (s : List ℕ) (i : ℕ) where
  abbrev hidden : Bool
  hidden = hides_next style q (get_or s i 0) (get_or s (i + 1) 0)

  pub literal-both : i < length s → hidden ≡ true → more i (literal style q 0 (drop i s)) ≡ more (i + 2) (literal style q 0 (drop (i + 2) s))
  literal-both h e =
      rw (drop_at s i h, both style q (get_or s i 0) (drop (i + 1) s) (rw (head_at s (i + 1)) e), drop-two s i) (more-more i 2 (literal style q 0 (drop (i + 2) s)))

  pub literal-closed : i < length s → hidden ≡ false → eqb (get_or s i 0) q ≡ true → more i (literal style q 0 (drop i s)) ≡ Some (i + 1)
  literal-closed h e f = rw (drop_at s i h, closed style q (get_or s i 0) (drop (i + 1) s) (rw (head_at s (i + 1)) e) f) refl

  pub literal-plain : i < length s → hidden ≡ false → eqb (get_or s i 0) q ≡ false
      → more i (literal style q 0 (drop i s)) ≡ more (i + 1) (literal style q 0 (drop (i + 1) s))
  literal-plain h e f =
      rw (drop_at s i h, plain style q (get_or s i 0) (drop (i + 1) s) (rw (head_at s (i + 1)) e) f) (more-more i 1 (literal style q 0 (drop (i + 1) s)))

  pub literal-end : length s ≤ i → more i (literal style q 0 (drop i s)) ≡ None
  unfolding literal
  literal-end h = rw (drop_of_length-le s h)

-- an end behind a place is one behind each place before it
pub ends-from : (from i n : ℕ) (o : Option ℕ) → from ≤ i → Ends i n o → Ends from n o
ends-from from i n (Some k) h e = (omega (arith, h, e.0), e.1)
ends-from from i n None h e = e

-- block comments
module _ (s : List ℕ) (i : ℕ) where
  pub block_closed : i < length s → (eqb (get_or s i 0) 42 && eqb (get_or s (i + 1) 0) 47) ≡ true → more i (block_end (drop i s)) ≡ Some (i + 2)
  unfolding block_end
  block_closed h e = rw (drop_at s i h, head_at s (i + 1), e) refl

  pub block-plain : i < length s → (eqb (get_or s i 0) 42 && eqb (get_or s (i + 1) 0) 47) ≡ false
      → more i (block_end (drop i s)) ≡ more (i + 1) (block_end (drop (i + 1) s))
  unfolding block_end
  block-plain h e = rw (drop_at s i h, head_at s (i + 1), e) (more-more i 1 (block_end (drop (i + 1) s)))

  pub block_none : length s ≤ i → more i (block_end (drop i s)) ≡ None
  unfolding block_end
  block_none h = rw (drop_of_length-le s h)

-- pieces at a place
module _ (style : CommentStyle) (s : List ℕ) (i : ℕ) where
  pub slash-block : eqb (get_or s (i + 1) 0) 42 ≡ true → slashed style (drop (i + 1) s) ≡ commented (block_end (drop (i + 2) s))
  slash-block e = rw (head_at s (i + 1), e, drop-two s i) refl

  pub slash-line : eqb (get_or s (i + 1) 0) 42 ≡ false → (is_c_like style && eqb (get_or s (i + 1) 0) 47) ≡ true
      → slashed style (drop (i + 1) s) ≡ Hidden (2 + up_to is_eol (drop (i + 2) s))
  slash-line e f = rw (head_at s (i + 1), e, f, drop-two s i) refl

  pub slash-code : eqb (get_or s (i + 1) 0) 42 ≡ false → (is_c_like style && eqb (get_or s (i + 1) 0) 47) ≡ false → slashed style (drop (i + 1) s) ≡ Code
  slash-code e f = rw (head_at s (i + 1), e, f) refl

  pub bang-line : (is_fortran style && not (eqb (get_or s (i + 1) 0) 36)) ≡ true → banged style (drop (i + 1) s) ≡ Hidden (1 + up_to is_eol (drop (i + 1) s))
  bang-line e = rw (head_at s (i + 1), e) refl

  pub bang-code : (is_fortran style && not (eqb (get_or s (i + 1) 0) 36)) ≡ false → banged style (drop (i + 1) s) ≡ Code
  bang-code e = rw (head_at s (i + 1), e) refl

  pub piece_is : i < length s → piece style (drop i s)
      ≡ cond (eqb (get_or s i 0) 39 || eqb (get_or s i 0) 34) (quoted (literal style (get_or s i 0) 0 (drop (i + 1) s)))
      (cond (eqb (get_or s i 0) 47) (slashed style (drop (i + 1) s)) (cond (eqb (get_or s i 0) 33) (banged style (drop (i + 1) s)) Code))
  unfolding piece
  piece_is h = rw (drop_at s i h) refl

-- the scan
scan-skip : (style : CommentStyle) (k at : ℕ) (xs : List ℕ) → scan_from style k at xs ≡ scan_from style 0 (at + k) (drop k xs)
unfolding scan_from
scan-skip style zero at xs = rw (add-zero at) refl
scan-skip style (suc k) at [] = refl
scan-skip style (suc k) at (x ∷ xs) = let e : at + suc k ≡ suc at + k = omega arith in rw e (scan-skip style k (suc at) xs)

scan-cons : (style : CommentStyle) (at x : ℕ) (xs : List ℕ) → scan_from style 0 at (x ∷ xs)
    ≡ placed (piece style (x ∷ xs)) (record { place = at; byte = x }) (scan_from style (rest (piece style (x ∷ xs))) (at + 1) xs)
unfolding scan_from
scan-cons style at x xs = rw (add-one at) refl

module _ (style : CommentStyle) (s : List ℕ) (i : ℕ) where
  scan-is : i < length s → scan_at style s i
      ≡ placed (piece style (drop i s)) (record { place = i; byte = get_or s i 0 }) (scan_from style (rest (piece style (drop i s))) (i + 1) (drop (i + 1) s))
  scan-is h = rw (drop_at s i h) (scan-cons style i (get_or s i 0) (drop (i + 1) s))

  pub scan-code : i < length s → piece style (drop i s) ≡ Code
      → scan_at style s i ≡ record { codes = record { place = i; byte = get_or s i 0 } ∷ (scan_at style s (i + 1)).codes; fault = (scan_at style s (i + 1)).fault }
  scan-code h e = scan-is h ∙ rw e refl

  pub scan-hidden : (n : ℕ) → i < length s → piece style (drop i s) ≡ Hidden n → 0 < n → scan_at style s i ≡ scan_at style s (i + n)
  scan-hidden n h e p =
      let q : i + 1 + (n - 1) ≡ i + n = omega arith in
      scan-is h ∙ rw (e, scan-skip style (n - 1) (i + 1) (drop (i + 1) s), drop-drop (n - 1) (i + 1) s, q) refl

  pub scan-quote : i < length s → piece style (drop i s) ≡ OpenQuote → scan_at style s i ≡ record { codes = []; fault = Some (Quote i) }
  scan-quote h e = scan-is h ∙ rw e refl

  pub scan-comment : i < length s → piece style (drop i s) ≡ OpenComment → scan_at style s i ≡ record { codes = []; fault = Some (Comment i) }
  scan-comment h e = scan-is h ∙ rw e refl

  pub scan-end : length s ≤ i → scan_at style s i ≡ record { codes = []; fault = None }
  unfolding scan_from
  scan-end h = rw (drop_of_length-le s h)

  -- the code bytes from a place that holds one, and from the end
  pub onward-code : i < length s → onward style s i ≡ record { place = i; byte = get_or s i 0 } ∷ (scan_at style s (i + 1)).codes
  unfolding onward
  onward-code h = rw (lt-ltb i (length s) h) refl

  pub onward-end : length s ≤ i → onward style s i ≡ []
  unfolding onward
  onward-end h = rw (le-ltb i (length s) h) refl

  -- where a byte of code stands, the code bytes from there are those that begin with it
  pub codes-at : i < length s → piece style (drop i s) ≡ Code → (scan_at style s i).codes ≡ onward style s i
  codes-at h e = ap (λ (x : Scan). x.codes) (scan-code h e) ∙ sym (onward-code h)

  -- none behind a literal or comment without an end
  pub codes-none : (p : Piece) → i < length s → piece style (drop i s) ≡ p → (p ≡ OpenQuote) ⊎ (p ≡ OpenComment) → (scan_at style s i).codes ≡ []
  codes-none p h e (inl q) = ap (λ (x : Scan). x.codes) (scan-quote h (e ∙ q))
  codes-none p h e (inr q) = ap (λ (x : Scan). x.codes) (scan-comment h (e ∙ q))
