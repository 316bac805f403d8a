-- A literal, a piece and a scan of a text without a backslash, in two styles: by induction over the text, as each is defined.
-- Assumes nothing.
use Prim.Native.Nat.{ℕ, zero, suc}
use mathlib.Core.Bool.{false, and-false}
use mathlib.Core.Path.{◌≡◌, refl, ap}
use mathlib.Core.List.{List, [], ◌∷◌}
use lib.Dec.{eqb}
use Rattle.ascii.proofs.Flags.{or-none}
use Rattle.code.specs.declared.CommentStyle.{CommentStyle}
use Rattle.code.specs.Code.{is_c_like, is_fortran, has_escapes, more, literal, piece, rest, scan_from}
use Rattle.code.specs.Laws.{has_backslash, QuotesOfCStay, LiteralsWithoutBackslashStay}

pub quotes-of-c-stay : QuotesOfCStay
quotes-of-c-stay q x next = (refl, refl)

module _ (x : ℕ) (xs : List ℕ) (h : has_backslash (x ∷ xs) ≡ false) where
  first_plain : eqb x 92 ≡ false
  unfolding has_backslash
  first_plain = (or-none (eqb x 92) (has_backslash xs) h).0

  rest_plain : has_backslash xs ≡ false
  unfolding has_backslash
  rest_plain = (or-none (eqb x 92) (has_backslash xs) h).1

pub literals-without-backslash-stay : LiteralsWithoutBackslashStay
unfolding literal
literals-without-backslash-stay a b q zero [] h = refl
literals-without-backslash-stay a b q (suc k) [] h = refl
literals-without-backslash-stay a b q (suc k) (x ∷ xs) h = ap (more 1) (literals-without-backslash-stay a b q k xs (rest_plain x xs h))
literals-without-backslash-stay a b q zero (x ∷ xs) h =
    let one = literals-without-backslash-stay a b q 1 xs (rest_plain x xs h) in
    let none = literals-without-backslash-stay a b q 0 xs (rest_plain x xs h) in
    rw (first_plain x xs h, and-false (has_escapes a), and-false (has_escapes b), one, none) refl

-- two styles with the same comments
module _ (a b : CommentStyle) (c : is_c_like a ≡ is_c_like b) (f : is_fortran a ≡ is_fortran b) where
  piece-stays : (xs : List ℕ) → has_backslash xs ≡ false → piece a xs ≡ piece b xs
  unfolding piece
  piece-stays [] h = refl
  piece-stays (x ∷ xs) h = rw (c, f, literals-without-backslash-stay a b x 0 xs (rest_plain x xs h)) refl

  pub scan-stays : (k at : ℕ) (xs : List ℕ) → has_backslash xs ≡ false → scan_from a k at xs ≡ scan_from b k at xs
  unfolding scan_from
  scan-stays zero at [] h = refl
  scan-stays (suc k) at [] h = refl
  scan-stays (suc k) at (x ∷ xs) h = scan-stays k (suc at) xs (rest_plain x xs h)
  scan-stays zero at (x ∷ xs) h =
      rw (piece-stays (x ∷ xs) h, scan-stays (rest (piece b (x ∷ xs))) (suc at) xs (rest_plain x xs h)) refl
