-- Laws of the marks: what is unclosed from a place on, by what is from the next place and the one after that.
-- Assumes nothing.
use mathlib.Core.Path.{◌≡◌, refl, ap, ◌∙◌}
use mathlib.Core.Bool.{Bool, true, false, cond, not, ◌&&◌, ◌||◌}
use Rattle.std.specs.Prelude.{Option, Some, None, is_none}
use Rattle.std.proofs.Common.{◌⊎◌, inl, inr}
use mathlib.Core.List.{List}
use Prim.Native.Nat.{ℕ, zero, suc, ◌+◌, ◌-◌, ◌*◌, ◌/◌, ◌%◌, ◌^◌, ◌<◌, ◌≤◌}
use native.Mathlib.Nat.{add-zero, pow-zero, pow-succ', mul_assoc, div-div-eq-div-mul, div-one}
use native.Mathlib.Numerals.{add-one}
use native.Mathlib.Omega.{arith}
use mir.Val.{bool_byte}
use lib.Dec.{eqb}
use lib.Pow.{pow_pos, pow_mono}
use lib.ListN.{length, drop, get_or, drop_of_length-le}
use Rattle.ascii.specs.Ascii.{is_eol}
use Rattle.ascii.specs.Text.{up_to}
use Rattle.code.specs.declared.CommentStyle.{CommentStyle}
use Rattle.code.specs.declared.Flags.{Flags}
use Rattle.code.specs.declared.Near.{Near}
use Rattle.code.specs.declared.Piece.TheVariants.{Code, Hidden}
use Rattle.code.specs.Code.{Scan, more, hides_next, literal, block_end, quoted, is_c_like, is_fortran, commented, slashed, banged, piece}
use Rattle.code.specs.Marks.{clean, ends_clean, quote_clean, block_clean, line_clean, past_end, flags_at, near_at, marks_from, Marked}
use Rattle.code.proofs.Laws.{drop_at, scan-code, scan-hidden, scan-quote, scan-comment, scan-end, literal-both, literal-closed, literal-plain, literal-end, block_closed, block-plain, block_none, slash-block, slash-line, slash-code, bang-line, bang-code, piece_is}

module _ (style : CommentStyle) (s : List ℕ) (i : ℕ) where
  abbrev ends : Option ℕ → Bool
  ends = ends_clean style s

  abbrev hides : ℕ → Bool
  hides q = hides_next style q (get_or s i 0) (get_or s (i + 1) 0)

  abbrev told : Scan → Bool
  told x = is_none x.fault

  -- in a literal
  pub quote-both : (q : ℕ) → i < length s → hides q ≡ true → quote_clean style s q i ≡ quote_clean style s q (i + 2)
  quote-both q h e = ap ends (literal-both style q s i h e)

  pub quote-closed : (q : ℕ) → i < length s → hides q ≡ false → eqb (get_or s i 0) q ≡ true → quote_clean style s q i ≡ clean style s (i + 1)
  quote-closed q h e f = ap ends (literal-closed style q s i h e f)

  pub quote-plain : (q : ℕ) → i < length s → hides q ≡ false → eqb (get_or s i 0) q ≡ false → quote_clean style s q i ≡ quote_clean style s q (i + 1)
  quote-plain q h e f = ap ends (literal-plain style q s i h e f)

  pub quote-past : (q : ℕ) → length s ≤ i → quote_clean style s q i ≡ false
  quote-past q h = ap ends (literal-end style q s i h)

  -- in a block comment
  abbrev closes : Bool
  closes = eqb (get_or s i 0) 42 && eqb (get_or s (i + 1) 0) 47

  pub block-over : i < length s → closes ≡ true → block_clean style s i ≡ clean style s (i + 2)
  block-over h e = ap ends (block_closed s i h e)

  pub block_goes : i < length s → closes ≡ false → block_clean style s i ≡ block_clean style s (i + 1)
  block_goes h e = ap ends (block-plain s i h e)

  pub block-past : length s ≤ i → block_clean style s i ≡ false
  block-past h = ap ends (block_none s i h)

  -- in a line comment
  pub line-over : i < length s → is_eol (get_or s i 0) ≡ true → line_clean style s i ≡ clean style s (i + 1)
  unfolding up_to
  line-over h e = rw (drop_at s i h, e) refl

  pub line-goes : i < length s → is_eol (get_or s i 0) ≡ false → line_clean style s i ≡ line_clean style s (i + 1)
  unfolding up_to
  line-goes h e = rw (drop_at s i h, e) (ap (clean style s) (omega arith))

  pub clean-past : length s ≤ i → clean style s i ≡ true
  unfolding clean
  clean-past h = ap told (scan-end style s i h)

  pub line-past : length s ≤ i → line_clean style s i ≡ true
  unfolding up_to
  line-past h = rw (drop_of_length-le s h, add-zero i) (clean-past h)

  -- in code
  pub clean-code : i < length s → piece style (drop i s) ≡ Code → clean style s i ≡ clean style s (i + 1)
  unfolding clean
  clean-code h e = ap told (scan-code style s i h e)

  clean-hidden : (n : ℕ) → i < length s → piece style (drop i s) ≡ Hidden n → 0 < n → clean style s i ≡ clean style s (i + n)
  unfolding clean
  clean-hidden n h e p = ap told (scan-hidden style s i n h e p)

  pub clean-quote : (o : Option ℕ) → i < length s → piece style (drop i s) ≡ quoted o → clean style s i ≡ ends (more (i + 1) o)
  unfolding clean
  clean-quote None h e = ap told (scan-quote style s i h e)
  clean-quote (Some n) h e = clean-hidden (1 + n) h e (omega arith) ∙ ap (clean style s) (omega arith)

  pub clean-block : (o : Option ℕ) → i < length s → piece style (drop i s) ≡ commented o → clean style s i ≡ ends (more (i + 2) o)
  unfolding clean
  clean-block None h e = ap told (scan-comment style s i h e)
  clean-block (Some n) h e = clean-hidden (2 + n) h e (omega arith) ∙ ap (clean style s) (omega arith)

  pub clean_line : (k : ℕ) → i < length s → piece style (drop i s) ≡ Hidden (k + up_to is_eol (drop (i + k) s)) → 0 < k → clean style s i ≡ line_clean style s (i + k)
  clean_line k h e p = clean-hidden (k + up_to is_eol (drop (i + k) s)) h e (omega arith) ∙ ap (clean style s) (omega arith)

  -- by the byte that stands there
  pub at-quote : (q : ℕ) → i < length s → get_or s i 0 ≡ q → (eqb q 39 || eqb q 34) ≡ true → clean style s i ≡ quote_clean style s q (i + 1)
  at-quote q h b e = clean-quote (literal style q 0 (drop (i + 1) s)) h (piece_is style s i h ∙ rw (b, e) refl)

  slash-piece : i < length s → get_or s i 0 ≡ 47 → piece style (drop i s) ≡ slashed style (drop (i + 1) s)
  slash-piece h b = piece_is style s i h ∙ rw b refl

  pub at-slash-star : i < length s → get_or s i 0 ≡ 47 → eqb (get_or s (i + 1) 0) 42 ≡ true → clean style s i ≡ block_clean style s (i + 2)
  at-slash-star h b e = clean-block (block_end (drop (i + 2) s)) h (slash-piece h b ∙ slash-block style s i e)

  pub at-slash-slash : i < length s → get_or s i 0 ≡ 47 → eqb (get_or s (i + 1) 0) 42 ≡ false → (is_c_like style && eqb (get_or s (i + 1) 0) 47) ≡ true → clean style s i ≡ line_clean style s (i + 2)
  at-slash-slash h b e f = clean_line 2 h (slash-piece h b ∙ slash-line style s i e f) (omega arith)

  pub at-slash-else : i < length s → get_or s i 0 ≡ 47 → eqb (get_or s (i + 1) 0) 42 ≡ false → (is_c_like style && eqb (get_or s (i + 1) 0) 47) ≡ false → clean style s i ≡ clean style s (i + 1)
  at-slash-else h b e f = clean-code h (slash-piece h b ∙ slash-code style s i e f)

  bang-piece : i < length s → get_or s i 0 ≡ 33 → piece style (drop i s) ≡ banged style (drop (i + 1) s)
  bang-piece h b = piece_is style s i h ∙ rw b refl

  pub at-bang-line : i < length s → get_or s i 0 ≡ 33 → (is_fortran style && not (eqb (get_or s (i + 1) 0) 36)) ≡ true → clean style s i ≡ line_clean style s (i + 1)
  at-bang-line h b e = clean_line 1 h (bang-piece h b ∙ bang-line style s i e) (omega arith)

  pub at-bang-else : i < length s → get_or s i 0 ≡ 33 → (is_fortran style && not (eqb (get_or s (i + 1) 0) 36)) ≡ false → clean style s i ≡ clean style s (i + 1)
  at-bang-else h b e = clean-code h (bang-piece h b ∙ bang-code style s i e)

-- each of the five flags
module _ (style : CommentStyle) (s : List ℕ) (i : ℕ) (f : Flags) (e : f ≡ flags_at style s i) where
  pub flag-code : f.code ≡ clean style s i
  unfolding flags_at
  flag-code = ap (λ (x : Flags). x.code) e

  pub flag-single : f.single ≡ quote_clean style s 39 i
  unfolding flags_at
  flag-single = ap (λ (x : Flags). x.single) e

  pub flag-double : f.double ≡ quote_clean style s 34 i
  unfolding flags_at
  flag-double = ap (λ (x : Flags). x.double) e

  pub flag-block : f.block ≡ block_clean style s i
  unfolding flags_at
  flag-block = ap (λ (x : Flags). x.block) e

  pub flag-line : f.line ≡ line_clean style s i
  unfolding flags_at
  flag-line = ap (λ (x : Flags). x.line) e

-- the flags of the two places behind one
module _ (style : CommentStyle) (s : List ℕ) (i : ℕ) (near : Near) (e : near ≡ near_at style s (i + 1)) where
  pub flags-one : near.one ≡ flags_at style s (i + 1)
  flags-one = ap (λ (n : Near). n.one) e

  pub flags-two : near.two ≡ flags_at style s (i + 2)
  flags-two = let k : i + 1 + 1 ≡ i + 2 = omega arith in ap (λ (n : Near). n.two) e ∙ ap (flags_at style s) k

  pub one-code : near.one.code ≡ clean style s (i + 1)
  one-code = flag-code style s (i + 1) near.one flags-one

  pub one-single : near.one.single ≡ quote_clean style s 39 (i + 1)
  one-single = flag-single style s (i + 1) near.one flags-one

  pub one-double : near.one.double ≡ quote_clean style s 34 (i + 1)
  one-double = flag-double style s (i + 1) near.one flags-one

  pub one-block : near.one.block ≡ block_clean style s (i + 1)
  one-block = flag-block style s (i + 1) near.one flags-one

  pub one-line : near.one.line ≡ line_clean style s (i + 1)
  one-line = flag-line style s (i + 1) near.one flags-one

  pub two-code : near.two.code ≡ clean style s (i + 2)
  two-code = flag-code style s (i + 2) near.two flags-two

  pub two-block : near.two.block ≡ block_clean style s (i + 2)
  two-block = flag-block style s (i + 2) near.two flags-two

  pub two-line : near.two.line ≡ line_clean style s (i + 2)
  two-line = flag-line style s (i + 2) near.two flags-two

  -- those of a literal in q
  pub one-literal : (q : ℕ) → (q ≡ 39) ⊎ (q ≡ 34) → cond (eqb q 39) near.one.single near.one.double ≡ quote_clean style s q (i + 1)
  one-literal q (inl h) = rw h one-single
  one-literal q (inr h) = rw h one-double

  pub two-literal : (q : ℕ) → (q ≡ 39) ⊎ (q ≡ 34) → cond (eqb q 39) near.two.single near.two.double ≡ quote_clean style s q (i + 2)
  two-literal q (inl h) = rw h (flag-single style s (i + 2) near.two flags-two)
  two-literal q (inr h) = rw h (flag-double style s (i + 2) near.two flags-two)

-- all five together
module _ (style : CommentStyle) (s : List ℕ) (i : ℕ) where
  pub flags-made : (f : Flags) → f.code ≡ clean style s i → f.single ≡ quote_clean style s 39 i → f.double ≡ quote_clean style s 34 i → f.block ≡ block_clean style s i → f.line ≡ line_clean style s i → f ≡ flags_at style s i
  unfolding flags_at
  flags-made f a b d e g = rw (← a, ← b, ← d, ← e, ← g) refl

  pub flags-past : length s ≤ i → flags_at style s i ≡ past_end
  unfolding flags_at
  flags-past h = rw (clean-past style s i h, quote-past style s i 39 h, quote-past style s i 34 h, block-past style s i h, line-past style s i h) refl

-- marks in a number
module _ (style : CommentStyle) (s : List ℕ) where
  abbrev pub mark : ℕ → ℕ
  mark i = cond (clean style s i) 1 0

  -- the flag as a number is the mark
  pub mark-is : (i : ℕ) (f : Flags) → f ≡ flags_at style s i → bool_byte f.code ≡ mark i
  mark-is i f e = ap bool_byte (flag-code style s i f e) ∙ told (clean style s i)
    where
      told : (b : Bool) → bool_byte b ≡ cond b 1 0
      told true = refl
      told false = refl

  mark-small : (b : Bool) → cond b 1 0 ≤ 1
  mark-small true = omega arith
  mark-small false = omega arith

  marks-lt : (n i : ℕ) → marks_from style s i n < 2 ^ n
  marks-lt zero i = rw (pow-zero 2) (omega arith)
  marks-lt (suc n) i = rw (pow-succ' 2 n) (omega (arith, mark-small (clean style s i), marks-lt n (suc i)))

  pub marks-fit : (n i : ℕ) → n ≤ 32 → marks_from style s i n < 4294967296
  marks-fit n i h = omega (arith, marks-lt n i, pow_mono h)

  pub ones : (b : Bool) (n : ℕ) → cond b 1 0 + 2 * cond b (2 ^ n - 1) 0 ≡ cond b (2 ^ suc n - 1) 0
  ones true n = rw (pow-succ' 2 n) (omega (arith, pow_pos n))
  ones false n = refl

  -- behind the text all are 1
  pub marks-past : (n i : ℕ) → length s ≤ i → marks_from style s i n ≡ 2 ^ n - 1
  marks-past zero i h = refl
  marks-past (suc n) i h = rw (clean-past style s i h, marks-past n (suc i) (omega arith)) (ones true n)

  pub near-past : (i : ℕ) → length s ≤ i → near_at style s i ≡ record { one = past_end; two = past_end }
  near-past i h = rw (flags-past style s i h, flags-past style s (i + 1) (omega arith)) refl

  -- a mark more, in the lowest bit
  pub marks-one : (i n bits b : ℕ) → bits ≡ marks_from style s (i + 1) n → b ≡ mark i → bits * 2 + b ≡ marks_from style s i (n + 1)
  marks-one i n bits b e f = rw (add-one n, ← (add-one i)) (omega (arith, e, f))

  pub marks-bit : (j n i : ℕ) → j < n → marks_from style s i n / 2 ^ j % 2 ≡ mark (i + j)
  marks-bit j zero i h = absurd (omega arith)
  marks-bit zero (suc n) i h =
      let m = mark-small (clean style s i) in
      rw (pow-zero 2, div-one, add-zero i) (omega arith)
  marks-bit (suc j) (suc n) i h =
      let m = mark-small (clean style s i) in
      let half : (mark i + 2 * marks_from style s (suc i) n) / 2 ≡ marks_from style s (suc i) n = omega arith in
      let k : i + suc j ≡ suc i + j = omega arith in
      rw (pow-succ' 2 j, ← div-div-eq-div-mul, half, k) (marks-bit j n (suc i) (omega arith))

  -- the marks of m places and of n behind them
  pub marks-split : (m n i : ℕ) → marks_from style s i (m + n) ≡ marks_from style s i m + 2 ^ m * marks_from style s (i + m) n
  marks-split zero n i = let z : 0 + n ≡ n = omega arith in rw (z, pow-zero 2, add-zero i) (omega arith)
  marks-split (suc m) n i =
      let e : suc i + m ≡ i + suc m = omega arith in
      let d : suc m + n ≡ suc (m + n) = omega arith in
      rw (d, pow-succ' 2 m, marks-split m n (suc i), e) (nested (mark i) (marks_from style s (suc i) m) (2 ^ m) (marks_from style s (i + suc m) n))
    where
      nested : (b x p y : ℕ) → b + 2 * (x + p * y) ≡ b + 2 * x + 2 * p * y
      nested b x p y = rw (mul_assoc 2 p y) (omega arith)

  -- eight marks more
  pub marks-eight : (i n bits b : ℕ) → bits ≡ marks_from style s (i + 8) n → b ≡ marks_from style s i 8 → bits * 256 + b ≡ marks_from style s i (8 + n)
  marks-eight i n bits b e f = rw (marks-split 8 n i) (omega (arith, e, f))

  -- the mark of a place in its cell
  pub mark-told : (b : Bool) → eqb (cond b 1 0) 1 ≡ b
  mark-told true = refl
  mark-told false = refl

  pub marked-at : (marks : List ℕ) (at : ℕ) → Marked style s marks → at ≤ length s → eqb (get_or marks (at / 32) 0 / 2 ^ (at % 32) % 2) 1 ≡ clean style s at
  marked-at marks at m h =
      let k : at / 32 ≤ length s / 32 = omega arith in
      let p : 32 * (at / 32) + at % 32 ≡ at = omega arith in
      let j : at % 32 < 32 = omega arith in
      rw (m.cells (at / 32) k, marks-bit (at % 32) 32 (32 * (at / 32)) j, p) (mark-told (clean style s at))
