-- Laws of dull bytes: before a row of them and behind it the same is unclosed, wherever it stands.
-- By the laws of the marks, a byte at a time. Assumes nothing.
use mathlib.Core.Path.{◌≡◌, refl, sym, ap, ◌∙◌}
use mathlib.Core.Bool.{Bool, true, false, cond, not, ◌&&◌, ◌||◌}
use mathlib.Core.List.{List, []}
use Prim.Native.Nat.{ℕ, zero, suc, ◌+◌, ◌-◌, ◌^◌, ◌<◌, ◌≤◌}
use native.Mathlib.Nat.{add-zero}
use native.Mathlib.Numerals.{add-one}
use native.Mathlib.Omega.{arith}
use borrow.Author.Tests.{eqb-true, eqb-false, ltb-true, ltb-false, not-true}
use Rattle.std.proofs.Math.Bool.{and-true, and_assoc}
use lib.Dec.{eqb, ltb}
use lib.ListN.{length, drop, get_or, drop_of_length-le}
use Rattle.std.specs.List.{list_all}
use Rattle.ascii.specs.Ascii.{is_eol}
use Rattle.ascii.proofs.Flags.{and_left, and_right, or-none, by_cases}
use Rattle.code.specs.declared.CommentStyle.{CommentStyle}
use Rattle.code.specs.declared.Flags.{Flags}
use Rattle.code.specs.Code.{has_escapes, hides_next, is_plain}
use Rattle.code.specs.Marks.{clean, past_end, flags_at, marks_from, marked_from, is_dull, dulls}
use Rattle.code.proofs.Laws.{drop_at}
use Rattle.code.proofs.FaultLaws.{plain-parts, plain_code}
use Rattle.code.proofs.MarkLaws.{clean-code, quote-plain, block_goes, line-goes, ones, flag-code, flags-past}

-- four tests that all hold
four : (a b c d : Bool) → (a && b && c && d) ≡ true → (a ≡ true) × (b ≡ true) × (c ≡ true) × (d ≡ true)
four a b c d h =
    let p = and_left (a && b && c) d h in
    let q = and_left (a && b) c p in
    (and_left a b q, and_right a b q, and_right (a && b) c p, and_right (a && b && c) d h)

-- one dull byte, and a row of them
module _ (style : CommentStyle) (s : List ℕ) where
  module _ (i : ℕ) (h : i < length s) (d : is_dull (get_or s i 0) ≡ true) where
    abbrev here : ℕ
    here = get_or s i 0

    parts : (is_plain here ≡ true) × (eqb here 92 ≡ false) × (eqb here 42 ≡ false) × (is_eol here ≡ false)
    parts =
        let p = four (is_plain here) (not (eqb here 92)) (not (eqb here 42)) (not (is_eol here)) d in
        (p.0, not-true (eqb here 92) p.1, not-true (eqb here 42) p.2, not-true (is_eol here) p.3)

    -- so it hides nothing in a literal in q, if it is not q
    plain_in : (b q next : ℕ) → eqb b 92 ≡ false → eqb b q ≡ false → hides_next style q b next ≡ false
    plain_in b q next e f = rw (e, f) (none (has_escapes style))
      where
        none : (t : Bool) → ((t && false) || (false && eqb next q)) ≡ false
        none true = refl
        none false = refl

    no-quotes : (eqb here 39 ≡ false) × (eqb here 34 ≡ false)
    no-quotes = or-none (eqb here 39) (eqb here 34) (plain-parts here parts.0).0

    pub flags-dull : flags_at style s i ≡ flags_at style s (i + 1)
    unfolding flags_at
    flags-dull =
        let p = parts in
        let q = no-quotes in
        rw (
          clean-code style s i h (plain_code style s i h p.0),
          quote-plain style s i 39 h (plain_in here 39 (get_or s (i + 1) 0) p.1 q.0) q.0,
          quote-plain style s i 34 h (plain_in here 34 (get_or s (i + 1) 0) p.1 q.1) q.1,
          block_goes style s i h (rw p.2 refl),
          line-goes style s i h p.3,
        ) refl

  -- n of them from a place on
  abbrev Dull : ℕ → ℕ → Type 0
  Dull i n = (j : ℕ) → j < n → is_dull (get_or s (i + j) 0) ≡ true

  dull-first : (i n : ℕ) → Dull i (suc n) → is_dull (get_or s i 0) ≡ true
  dull-first i n d = rw (add-zero i) at (d 0 (omega arith))

  dull-rest : (i n : ℕ) → Dull i (suc n) → Dull (suc i) n
  dull-rest i n d j h = let e : suc i + j ≡ i + suc j = omega arith in rw e (d (suc j) (omega arith))

  pub flags-run : (n i : ℕ) → i + n ≤ length s → Dull i n → flags_at style s i ≡ flags_at style s (i + n)
  flags-run zero i h d = rw (add-zero i) refl
  flags-run (suc n) i h d =
      let e : suc i + n ≡ i + suc n = omega arith in
      flags-dull i (omega arith) (dull-first i n d) ∙ rw (add-one i, ← e) (flags-run n (suc i) (omega arith) (dull-rest i n d))

  clean_run : (n i : ℕ) → i + n ≤ length s → Dull i n → clean style s i ≡ clean style s (i + n)
  unfolding flags_at
  clean_run n i h d = ap (λ (f : Flags). f.code) (flags-run n i h d)

  pub marks-run : (n i : ℕ) → i + n ≤ length s → Dull i n → marks_from style s i n ≡ cond (clean style s (i + n)) (2 ^ n - 1) 0
  marks-run zero i h d = nought (clean style s (i + 0))
    where
      nought : (b : Bool) → 0 ≡ cond b (2 ^ 0 - 1) 0
      nought true = refl
      nought false = refl
  marks-run (suc n) i h d =
      let e : suc i + n ≡ i + suc n = omega arith in
      let c = clean_run (suc n) i h d in
      rw (marks-run n (suc i) (omega arith) (dull-rest i n d), e, c) (ones style s (clean style s (i + suc n)) n)

  -- what the question of n bytes tells
  pub dulls-told : (n at : ℕ) → at + n ≤ length s → dulls s at n ≡ true → Dull at n
  dulls-told zero at h e j p = absurd (omega arith)
  dulls-told (suc n) at h e j p =
      let inside : at < length s = omega arith in
      let f = rw (drop_at s at inside) at e in
      by_cases (eqb j 0)
      (λ t. rw (eqb-true j 0 t, add-zero at) (and_left (is_dull (get_or s at 0)) (dulls s (at + 1) n) f))
      (λ t. let k : at + 1 + (j - 1) ≡ at + j = omega (arith, eqb-false j 0 t) in
      rw k at (dulls-told n (at + 1) (omega arith) (and_right (is_dull (get_or s at 0)) (dulls s (at + 1) n) f) (j - 1) (omega (arith, eqb-false j 0 t))))

  -- n of them, at least two: all marks are that of the place behind them, and its flags are those of the first and the second
  pub dull-places : (n at : ℕ) (f : Flags) → 2 ≤ n → at + n ≤ length s → dulls s at n ≡ true → f ≡ flags_at style s (at + n)
      → marked_from style s at n ≡ record { bits = cond f.code (2 ^ n - 1) 0; near = record { one = f; two = f } }
  dull-places n at f l h d e =
      let m = dulls-told n at h d in
      let k : n ≡ suc (n - 1) = omega arith in
      let one : flags_at style s at ≡ f = flags-run n at h m ∙ sym e in
      let two : flags_at style s (at + 1) ≡ f = sym (flags-dull at (omega arith) (dull-first at (n - 1) (rw k at m))) ∙ one in
      let b : marks_from style s at n ≡ cond f.code (2 ^ n - 1) 0 = marks-run n at h m ∙ ap (λ c. cond c (2 ^ n - 1) 0) (sym (flag-code style s (at + n) f e)) in
      rw (one, two, b) refl

  -- where the text ends in dull bytes from a place on: the flags there are those of its end, and all marks are 1
  abbrev pub Ends : ℕ → Type 0
  Ends at = list_all is_dull (drop at s) ≡ true

  module _ (at : ℕ) (d : Ends at) where
    ends-first : at < length s → is_dull (get_or s at 0) ≡ true
    ends-first h = and_left (is_dull (get_or s at 0)) (list_all is_dull (drop (at + 1) s)) (rw (drop_at s at h) at d)

    ends-next : Ends (at + 1)
    ends-next =
        by_cases (ltb at (length s))
        (λ t. and_right (is_dull (get_or s at 0)) (list_all is_dull (drop (at + 1) s)) (rw (drop_at s at (ltb-true at (length s) t)) at d))
        (λ t. let none : drop (at + 1) s ≡ [] = drop_of_length-le s (omega (arith, ltb-false at (length s) t)) in rw none refl)

  flags-end-in : (k at : ℕ) → length s ≤ at + k → Ends at → flags_at style s at ≡ past_end
  flags-end-in zero at h d = flags-past style s at (omega (arith, h))
  flags-end-in (suc k) at h d =
      by_cases (ltb at (length s))
      (λ t. let i = ltb-true at (length s) t in flags-dull at i (ends-first at d i) ∙ flags-end-in k (at + 1) (omega arith) (ends-next at d))
      (λ t. flags-past style s at (omega (arith, ltb-false at (length s) t)))

  flags-end : (at : ℕ) → Ends at → flags_at style s at ≡ past_end
  flags-end at d = flags-end-in (length s) at (omega arith) d

  marks-end : (n at : ℕ) → Ends at → marks_from style s at n ≡ 2 ^ n - 1
  marks-end zero at d = refl
  marks-end (suc n) at d = rw (← (flag-code style s at past_end (sym (flags-end at d))), ← (add-one at), marks-end n (at + 1) (ends-next at d)) (ones style s true n)

  pub dull-end : (n at : ℕ) → Ends at → marked_from style s at n ≡ record { bits = 2 ^ n - 1; near = record { one = past_end; two = past_end } }
  dull-end n at d = rw (marks-end n at d, flags-end at d, flags-end (at + 1) (ends-next at d)) refl

-- the question of n bytes, one more, of eight, and of 32 by eights
module _ (s : List ℕ) where
  dulls-more : (n at : ℕ) → at + n < length s → dulls s at (n + 1) ≡ (dulls s at n && is_dull (get_or s (at + n) 0))
  dulls-more zero at h = rw (drop_at s at (omega (arith, h)), add-zero at) (and-true (is_dull (get_or s at 0)))
  dulls-more (suc n) at h =
      let e : at + 1 + n ≡ at + suc n = omega arith in
      let more : suc n + 1 ≡ suc (n + 1) = omega arith in
      rw (more, drop_at s at (omega arith)) (ap (λ b. is_dull (get_or s at 0) && b) (dulls-more n (at + 1) (omega arith) ∙ rw e refl) ∙ sym (and_assoc (is_dull (get_or s at 0)) (dulls s (at + 1) n) (is_dull (get_or s (at + suc n) 0))))

  abbrev dull-at : ℕ → Bool
  dull-at i = is_dull (get_or s i 0)

  pub dulls-eight : (at : ℕ) → at + 8 ≤ length s
      → dulls s at 8 ≡ (dull-at at && dull-at (at + 1) && dull-at (at + 2) && dull-at (at + 3) && dull-at (at + 4) && dull-at (at + 5) && dull-at (at + 6) && dull-at (at + 7))
  dulls-eight at h =
      let more = λ (n : ℕ) (k : n < 8). dulls-more n at (omega (arith, h, k)) in
      rw (more 7 (omega arith), more 6 (omega arith), more 5 (omega arith), more 4 (omega arith), more 3 (omega arith), more 2 (omega arith), more 1 (omega arith), more 0 (omega arith), add-zero at) refl

  dulls-apart : (m n at : ℕ) → at + (m + n) ≤ length s → dulls s at (m + n) ≡ (dulls s at m && dulls s (at + m) n)
  dulls-apart m zero at h = rw (add-zero m) (sym (and-true (dulls s at m)))
  dulls-apart m (suc n) at h =
      let more : m + suc n ≡ m + n + 1 = omega arith in
      let last : suc n ≡ n + 1 = omega arith in
      let e : at + m + n ≡ at + (m + n) = omega arith in
      rw (more, dulls-more (m + n) at (omega arith), dulls-apart m n at (omega arith), last, dulls-more n (at + m) (omega arith), e) (and_assoc (dulls s at m) (dulls s (at + m) n) (dull-at (at + (m + n))))

  pub dulls-cell : (at : ℕ) → at + 32 ≤ length s → dulls s at 32 ≡ (dulls s at 8 && dulls s (at + 8) 8 && dulls s (at + 16) 8 && dulls s (at + 24) 8)
  dulls-cell at h = rw (dulls-apart 24 8 at h, dulls-apart 16 8 at (omega arith), dulls-apart 8 8 at (omega arith)) refl
