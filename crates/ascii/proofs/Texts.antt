-- Laws of runs, comparing and the first high byte, at a place of a text in the terms of a loop; of trimming; and of dropping to a place.
-- Assumes nothing.
use mathlib.Core.Path.{◌≡◌, refl, ap, ◌∙◌}
use mathlib.Core.Bool.{Bool, true, false, cond, not, ◌&&◌, and-false}
use Rattle.std.specs.Prelude.{Some, None}
use mathlib.Core.List.{List, [], ◌∷◌, ◌++◌, reverse, reverse-append, reverse-cons}
use Prim.Native.Nat.{ℕ, zero, suc, ◌+◌, ◌-◌, ◌<◌, ◌≤◌}
use native.Mathlib.Nat.{add-zero, zero-add}
use native.Mathlib.Numerals.{add-one}
use native.Mathlib.Omega.{arith}
use lib.ListN.{length, take, drop, get_or, length-reverse, length-drop}
use lib.Seq.{drop-cons, split_at, append_snoc}
use lib.Dec.{eqb, ltb, leb, leb-suc-suc}
use Rattle.std.specs.List.{prefix_len, list_all, zip}
use Rattle.std.proofs.lemmas.List.{get_or-reverse}
use Rattle.std.proofs.lemmas.List.Sums.{prefix_len_is, prefix_len_passes, suffix_len_is}
use borrow.Author.Tests.{lt-ltb, le-ltb, leb-true, leb-false, eq-eqb, ne_eqb, eqb-true, eqb-false}
use Rattle.ascii.specs.declared.Range.{Range}
use Rattle.ascii.specs.Ascii.{is_trimmed, is_low}
use Rattle.ascii.specs.Text.{all_from, leading, past, up_to, trimmed, begins, first_high}
use Rattle.ascii.proofs.Flags.{and_left, and_right, by_cases}

-- runs
pub leading_le : (p : ℕ → Bool) (xs : List ℕ) → leading p xs ≤ length xs
unfolding leading
leading_le p [] = omega arith
leading_le p (x ∷ xs) = go (p x) (leading_le p xs)
  where
    go : (b : Bool) → leading p xs ≤ length xs → cond b (suc (leading p xs)) 0 ≤ suc (length xs)
    go true h = omega arith
    go false h = omega arith

-- it is the library's count of leading elements
pub leading_counts : (p : ℕ → Bool) (xs : List ℕ) → leading p xs ≡ prefix_len p xs
unfolding leading
leading_counts p [] = refl
leading_counts p (x ∷ xs) =
    let e : suc (leading p xs) ≡ 1 + prefix_len p xs = omega (arith, leading_counts p xs) in
    ap (λ n. cond (p x) n 0) e

-- so a run is known by what it passes and where it stops, from the front and from the back
pub leading_is : (p : ℕ → Bool) (xs : List ℕ) (n : ℕ) → n ≤ length xs → ((k : ℕ) → k < n → p (get_or xs k 0) ≡ true) → (n < length xs → p (get_or xs n 0) ≡ false) → leading p xs ≡ n
leading_is p xs n h before here = leading_counts p xs ∙ prefix_len_is p xs n 0 h before here

pub trailing_is : (p : ℕ → Bool) (xs : List ℕ) (n : ℕ) → n ≤ length xs → ((k : ℕ) → n ≤ k → k < length xs → p (get_or xs k 0) ≡ true) → (0 < n → p (get_or xs (n - 1) 0) ≡ false)
    → n ≡ length xs - leading p (reverse xs)
trailing_is p xs n h after here = omega (arith, leading_counts p (reverse xs), suffix_len_is p xs n 0 h after here)

-- each byte of the run at the end has the property
pub trailing_passes : (p : ℕ → Bool) (xs : List ℕ) (j : ℕ) → length xs - leading p (reverse xs) ≤ j → j < length xs → p (get_or xs j 0) ≡ true
trailing_passes p xs j h b =
    let k = length xs - 1 - j in
    let m = prefix_len_passes p (reverse xs) k 0 (omega (arith, leading_counts p (reverse xs))) in
    let e : length xs - 1 - k ≡ j = omega arith in
    rw (get_or-reverse xs k 0 (omega arith), e) at m

module _ (p : ℕ → Bool) (s : List ℕ) (i : ℕ) where
  pub leading-more : i < length s → p (get_or s i 0) ≡ true → leading p (drop i s) ≡ suc (leading p (drop (i + 1) s))
  unfolding leading
  leading-more h e = rw (add-one, drop-cons s i 0, leading, e)

-- the byte at a place and the k behind it are passed
module _ (p : ℕ → Bool) (s : List ℕ) (i : ℕ) where
  pub leading-past : (k : ℕ) → i + k < length s → all_from p s i k ≡ true → leading p (drop i s) ≡ suc k + leading p (drop (i + suc k) s)
  leading-past zero h e = omega (arith, leading-more p s i (omega arith) e)
  leading-past (suc k) h e =
      let n : i + suc k + 1 ≡ i + suc (suc k) = omega arith in
      let m = leading-more p s (i + suc k) h (and_right (all_from p s i k) (p (get_or s (i + suc k) 0)) e) in
      omega (arith, leading-past k (omega arith) (and_left (all_from p s i k) (p (get_or s (i + suc k) 0)) e), rw n at m)

-- eight of them, sixteen, thirty-two
module _ (p : ℕ → Bool) (s : List ℕ) where
  abbrev pub eight_from : ℕ → Bool
  eight_from i = all_from p s i 7

  pub past-eight : (i : ℕ) → i + 8 ≤ length s → eight_from i ≡ true → leading p (drop i s) ≡ 8 + leading p (drop (i + 8) s)
  past-eight i h e = leading-past p s i 7 (omega arith) e

  pub past-sixteen : (i : ℕ) → i + 16 ≤ length s → (eight_from i && eight_from (i + 8)) ≡ true → leading p (drop i s) ≡ 16 + leading p (drop (i + 16) s)
  past-sixteen i h e =
      let n : i + 8 + 8 ≡ i + 16 = omega arith in
      let a = past-eight i (omega arith) (and_left (eight_from i) (eight_from (i + 8)) e) in
      let b = past-eight (i + 8) (omega arith) (and_right (eight_from i) (eight_from (i + 8)) e) in
      omega (arith, a, rw n at b)

  pub past-many : (i : ℕ) → i + 32 ≤ length s → (eight_from i && eight_from (i + 8) && eight_from (i + 16) && eight_from (i + 24)) ≡ true
      → leading p (drop i s) ≡ 32 + leading p (drop (i + 32) s)
  past-many i h e =
      let n : i + 16 + 8 ≡ i + 24 = omega arith in
      let m : i + 24 + 8 ≡ i + 32 = omega arith in
      let x = eight_from i && eight_from (i + 8) in
      let xy = and_left (x && eight_from (i + 16)) (eight_from (i + 24)) e in
      let a = past-sixteen i (omega arith) (and_left x (eight_from (i + 16)) xy) in
      let b = past-eight (i + 16) (omega arith) (and_right x (eight_from (i + 16)) xy) in
      let c = past-eight (i + 24) (omega arith) (and_right (x && eight_from (i + 16)) (eight_from (i + 24)) e) in
      omega (arith, a, rw n at b, rw m at c)

-- a run stops at a byte without the property
leading-bounded : (p : ℕ → Bool) (ws : List ℕ) (b : ℕ) (vs : List ℕ) → p b ≡ false → leading p (ws ++ b ∷ vs) ≤ length ws
unfolding leading
leading-bounded p [] b vs e = rw e (omega arith)
leading-bounded p (w ∷ ws) b vs e = go (p w) (leading-bounded p ws b vs e)
  where
    go : (t : Bool) → leading p (ws ++ b ∷ vs) ≤ length ws → cond t (suc (leading p (ws ++ b ∷ vs))) 0 ≤ suc (length ws)
    go true h = omega arith
    go false h = omega arith

leading-stops : (p : ℕ → Bool) (xs : List ℕ) → leading p xs < length xs → p (get_or xs (leading p xs) 0) ≡ false
unfolding leading
leading-stops p [] h = absurd (omega arith)
leading-stops p (x ∷ xs) h = go (p x) refl (leading-stops p xs) h
  where
    go : (b : Bool) → p x ≡ b → (leading p xs < length xs → p (get_or xs (leading p xs) 0) ≡ false)
        → cond b (suc (leading p xs)) 0 < suc (length xs) → p (get_or (x ∷ xs) (cond b (suc (leading p xs)) 0) 0) ≡ false
    go true e ih h = ih (omega arith)
    go false e ih h = e

-- the runs at the two ends of a text that is not one run do not overlap
pub leading-apart : (p : ℕ → Bool) (xs : List ℕ) → leading p xs < length xs → leading p xs + leading p (reverse xs) < length xs
leading-apart p xs h =
    let k = leading p xs in
    let b = get_or xs k 0 in
    let rest = drop (suc k) xs in
    let e : reverse xs ≡ reverse rest ++ b ∷ reverse (take k xs) =
    ap reverse (split_at xs k 0 h)
    ∙ reverse-append (take k xs) (b ∷ rest)
    ∙ ap (λ (l : List ℕ). l ++ reverse (take k xs)) (reverse-cons b rest)
    ∙ append_snoc (reverse rest) b (reverse (take k xs))
    in
    let f = leading-bounded p (reverse rest) b (reverse (take k xs)) (leading-stops p xs h) in
    omega (arith, rw (← e) at f, length-reverse rest, length-drop (suc k) xs)

-- up to and with the first byte that has a property: the run of the others, and that byte if there is one
pub up-to : (p : ℕ → Bool) (xs : List ℕ) → up_to p xs ≡ past (λ b. not (p b)) xs
unfolding up_to leading
up-to p [] = refl
up-to p (x ∷ xs) = go (p x) (up-to p xs)
  where
    go : (b : Bool) → up_to p xs ≡ past (λ b. not (p b)) xs
        → cond b 1 (suc (up_to p xs))
        ≡ cond (not b) (suc (leading (λ b. not (p b)) xs)) 0 + cond (ltb (cond (not b) (suc (leading (λ b. not (p b)) xs)) 0) (suc (length xs))) 1 0
    go true h = rw (lt-ltb 0 (suc (length xs)) (omega arith)) refl
    go false h = rw (h, leb-suc-suc) (omega arith)

-- the end of a run with the byte behind it, by the end e of the run
module _ (p : ℕ → Bool) (s : List ℕ) (i e : ℕ) (r : e ≡ i + leading p (drop i s)) where
  pub past-more : e < length s → e + 1 ≡ i + past p (drop i s)
  past-more h =
      let n = length-drop i s in
      rw (lt-ltb (leading p (drop i s)) (length (drop i s)) (omega arith)) (omega arith)

  pub past-all : length s ≤ e → e ≡ i + past p (drop i s)
  past-all h =
      let n = length-drop i s in
      rw (le-ltb (leading p (drop i s)) (length (drop i s)) (omega arith)) (omega arith)

-- comparing: byte by byte, where the text is as long as the word
pub begins-zip : (f : ℕ → ℕ) (w s : List ℕ) → length w ≤ length s → begins f w s ≡ list_all (λ p. eqb (f p.0) (f p.1)) (zip w s)
unfolding begins
begins-zip f [] s h = refl
begins-zip f (x ∷ w) [] h = absurd (omega arith)
begins-zip f (x ∷ w) (y ∷ s) h = ap (λ b. eqb (f x) (f y) && b) (begins-zip f w s (omega arith))

pub begins-longer : (f : ℕ → ℕ) (w s : List ℕ) → length s < length w → begins f w s ≡ false
unfolding begins
begins-longer f [] s h = absurd (omega arith)
begins-longer f (x ∷ w) [] h = refl
begins-longer f (x ∷ w) (y ∷ s) h = rw (begins-longer f w s (omega arith), and-false)

-- the first byte above 127 is where the run of the others ends
pub high_some : (at : ℕ) (xs : List ℕ) → leading is_low xs < length xs → first_high at xs ≡ Some (at + leading is_low xs)
unfolding first_high leading
high_some at [] h = absurd (omega arith)
high_some at (x ∷ xs) h = go (leb x 127) refl (high_some (suc at) xs) h
  where
    go : (b : Bool) → leb x 127 ≡ b → (leading is_low xs < length xs → first_high (suc at) xs ≡ Some (suc at + leading is_low xs)) → cond b (suc (leading is_low xs)) 0 < suc (length xs)
        → cond (ltb 127 x) (Some at) (first_high (suc at) xs) ≡ Some (at + cond b (suc (leading is_low xs)) 0)
    go true e ih h =
        let shift : suc at + leading is_low xs ≡ at + suc (leading is_low xs) = omega arith in
        rw (le-ltb 127 x (leb-true x 127 e), ih (omega arith), shift)
    go false e ih h = rw (lt-ltb 127 x (leb-false x 127 e), add-zero)

pub high_none : (at : ℕ) (xs : List ℕ) → length xs ≤ leading is_low xs → first_high at xs ≡ None
unfolding first_high leading
high_none at [] h = refl
high_none at (x ∷ xs) h = go (leb x 127) refl (high_none (suc at) xs) h
  where
    go : (b : Bool) → leb x 127 ≡ b → (length xs ≤ leading is_low xs → first_high (suc at) xs ≡ None) → suc (length xs) ≤ cond b (suc (leading is_low xs)) 0 → cond (ltb 127 x) (Some at) (first_high (suc at) xs) ≡ None
    go true e ih h = rw (le-ltb 127 x (leb-true x 127 e), ih (omega arith))
    go false e ih h = absurd (omega arith)

-- trimming
module _ (at : ℕ) (xs : List ℕ) where
  pub trimmed-blank : leading is_trimmed xs ≡ length xs → trimmed at xs ≡ record { start = at; end = at }
  unfolding trimmed
  trimmed-blank e = rw (eq-eqb _ _ e)

  pub trimmed-solid : (leading is_trimmed xs ≡ length xs → ⊥)
      → trimmed at xs ≡ record { start = at + leading is_trimmed xs; end = at + length xs - leading is_trimmed (reverse xs) }
  unfolding trimmed
  trimmed-solid e = rw (ne_eqb _ _ e)

  pub trimmed-bounds : (at ≤ (trimmed at xs).start) × (((trimmed at xs).start ≤ (trimmed at xs).end) × ((trimmed at xs).end ≤ at + length xs))
  trimmed-bounds =
      by_cases (eqb (leading is_trimmed xs) (length xs))
      (λ e. rw (trimmed-blank (eqb-true _ _ e)) (omega arith))
      (λ e. let n = eqb-false (leading is_trimmed xs) (length xs) e in
      let h : leading is_trimmed xs < length xs = omega (arith, leading_le is_trimmed xs) in
      rw (trimmed-solid n) (omega (arith, leading-apart is_trimmed xs h)))

-- the place of a text shifts its trimmed range
pub trimmed-shift : (at : ℕ) (xs : List ℕ) → trimmed at xs ≡ record { start = at + (trimmed 0 xs).start; end = at + (trimmed 0 xs).end }
trimmed-shift at xs =
    by_cases (eqb (leading is_trimmed xs) (length xs))
    (λ e. let b = eqb-true _ _ e in rw (trimmed-blank at xs b, trimmed-blank 0 xs b, add-zero))
    (λ e. let n = eqb-false (leading is_trimmed xs) (length xs) e in
    let h : leading is_trimmed xs < length xs = omega (arith, leading_le is_trimmed xs) in
    let a = leading-apart is_trimmed xs h in
    let q : at + (0 + length xs - leading is_trimmed (reverse xs)) ≡ at + length xs - leading is_trimmed (reverse xs) = omega arith in
    rw (trimmed-solid at xs n, trimmed-solid 0 xs n, zero-add, q))

-- the two ends of a text that is not blank make its trimmed range
pub trimmed-ends : (xs : List ℕ) (s e : ℕ) → s ≡ 0 + leading is_trimmed xs → e ≡ length xs - leading is_trimmed (reverse xs) → (s ≡ length xs → ⊥)
    → (record { start = s; end = e } ≡ trimmed 0 xs) × ((s ≤ e) × (e ≤ length xs))
trimmed-ends xs s e p q n =
    let t = trimmed-solid 0 xs (λ f. n (omega arith)) in
    let z : 0 + length xs ≡ length xs = omega arith in
    let r : record { start = s; end = e } ≡ trimmed 0 xs = rw (t, p, q, z) in
    (r, rw (← r, z) at (trimmed-bounds 0 xs).1)

pub part-shift : (at : ℕ) (xs : List ℕ) (r : Range) → r ≡ trimmed 0 xs → record { start = at + r.start; end = at + r.end } ≡ trimmed at xs
part-shift at xs r e = rw (trimmed-shift at xs, e)
