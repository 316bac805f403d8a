-- Laws of a book's form: what a count of entries or of bytes waits for, and the first bad byte at a place, in the terms of a loop.
-- Assumes nothing.
use mathlib.Core.Path.{◌≡◌, refl, ◌∙◌}
use mathlib.Core.Bool.{false, Bool, true, cond, ◌&&◌}
use Rattle.std.specs.Prelude.{Option, Some, None}
use mathlib.Core.List.{List}
use Prim.Native.Nat.{ℕ, zero, suc, ◌+◌, ◌<◌, ◌≤◌}
use native.Mathlib.Numerals.{add-one}
use native.Mathlib.Omega.{arith}
use lib.ListN.{length, drop, get_or, drop_of_length-le}
use lib.Seq.{drop-cons}
use lib.Dec.{ltb, leb}
use borrow.Author.Tests.{leb-true, ltb-true, ltb-false, lt-ltb}
use Rattle.ascii.proofs.Flags.{by_cases, and_left, and_right}
use Rattle.bookform.specs.declared.Expect.{Expect}
use Rattle.bookform.specs.declared.Expect.TheVariants.{HeaderByte, ClauseCount}
use Rattle.bookform.specs.Format.{is_header, is_length, directives_left, when_good, stepped, ended_at, bad_from}

-- what cannot be, and what a good byte leads to
pub never : {X : Type 0} (p : ℕ) → ◌≡◌ {A = Option ℕ} (Some p) None → X
never p e = let z : ◌≡◌ {A = ℕ} 0 1 = cc in absurd (omega arith)

pub when-next : (b : Bool) (e next : Expect) → when_good b e ≡ Some next → (b ≡ true) × (next ≡ e)
when-next true e next h = (refl, cc)
when-next false e next h = let z : ◌≡◌ {A = ℕ} 0 1 = cc in absurd (omega arith)

-- a name has a byte at least
pub at_least : (b : ℕ) → is_length b ≡ true → 1 ≤ b
at_least b h = leb-true 1 b (and_left (leb 1 b) (leb b 64) h)

-- the byte at a place is bad, or leads on; or the book ends there
module _ (bs : List ℕ) (e : Expect) (at : ℕ) where
  pub bad-here : at < length bs → stepped e (get_or bs at 0) ≡ None → bad_from e at (drop at bs) ≡ Some at
  unfolding bad_from
  bad-here h g = rw (drop-cons bs at 0, bad_from, g)

  pub bad-later : (next : Expect) → at < length bs → stepped e (get_or bs at 0) ≡ Some next
      → bad_from e at (drop at bs) ≡ bad_from next (at + 1) (drop (at + 1) bs)
  unfolding bad_from
  bad-later next h g = rw (add-one, drop-cons bs at 0, bad_from, g)

  pub bad-end : length bs ≤ at → bad_from e at (drop at bs) ≡ ended_at e at
  unfolding bad_from
  bad-end h = rw (drop_of_length-le bs h)

-- the header byte by byte: what is waited for at each of its places, and once its last byte is read
abbrev header_state : List ℕ → ℕ → Expect
header_state bs i = cond (ltb i 8) (HeaderByte i) (ClauseCount (get_or bs 7 0))

module _ (bs : List ℕ) (long : 9 ≤ length bs) where
  header-next : (i : ℕ) → i < 8 → is_header i (get_or bs i 0) ≡ true
      → bad_from (header_state bs i) i (drop i bs) ≡ bad_from (header_state bs (i + 1)) (i + 1) (drop (i + 1) bs)
  header-next i h t =
      by_cases (ltb i 7)
      (λ k. let m = ltb-true i 7 k in
      rw (lt-ltb i 8 h, lt-ltb (i + 1) 8 (omega arith)) (bad-later bs (HeaderByte i) i (HeaderByte (i + 1)) (omega arith) (rw (t, k) refl)))
      (λ k. let e : i ≡ 7 = omega (arith, ltb-false i 7 k) in
      rw e (bad-later bs (HeaderByte 7) 7 (ClauseCount (get_or bs 7 0)) (omega arith) (rw (rw e at t) refl)))

  -- so many of its bytes behind the first
  abbrev pub run-header : ℕ → Bool
  run-header zero = is_header 0 (get_or bs 0 0)
  run-header (suc k) = run-header k && is_header (suc k) (get_or bs (suc k) 0)

  pub header-run : (k : ℕ) → k < 8 → run-header k ≡ true → bad_from (HeaderByte 0) 0 bs ≡ bad_from (header_state bs (suc k)) (suc k) (drop (suc k) bs)
  header-run zero l h = header-next 0 l h
  header-run (suc k) l h =
      let n : suc k + 1 ≡ suc (suc k) = omega arith in
      header-run k (omega arith) (and_left (run-header k) (is_header (suc k) (get_or bs (suc k) 0)) h)
      ∙ rw n at (header-next (suc k) l (and_right (run-header k) (is_header (suc k) (get_or bs (suc k) 0)) h))

  pub header-end : bad_from (header_state bs 8) 8 (drop 8 bs) ≡ bad_from (directives_left (get_or bs 7 0) (get_or bs 8 0)) 9 (drop 9 bs)
  header-end = bad-later bs (ClauseCount (get_or bs 7 0)) 8 (directives_left (get_or bs 7 0) (get_or bs 8 0)) (omega arith) refl
