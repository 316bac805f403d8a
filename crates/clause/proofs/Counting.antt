-- Clauses that are counted and not kept: once the list has ended every later step answers the same, so that counting may stop there.
-- By cases of how far the sequence has come. Assumes nothing.
use Prim.Native.Nat.{ℕ, zero, suc, ◌+◌, ◌-◌, ◌<◌}
use mathlib.Core.Bool.{true≢false, false}
use mathlib.Core.Path.{◌≡◌, refl, sym, ap, ◌∙◌}
use mathlib.Core.List.{List}
use native.Mathlib.Omega.{arith}
use Rattle.std.specs.Prelude.{Result}
use Rattle.refusal.specs.declared.Refusal.{Refusal}
use Rattle.refusal.specs.Answer.{given, and_then, told}
use Rattle.rulebook.specs.Book.{book_of}
use Rattle.clause.specs.declared.SequenceState.{SequenceState}
use Rattle.clause.specs.declared.SequenceEnd.{SequenceEnd}
use Rattle.clause.specs.declared.Progress.{Progress}
use Rattle.clause.specs.Calls.{SequenceCall, counted}
use Rattle.clause.specs.Steps.{Started, onward, is_going, next_state, state_at, records_from, answer_by, answer_of, read_on}
use Rattle.clause.proofs.Sequencing.{left_by, settles}

abbrev Answers : Result SequenceEnd Refusal → SequenceState → Type 0
Answers a s = (answer_of s ≡ a) × (is_going s.progress ≡ false)

-- a step that changes nothing
stays : (bk t : List ℕ) (s : SequenceState) → is_going s.progress ≡ false → Answers (answer_of s) (next_state bk t s)
unfolding next_state
stays bk t s e = go s.progress e
  where
    go : (p : Progress) → is_going p ≡ false → Answers (answer_by s p) (onward (book_of bk) t s p)
    go Progress.Going e = absurd (true≢false e)
    go Progress.Ended e = (refl, refl)
    go (Progress.Refused r) e = (refl, refl)

-- and so many
stays_all : (bk t : List ℕ) (s : SequenceState) (j k n : ℕ) → n ≡ k + j → is_going (state_at bk t s j).progress ≡ false → Answers (answer_of (state_at bk t s j)) (state_at bk t s n)
unfolding state_at
stays_all bk t s j zero n d e =
    let h : n ≡ j = omega arith in
    rw h (refl, e)
stays_all bk t s j (suc k) zero d e = absurd (omega arith)
stays_all bk t s j (suc k) (suc n) d e =
    let l = stays_all bk t s j k n (omega arith) e in
    let m = stays bk t (state_at bk t s n) l.1 in
    (m.0 ∙ l.0, m.1)

module _ (bk t : List ℕ) (s₀ : SequenceState) (n : ℕ) (started : Started t n s₀) where
  pub counts : (r : Result SequenceEnd Refusal) → r ≡ answer_of (next_state bk t (state_at bk t s₀ n)) → told r ≡ and_then (read_on bk t s₀) (λ s. given (counted s))
  counts r e =
      let zs = records_from bk t s₀ 0 n in
      ap (λ (c : SequenceCall). c.answer) (settles bk t s₀ n started r zs (left_by r zs) e refl refl)

  -- after a step that ends the list
  pub counts-ended : (s : SequenceState) (i : ℕ) (r : Result SequenceEnd Refusal) → s ≡ state_at bk t s₀ (i + 1) → i < n → is_going s.progress ≡ false → r ≡ answer_of (next_state bk t s)
      → told r ≡ and_then (read_on bk t s₀) (λ s. given (counted s))
  unfolding state_at
  counts-ended s i r e h g a =
      let d : is_going (state_at bk t s₀ (i + 1)).progress ≡ false = rw e at g in
      let one = stays bk t (state_at bk t s₀ (i + 1)) d in
      let all = stays_all bk t s₀ (i + 1) (suc n - (i + 1)) (suc n) (omega arith) d in
      counts r (a ∙ rw e one.0 ∙ sym all.0)
