-- The slots while `fill_records` stores into them one by one: the list after i stores, and what it is at the end.
-- By induction on the number of stores.
use mathlib.Core.Path.{◌≡◌, refl, sym, ◌∙◌, ap}
use Prim.Native.Nat.{ℕ, zero, suc, ◌<◌, ◌≤◌, ◌+◌}
use native.Mathlib.Omega.{arith}
use native.Mathlib.Numerals.{add-one}
use mathlib.Core.List.{[], ◌∷◌, ◌++◌, List, append_assoc, append-nil}
use lib.ListN.{length, set, drop, length-set, drop_of_length-le}
use lib.Seq.{drop-cons, set_at}
use Rattle.clause.specs.declared.ClauseRecord.{ClauseRecord}
use Rattle.clause.specs.declared.SequenceState.{SequenceState}
use Rattle.clause.specs.Steps.{next_state, state_at, records_from}

module _ (bk t : List ℕ) (s : SequenceState) where
  -- the list on entry with the first i records set
  abbrev pub filled : List ClauseRecord → ℕ → List ClauseRecord
  filled ys zero = ys
  filled ys (suc i) = set (filled ys i) i (state_at bk t s (suc i)).clause

  pub length-filled : (ys : List ClauseRecord) (i : ℕ) → length (filled ys i) ≡ length ys
  length-filled ys zero = refl
  length-filled ys (suc i) = length-set (filled ys i) i (state_at bk t s (suc i)).clause ∙ length-filled ys i

  pub length-records : (i n : ℕ) → length (records_from bk t s i n) ≡ n
  unfolding records_from
  length-records i zero = refl
  length-records i (suc n) = ap suc (length-records (suc i) n)

  snoc-records : (i n : ℕ) → records_from bk t s i (suc n) ≡ records_from bk t s i n ++ ((state_at bk t s (suc (n + i))).clause ∷ [])
  unfolding records_from
  snoc-records i zero = let e : i ≡ 0 + i = omega arith in ap (λ (k : ℕ). (state_at bk t s (suc k)).clause ∷ []) e
  snoc-records i (suc n) =
      let e : n + suc i ≡ suc n + i = omega arith in
      ap (λ (l : List ClauseRecord). (state_at bk t s (suc i)).clause ∷ l)
      (snoc-records (suc i) n ∙ ap (λ (k : ℕ). records_from bk t s (suc i) n ++ ((state_at bk t s (suc k)).clause ∷ [])) e)

  pub filled_is : (ys : List ClauseRecord) (i : ℕ) → i ≤ length ys → filled ys i ≡ records_from bk t s 0 i ++ drop i ys
  unfolding records_from
  filled_is ys zero h = refl
  filled_is ys (suc i) h =
      let v : ClauseRecord = (state_at bk t s (suc i)).clause in
      let lt : i < length ys = h in
      let e : i + 0 ≡ i = omega arith in
      ap (λ (l : List ClauseRecord). set l i v) (filled_is ys i (omega arith) ∙ ap (λ (l : List ClauseRecord). records_from bk t s 0 i ++ l) (drop-cons ys i v lt))
      ∙ set_at (records_from bk t s 0 i) _ (drop (suc i) ys) v i (length-records 0 i)
      ∙ sym (ap (λ (l : List ClauseRecord). l ++ drop (suc i) ys) (snoc-records 0 i ∙ ap (λ (k : ℕ). records_from bk t s 0 i ++ ((state_at bk t s (suc k)).clause ∷ [])) e)
      ∙ append_assoc (records_from bk t s 0 i) (v ∷ []) (drop (suc i) ys))

  pub filled-all : (ys : List ClauseRecord) → filled ys (length ys) ≡ records_from bk t s 0 (length ys)
  filled-all ys =
      let none : drop (length ys) ys ≡ [] = drop_of_length-le ys (omega arith) in
      filled_is ys (length ys) (omega arith) ∙ rw (none, append-nil)

  pub at-start : s ≡ state_at bk t s 0
  unfolding state_at
  at-start = refl

  pub at_next : (i : ℕ) → next_state bk t (state_at bk t s i) ≡ state_at bk t s (i + 1)
  unfolding state_at
  at_next i = ap (state_at bk t s) (sym (add-one i))
