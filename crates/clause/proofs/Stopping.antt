-- Once a step does not go on, every later step gives the same state with a zeroed record, so that `fill_records` stops there and zeroes the rest.
-- By cases on what was read at a place: only a clause with its separator goes on, and any other step leaves the zeroed record. Assumes nothing.
use Prim.Native.Nat.{ℕ, zero, suc, ◌+◌, ◌-◌, ◌≤◌, ◌<◌}
use mathlib.Core.Bool.{Bool, true, false, cond, true≢false}
use Rattle.std.specs.Prelude.{Result, Ok, Err}
use mathlib.Core.Path.{◌≡◌, refl, sym, ap, ◌∙◌}
use mathlib.Core.List.{List, [], ◌∷◌, ◌++◌, append-nil}
use native.Mathlib.Omega.{arith}
use native.Mathlib.Numerals.{add-one}
use lib.ListN.{length, take, drop, replicate, length-drop, drop_of_length-le}
use lib.Seq.{take_at, take_all}
use borrow.Rule.Slice.PartMut.{put_mid}
use lib.Dec.{eqb}
use Rattle.refusal.specs.declared.Refusal.{Refusal}
use Rattle.rulebook.specs.Book.{Book, book_of}
use Rattle.clause.specs.declared.ClauseRecord.{ClauseRecord}
use Rattle.clause.specs.declared.ClauseRead.{ClauseRead}
use Rattle.clause.specs.declared.ClauseError.TheVariants.{Failed, Deep}
use Rattle.clause.specs.declared.Separation.{Separation}
use Rattle.clause.specs.declared.Progress.{Progress}
use Rattle.clause.specs.declared.Progress.TheVariants.{Going, Ended, Refused}
use Rattle.clause.specs.declared.SequenceState.{SequenceState}
use Rattle.clause.specs.Clause.{Read, clause_at, zero_record}
use Rattle.clause.specs.Sequence.{separated, is_unsupported}
use Rattle.clause.specs.Steps.{still, stopped, behind, taken, onward, is_going, next_state, state_at, records_from}
use Rattle.clause.proofs.Filling.{filled, length-filled, length-records, filled_is}

-- a state that does not go on holds no clause
abbrev Empty : SequenceState → Type 0
Empty s = is_going s.progress ≡ false → s.clause ≡ zero_record

empty-cond : (b : Bool) (x y : SequenceState) → Empty x → Empty y → Empty (cond b x y)
empty-cond true x y h k = h
empty-cond false x y h k = k

empty-behind : (size : ℕ) (s : SequenceState) (c : ClauseRead) (n : Result Separation Refusal) → Empty (behind size s c n)
empty-behind size s c (Ok n) e = absurd (true≢false e)
empty-behind size s c (Err r) e = refl

empty-taken : (book : Book) (t : List ℕ) (s : SequenceState) (c : Read) → Empty (taken book t s c)
empty-taken book t s (Err (Failed r)) = empty-cond (is_unsupported book.default) (stopped s r) (still s Ended) (λ e. refl) (λ e. refl)
empty-taken book t s (Err (Deep p)) = λ e. refl
empty-taken book t s (Ok c) =
    let n = separated book.ignores_case t c.end in
    empty-cond (eqb s.left 0) _ (behind (length t) s c n) (λ e. refl) (empty-behind (length t) s c n)

empty-onward : (book : Book) (t : List ℕ) (s : SequenceState) (p : Progress) → Empty (onward book t s p)
empty-onward book t s Going = empty-cond (eqb s.at (length t)) (still s Ended) _ (λ e. refl) (empty-taken book t s (clause_at book t s.at))
empty-onward book t s Ended = λ e. refl
empty-onward book t s (Refused r) = λ e. refl

-- its own next state
still-same : (s : SequenceState) (p : Progress) → s.progress ≡ p → s.clause ≡ zero_record → still s p ≡ s
still-same s p e z =
    ap (λ (r : ClauseRecord). record { clause = r; progress = p; at = s.at; comma = s.comma; left = s.left; count = s.count }) (sym z)
    ∙ ap (λ (q : Progress). record { clause = s.clause; progress = q; at = s.at; comma = s.comma; left = s.left; count = s.count }) (sym e)

module _ (bk t : List ℕ) where
  empty-next : (s : SequenceState) → Empty (next_state bk t s)
  unfolding next_state
  empty-next s = empty-onward (book_of bk) t s s.progress

  same_next : (s : SequenceState) → is_going s.progress ≡ false → s.clause ≡ zero_record → next_state bk t s ≡ s
  unfolding next_state
  same_next s e z = go s.progress refl e
    where
      go : (p : Progress) → s.progress ≡ p → is_going p ≡ false → onward (book_of bk) t s p ≡ s
      go Going f e = absurd (true≢false e)
      go Ended f e = still-same s Ended f z
      go (Refused r) f e = still-same s (Refused r) f z

module _ (bk t : List ℕ) (s : SequenceState) where
  -- from a step on that does not go on
  module _ (j : ℕ) (e : is_going (state_at bk t s (suc j)).progress ≡ false) where
    none-there : (state_at bk t s (suc j)).clause ≡ zero_record
    unfolding state_at
    none-there = empty-next bk t (state_at bk t s j) e

    same-state : (k n : ℕ) → n ≡ k + suc j → state_at bk t s n ≡ state_at bk t s (suc j)
    unfolding state_at
    same-state zero n h = let d : n ≡ suc j = omega arith in ap (state_at bk t s) d
    same-state (suc k) zero h = absurd (omega arith)
    same-state (suc k) (suc n) h = ap (next_state bk t) (same-state k n (omega arith)) ∙ same_next bk t (state_at bk t s (suc j)) e none-there

    no-records : (k i n : ℕ) → i ≡ k + suc j → records_from bk t s i n ≡ replicate n zero_record
    unfolding records_from
    no-records k i zero h = refl
    no-records k i (suc n) h =
        let d : (state_at bk t s (suc i)).clause ≡ zero_record = ap (λ (z : SequenceState). z.clause) (same-state (suc k) (suc i) (omega arith)) ∙ none-there in
        rw (d, no-records (suc k) (suc i) n (omega arith)) refl

  records-apart : (i a m : ℕ) → records_from bk t s a (i + m) ≡ records_from bk t s a i ++ records_from bk t s (a + i) m
  unfolding records_from
  records-apart zero a m = let d : 0 + m ≡ m = omega arith in let e : a + 0 ≡ a = omega arith in rw (d, e) refl
  records-apart (suc i) a m =
      let d : suc i + m ≡ suc (i + m) = omega arith in
      let e : a + suc i ≡ suc a + i = omega arith in
      rw (d, e) (ap (λ (l : List ClauseRecord). (state_at bk t s (suc a)).clause ∷ l) (records-apart i (suc a) m))

  -- where a step has ended the list: the state after it is the last, and the slots that were stepped through with the zeroed rest are all records
  module _ (i n : ℕ) (less : i < n) (e : is_going (state_at bk t s (i + 1)).progress ≡ false) where
    ends : is_going (state_at bk t s (suc i)).progress ≡ false
    ends = rw add-one at e

    pub ended-state : state_at bk t s (i + 1) ≡ state_at bk t s n
    ended-state = rw add-one (sym (same-state i ends (n - suc i) n (omega arith)))

    pub ended-records : (ys xs zs : List ClauseRecord) → length ys ≡ n → xs ≡ filled bk t s ys (i + 1) → zs ≡ take (i + 1) xs ++ replicate (length xs - (i + 1)) zero_record
        → zs ≡ records_from bk t s 0 n
    ended-records ys xs zs l m g =
        let j = suc i in
        let rs = records_from bk t s 0 j in
        let h : j ≤ length ys = omega arith in
        let d : j + (n - j) ≡ n = omega arith in
        let z : 0 + j ≡ j = omega arith in
        let kept : take j (filled bk t s ys j) ≡ rs = ap (take j) (filled_is bk t s ys j h) ∙ take_at rs (drop j ys) j (length-records bk t s 0 j) in
        let all : records_from bk t s 0 n ≡ rs ++ records_from bk t s j (n - j) = rw (d, z) at (records-apart j 0 (n - j)) in
        let put = rw (m, add-one) at g in
        put ∙ rw (kept, length-filled, l) (ap (λ (q : List ClauseRecord). rs ++ q) (sym (no-records i ends 0 j (n - j) (omega arith))) ∙ sym all)

-- a slice once its part from a place on is zeroed
pub zeroed : (a : ℕ) (xs zs : List ClauseRecord) → zs ≡ replicate (length (take (length xs - a) (drop a xs))) zero_record
    → put_mid a (length xs - a) xs zs ≡ take a xs ++ replicate (length xs - a) zero_record
zeroed a xs zs e =
    let l : length (drop a xs) ≡ length xs - a = length-drop a xs in
    let over : length (drop a xs) ≤ length xs - a = omega arith in
    let n : length (take (length xs - a) (drop a xs)) ≡ length xs - a = rw take_all l in
    let none : drop (length xs - a) (drop a xs) ≡ [] = drop_of_length-le (drop a xs) over in
    rw (none, e, n, append-nil) refl
