-- A name between two others in the order, which share leading bytes with a third one, shares them with it too: else its length, or the first byte
-- that is another, would put it before both or behind both. By induction over the bytes. Assumes nothing.
use mathlib.Core.Path.{◌≡◌, sym, ◌∙◌}
use mathlib.Core.List.{List}
use Prim.Native.Nat.{ℕ, zero, suc, ◌<◌, ◌≤◌}
use native.Mathlib.Numerals.{add-one}
use native.Mathlib.Omega.{arith}
use lib.ListN.{length, get_or}
use lib.Dec.{ltb}
use borrow.Author.Tests.{ltb-true, ltb-false}
use Rattle.ascii.specs.Ascii.{fold}
use Rattle.ascii.proofs.Flags.{by_cases}
use Rattle.rulebook.specs.Order.{rank, Shared}
use Rattle.rulebook.proofs.Ranks.{Bytes, longer, first-less, shared-none, shared-next}

module _ (low m high name : List ℕ) (c : ℕ) (some : 0 < c) (p : Shared low name c) (q : Shared high name c) (bytes : Bytes m) (high-bytes : Bytes high)
    (behind : rank low < rank m) (before : rank m < rank high) where
  long : length m ≡ length name
  long =
      by_cases (ltb (length m) (length name))
      (λ t. absurd (omega (arith, longer 1 1 m low (omega arith) (omega arith) (omega (arith, p.long some, ltb-true _ _ t)) bytes)))
      (λ t.
      by_cases (ltb (length name) (length m))
      (λ u. absurd (omega (arith, longer 1 1 high m (omega arith) (omega arith) (omega (arith, q.long some, ltb-true _ _ u)) high-bytes)))
      (λ u. omega (arith, ltb-false (length m) (length name) t, ltb-false (length name) (length m) u)))

  here : (n : ℕ) → n < c → Shared m name n → fold (get_or m n 0) ≡ fold (get_or name n 0)
  here n l s =
      by_cases (ltb (fold (get_or m n 0)) (fold (get_or name n 0)))
      (λ t.
      absurd (omega (
        arith,
        first-less 1 n m low (long ∙ sym (p.long some)) (omega (arith, p.within, p.long some, long)) (λ i h. s.same i h ∙ sym (p.same i (omega arith))) bytes
            (rw (p.same n l) (ltb-true _ _ t)),
      )))
      (λ t.
      by_cases (ltb (fold (get_or name n 0)) (fold (get_or m n 0)))
      (λ u.
      absurd (omega (
        arith,
        first-less 1 n high m (q.long some ∙ sym long) (omega (arith, q.within)) (λ i h. q.same i (omega arith) ∙ sym (s.same i h)) high-bytes
            (rw (q.same n l) (ltb-true _ _ u)),
      )))
      (λ u. omega (arith, ltb-false (fold (get_or m n 0)) (fold (get_or name n 0)) t, ltb-false (fold (get_or name n 0)) (fold (get_or m n 0)) u)))

  pub shared-between : (n : ℕ) → n ≤ c → Shared m name n
  shared-between zero l = shared-none m name
  shared-between (suc n) l =
      let s = shared-between n (omega arith) in
      rw (add-one n) at (shared-next s long (omega (arith, p.within, p.long some, long)) (here n (omega arith) s))
