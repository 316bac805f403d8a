-- `rulebook::order::compare_from`: the lengths tell the names apart, or the first byte in which they differ, or they are equal.
use Rattle.std.proofs.Common.{◌≡◌, ℕ, ◌+◌, ◌-◌, ◌<◌, List, take, drop, length, get_or, sym, ◌∙◌, arith}
use Rattle.std.proofs.lemmas.List.{get_or-take, get_or-drop}
use Rattle.std.proofs.lemmas.Cmp.{ranked, by_ranked}
use Rattle.ascii.specs.Ascii.{fold}
use borrow.Author.Tests.{eqb-false}
use Rattle.rulebook.proofs.Ranks.{longer, first-less, same-whole}
use Rattle.rulebook.proofs.order.compare_from.Goals as goal

rest-byte : (xs : List ℕ) (from i : ℕ) → i < length xs - from → get_or (take (length xs - from) (drop from xs)) i 0 ≡ get_or xs (from + i) 0
rest-byte xs from i l = get_or-take (length xs - from) (drop from xs) i 0 l ∙ get_or-drop from xs i 0

pub returns-then-a-b-clause-order : goal.returns-then-a-b-clause-order
returns-then-a-b-clause-order c = longer 1 1 c.args.a.now c.args.b.now (omega arith) (omega arith) (omega arith) (λ i. omega (arith, c.type_inv.a i))

pub returns-then-a-b-2-clause-order : goal.returns-then-a-b-2-clause-order
returns-then-a-b-2-clause-order c = longer 1 1 c.args.b.now c.args.a.now (omega arith) (omega arith) (omega arith) (λ i. omega (arith, c.type_inv.b i))

pub returns-then-not-same_byte-clause-order : goal.returns-then-not-same_byte-clause-order
returns-then-not-same_byte-clause-order c =
    let a = c.args.a.now in
    let b = c.args.b.now in
    let l = c.loop-i in
    let n : length a ≡ length b = omega arith in
    let u = rest-byte a c.args.from l.i (omega arith) in
    let v = rest-byte b c.args.from l.i (omega arith) in
    let e = eqb-false _ _ (sym (rw (u, v) at c.same_byte.ensures) ∙ c.if-not-same_byte.true) in
    by_ranked _ _ _ c.cmp.result
    (ranked (fold (get_or a (c.args.from + l.i) 0)) (fold (get_or b (c.args.from + l.i) 0)) c.cmp.result (cc))
    (λ o p. rw o (first-less 1 (c.args.from + l.i) a b n (omega arith) l.invariant.same (λ i. omega (arith, c.type_inv.a i)) p))
    (λ o p. absurd (e p))
    (λ o p. rw o (first-less 1 (c.args.from + l.i) b a (sym n) (omega arith) (λ i h. sym (l.invariant.same i h)) (λ i. omega (arith, c.type_inv.b i)) p))

pub returns-clause-order : goal.returns-clause-order
returns-clause-order c =
    same-whole c.args.a.now c.args.b.now (omega arith) (λ i h. c.loop-i.invariant.same i (omega arith))
