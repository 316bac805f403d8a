-- `count_from` meets its contract: the state after so many steps, until one ends the list or there are as many steps as slots.
use Rattle.std.proofs.Common.{◌≡◌, ◌∙◌, ◌+◌, false, ap, sym, arith}
use Rattle.clause.specs.Steps.{is_going, next_state, state_at, answer_of}
use Rattle.clause.proofs.Filling.{at-start, at_next}
use Rattle.clause.proofs.Properness.{proper-at}
use Rattle.clause.proofs.Counting.{counts, counts-ended}
use Rattle.clause.proofs.ClauseList.count_from.Goals as goal

pub loop-init : goal.loop-init
loop-init c = at-start c.args.self.now.book.now.bytes.now c.args.self.now.text.now c.args.start

pub next-s-requires : goal.next-s-requires
next-s-requires c = rw c.loop.invariant (proper-at c.args.self.now.book.now.bytes.now c.args.self.now.text.now c.args.start c.requires.proper c.loop.counter)

pub loop-preserved : goal.loop-preserved
loop-preserved c =
    let b = c.args.self.now.book.now.bytes.now in
    let t = c.args.self.now.text.now in
    c.next-s.ensures ∙ ap (next_state b t) c.loop.invariant ∙ at_next b t c.args.start c.loop.counter

pub returns-then-not-goes_on : goal.returns-then-not-goes_on
returns-then-not-goes_on c =
    let b = c.args.self.now.book.now.bytes.now in
    let t = c.args.self.now.text.now in
    let s = c.args.start in
    let i = c.loop.counter in
    let e : c.next-s.result ≡ state_at b t s (i + 1) = c.next-s.ensures ∙ ap (next_state b t) c.loop.invariant ∙ at_next b t s i in
    let over : is_going c.next-s.result.progress ≡ false = sym c.if-not-goes_on.ensures in
    counts-ended b t s c.args.slots c.requires c.next-s.result i c.finish.result e c.loop-test.true over c.finish.ensures

pub finish-requires-2 : goal.finish-requires-2
finish-requires-2 c = rw c.loop.invariant (proper-at c.args.self.now.book.now.bytes.now c.args.self.now.text.now c.args.start c.requires.proper c.loop.counter)

pub returns : goal.returns
returns c =
    let b = c.args.self.now.book.now.bytes.now in
    let t = c.args.self.now.text.now in
    let s = c.args.start in
    let e : c.loop.counter ≡ c.args.slots = omega arith in
    counts b t s c.args.slots c.requires c.finish-2.result
    (c.finish-2.ensures ∙ ap (λ z. answer_of (next_state b t z)) (c.loop.invariant ∙ ap (state_at b t s) e))
