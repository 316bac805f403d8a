-- `fill_records` meets its contract: each turn is a step of the definition, and once a step does not go on the zeroed rest is what all later ones give.
use Rattle.std.proofs.Common.{◌≡◌, ◌∙◌, ◌+◌, false, refl, ap, sym, length, set, arith, add-one}
use Rattle.clause.specs.Steps.{is_going, next_state, state_at}
use Rattle.clause.proofs.Filling.{at-start, at_next, filled, filled-all}
use Rattle.clause.proofs.Properness.{proper-at}
use Rattle.clause.proofs.Stopping.{ended-state, ended-records, zeroed}
use Rattle.clause.proofs.ClauseList.fill_records.Goals as goal

pub loop-i-init : goal.loop-i-init
loop-i-init c = (at-start c.args.self.now.book.now.bytes.now c.args.self.now.text.now c.args.start, refl)

pub next-s-requires : goal.next-s-requires
next-s-requires c = rw c.loop-i.invariant.0 (proper-at c.args.self.now.book.now.bytes.now c.args.self.now.text.now c.args.start c.requires c.loop-i.i)

pub loop-i-preserved : goal.loop-i-preserved
loop-i-preserved c =
    let b = c.args.self.now.book.now.bytes.now in
    let t = c.args.self.now.text.now in
    let s = c.args.start in
    let i = c.loop-i.i in
    let e : c.next-s.result ≡ state_at b t s (i + 1) = c.next-s.ensures ∙ ap (next_state b t) c.loop-i.invariant.0 ∙ at_next b t s i in
    (e, rw (c.loop-i.invariant.1, e, add-one))

pub returns-then-not-goes_on-clause-state : goal.returns-then-not-goes_on-clause-state
returns-then-not-goes_on-clause-state c =
    let b = c.args.self.now.book.now.bytes.now in
    let t = c.args.self.now.text.now in
    let s = c.args.start in
    let i = c.loop-i.i in
    let e : c.next-s.result ≡ state_at b t s (i + 1) = c.next-s.ensures ∙ ap (next_state b t) c.loop-i.invariant.0 ∙ at_next b t s i in
    let over : is_going c.next-s.result.progress ≡ false = sym c.if-not-goes_on.ensures in
    e ∙ ended-state b t s i (length c.args.records.now) c.loop-i-test.true (rw e at over)

pub returns-then-not-goes_on-clause-records : goal.returns-then-not-goes_on-clause-records
returns-then-not-goes_on-clause-records c =
    let b = c.args.self.now.book.now.bytes.now in
    let t = c.args.self.now.text.now in
    let s = c.args.start in
    let ys = c.args.records.now in
    let i = c.loop-i.i in
    let xs = set c.loop-i.records i c.next-s.result.clause in
    let e : c.next-s.result ≡ state_at b t s (i + 1) = c.next-s.ensures ∙ ap (next_state b t) c.loop-i.invariant.0 ∙ at_next b t s i in
    let over : is_going c.next-s.result.progress ≡ false = sym c.if-not-goes_on.ensures in
    let put : xs ≡ filled b t s ys (i + 1) = rw (c.loop-i.invariant.1, e, add-one) in
    let zeros = rw c.zero_record.ensures at (c.fill.ensures.after (λ y h. cc)) in
    ended-records b t s i (length ys) c.loop-i-test.true (rw e at over) ys xs _ refl put (zeroed (i + 1) xs c.fill.new.self zeros)

pub returns-clause-records : goal.returns-clause-records
returns-clause-records c =
    let b = c.args.self.now.book.now.bytes.now in
    let t = c.args.self.now.text.now in
    let ys = c.args.records.now in
    let e : c.loop-i.i ≡ length ys = omega arith in
    c.loop-i.invariant.1 ∙ ap (filled b t c.args.start ys) e ∙ filled-all b t c.args.start ys
