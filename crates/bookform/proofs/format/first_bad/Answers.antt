-- `bookform::format::first_bad`: the byte at the place is bad, or leads on; or the book ends there.
use Rattle.std.proofs.Common.{◌≡◌, length, sym, ◌∙◌, arith}
use Rattle.bookform.proofs.Steps.{bad-here, bad-later, bad-end}
use Rattle.bookform.proofs.format.first_bad.Goals as goal

pub returns-in-None : goal.returns-in-None
returns-in-None c =
    sym (bad-here c.args.book.now c.loop-at.expect c.loop-at.at (omega arith) (sym c.step.ensures ∙ c.in-None.is)) ∙ c.loop-at.invariant

pub loop-at-preserved : goal.loop-at-preserved
loop-at-preserved c =
    sym (bad-later c.args.book.now c.loop-at.expect c.loop-at.at c.in-Some.next (omega arith) (sym c.step.ensures ∙ c.in-Some.is)) ∙ c.loop-at.invariant

pub returns : goal.returns
returns c =
    let e : c.loop-at.at ≡ length c.args.book.now = omega arith in
    c.ended.ensures
    ∙ sym (bad-end c.args.book.now c.loop-at.expect (length c.args.book.now) (omega arith))
    ∙ rw e at c.loop-at.invariant
