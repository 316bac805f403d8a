-- `CodeText::quote_end`: each way of a turn is a law of literals.
use Rattle.std.proofs.Common.{◌<◌, length, sym, ◌∙◌, arith}
use borrow.Author.Tests.{eq-eqb, ne_eqb}
use Rattle.code.proofs.Laws.{literal-both, literal-closed, literal-plain, ends-from}
use Rattle.code.proofs.CodeText.quote_end.Goals as goal

pub loop-i-preserved-then-hides_next : goal.loop-i-preserved-then-hides_next
loop-i-preserved-then-hides_next c =
    let h : c.loop-i.i < length c.args.self.now.text.now = omega arith in
    record {
      lower = omega arith;
      upper = omega arith;
      same = sym (literal-both _ _ _ _ h (sym c.hides_next.ensures ∙ c.if-hides_next.true)) ∙ c.loop-i.invariant.same;
    }

pub returns-then-text-i-clause-result_value : goal.returns-then-text-i-clause-result_value
returns-then-text-i-clause-result_value c =
    let h : c.loop-i.i < length c.args.self.now.text.now = omega arith in
    sym (literal-closed c.args.self.now.style _ _ _ h (sym c.hides_next.ensures ∙ c.if-hides_next.false) (eq-eqb _ _ c.if-text-i.true)) ∙ c.loop-i.invariant.same

pub loop-i-preserved : goal.loop-i-preserved
loop-i-preserved c =
    let h : c.loop-i.i < length c.args.self.now.text.now = omega arith in
    record {
      lower = omega arith;
      upper = omega arith;
      same = sym (literal-plain _ _ _ _ h (sym c.hides_next.ensures ∙ c.if-hides_next.false) (ne_eqb _ _ c.if-text-i.false)) ∙ c.loop-i.invariant.same;
    }

pub returns-clause-result_value : goal.returns-clause-result_value
returns-clause-result_value c = c.last_end.ensures.result_value ∙ c.loop-i.invariant.same

pub returns-clause-ends : goal.returns-clause-ends
returns-clause-ends c = ends-from _ _ _ c.last_end.result c.loop-i.invariant.lower c.last_end.ensures.ends
