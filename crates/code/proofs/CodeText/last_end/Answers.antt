-- `CodeText::last_end` meets its contract: each way is a law of literals, and behind the last byte none ends.
use Rattle.std.proofs.Common.{◌+◌, sym, ◌∙◌, arith}
use borrow.Author.Tests.{eq-eqb, ne_eqb}
use Rattle.code.proofs.Laws.{literal-both, literal-closed, literal-plain, literal-end}
use Rattle.code.proofs.CodeText.last_end.Goals as goal

pub returns-then-self-at-clause-result_value : goal.returns-then-self-at-clause-result_value
returns-then-self-at-clause-result_value c = sym (literal-end c.args.self.now.style c.args.q _ _ c.if-self-at.true)

pub returns-then-hides_next-clause-result_value : goal.returns-then-hides_next-clause-result_value
returns-then-hides_next-clause-result_value c =
    sym (literal-both _ _ _ _ c.if-self-at.false (sym c.hides_next.ensures ∙ c.if-hides_next.true) ∙ literal-end c.args.self.now.style c.args.q c.args.self.now.text.now (c.args.at + 2) (omega arith))

pub returns-then-self-at-2-clause-result_value : goal.returns-then-self-at-2-clause-result_value
returns-then-self-at-2-clause-result_value c =
    sym (literal-closed c.args.self.now.style _ _ _ c.if-self-at.false (sym c.hides_next.ensures ∙ c.if-hides_next.false) (eq-eqb _ _ c.if-self-at-2.true))

pub returns-clause-result_value : goal.returns-clause-result_value
returns-clause-result_value c =
    sym (literal-plain _ _ _ _ c.if-self-at.false (sym c.hides_next.ensures ∙ c.if-hides_next.false) (ne_eqb _ _ c.if-self-at-2.false)
    ∙ literal-end c.args.self.now.style c.args.q c.args.self.now.text.now (c.args.at + 1) (omega arith))
