-- `Spot<1>::in_quote`: each way is a law of the marks.
use Rattle.std.proofs.Common.{sym, ◌∙◌}
use borrow.Author.Tests.{eq-eqb, ne_eqb}
use Rattle.code.proofs.MarkLaws.{quote-both, quote-closed, quote-plain, one-code, one-literal, two-literal}
use Rattle.code.proofs.marks.Spot+1.in_quote.Goals as goal

pub returns-then-hides_next : goal.returns-then-hides_next
returns-then-hides_next c =
    let i = c.requires.at_in_bounds in
    c.literal.ensures ∙ two-literal _ _ _ _ c.args.self.now.known _ i.1
    ∙ sym (quote-both _ _ _ _ i.0 (sym c.hides_next.ensures ∙ c.if-hides_next.true))

pub returns-then-self-q : goal.returns-then-self-q
returns-then-self-q c =
    let i = c.requires.at_in_bounds in
    one-code _ _ _ _ c.args.self.now.known
    ∙ sym (quote-closed _ _ _ _ i.0 (sym c.hides_next.ensures ∙ c.if-hides_next.false) (eq-eqb _ _ c.if-self-q.true))

pub returns-else-self-q : goal.returns-else-self-q
returns-else-self-q c =
    let i = c.requires.at_in_bounds in
    c.literal-else-self-q.ensures ∙ one-literal _ _ _ _ c.args.self.now.known _ i.1
    ∙ sym (quote-plain _ _ _ _ i.0 (sym c.hides_next.ensures ∙ c.if-hides_next.false) (ne_eqb _ _ c.if-self-q.false))
