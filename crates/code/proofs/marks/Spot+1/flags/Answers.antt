-- `Spot<1>::flags`: each way is a law of the marks.
use Rattle.std.proofs.Common.{sym, ◌∙◌}
use Rattle.code.proofs.DullLaws.{flags-dull}
use Rattle.code.proofs.MarkLaws.{flags-made, flags-past, flags-one}
use Rattle.code.proofs.marks.Spot+1.flags.Goals as goal

pub returns-then-self : goal.returns-then-self
returns-then-self c = c.past_end.ensures ∙ sym (flags-past _ _ _ c.if-self.true)

pub returns-then-is_dull : goal.returns-then-is_dull
returns-then-is_dull c =
    flags-one _ _ _ _ c.args.self.now.known ∙ sym (flags-dull _ _ _ c.if-self.false (sym c.is_dull.ensures ∙ c.if-is_dull.true))

pub returns : goal.returns
returns c = flags-made _ _ _ _ c.in_code.ensures c.in_quote.ensures c.in_quote-2.ensures c.in_block.ensures c.in_line.ensures
