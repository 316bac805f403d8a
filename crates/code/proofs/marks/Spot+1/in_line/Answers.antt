-- `Spot<1>::in_line`: each way is a law of the marks.
use Rattle.std.proofs.Common.{sym, ◌∙◌}
use Rattle.code.proofs.MarkLaws.{line-over, line-goes, one-code, one-line}
use Rattle.code.proofs.marks.Spot+1.in_line.Goals as goal

pub returns-then-is_eol : goal.returns-then-is_eol
returns-then-is_eol c =
    one-code _ _ _ _ c.args.self.now.known ∙ sym (line-over _ _ _ c.requires (sym c.is_eol.ensures ∙ c.if-is_eol.true))

pub returns-else-is_eol : goal.returns-else-is_eol
returns-else-is_eol c =
    one-line _ _ _ _ c.args.self.now.known ∙ sym (line-goes _ _ _ c.requires (sym c.is_eol.ensures ∙ c.if-is_eol.false))
