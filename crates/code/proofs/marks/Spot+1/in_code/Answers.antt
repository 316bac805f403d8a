-- `Spot<1>::in_code`: each way is a law of the marks.
use Rattle.std.proofs.Common.{rules, refl, sym, ◌∙◌}
use Rattle.code.proofs.FaultLaws.{plain_code}
use Rattle.code.proofs.MarkLaws.{clean-code, at-quote, one-code, one-single, one-double}
use Rattle.code.proofs.marks.Spot+1.in_code.Goals as goal

pub returns-in-39 : goal.returns-in-39
returns-in-39 c = one-single _ _ _ _ c.args.self.now.known ∙ sym (at-quote _ _ _ 39 c.requires c.in-39.is refl)

pub returns-in-34 : goal.returns-in-34
returns-in-34 c = one-double _ _ _ _ c.args.self.now.known ∙ sym (at-quote _ _ _ 34 c.requires c.in-34.is refl)

pub returns-in_default : goal.returns-in_default
returns-in_default c =
    one-code _ _ _ _ c.args.self.now.known ∙ sym (clean-code _ _ _ c.requires (plain_code _ _ _ c.requires (search rules)))
