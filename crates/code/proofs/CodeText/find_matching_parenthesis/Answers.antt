-- `CodeText::find_matching_parenthesis`: the mark of the place tells whether the scan behind it has an error; without one the brackets tell the match.
use Rattle.std.proofs.Common.{sym, ◌∙◌, arith}
use Rattle.std.proofs.lemmas.Grind.{common_steps}
use Rattle.code.proofs.FaultLaws.{match-clean, match-unclosed}
use Rattle.code.proofs.CodeText.find_matching_parenthesis.Goals as goal

pub returns-then-is_clean-clause-value : goal.returns-then-is_clean-clause-value
returns-then-is_clean-clause-value c = c.match_open.ensures.value ∙ sym (match-clean _ _ _ (grind (arith, common_steps)))

pub returns-else-is_clean-clause-value : goal.returns-else-is_clean-clause-value
returns-else-is_clean-clause-value c = sym (match-unclosed _ _ _ (grind (arith, common_steps)))
