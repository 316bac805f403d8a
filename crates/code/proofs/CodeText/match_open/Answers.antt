-- `CodeText::match_open`: the first bracket is the answer where it is `)`, and else the match goes on from there.
use Rattle.std.proofs.Common.{refl, sym, ◌∙◌}
use Rattle.code.proofs.MatchLaws.{match-first}
use Rattle.code.proofs.CodeText.match_open.Goals as goal

pub returns-then-byte_at-eq-ROUND_CLOSE-clause-value : goal.returns-then-byte_at-eq-ROUND_CLOSE-clause-value
returns-then-byte_at-eq-ROUND_CLOSE-clause-value c =
    sym (c.next_bracket-first.ensures.value _ refl ∙ match-first _ _ _ (sym c.byte_at.ensures ∙ c.if-byte_at-eq-ROUND_CLOSE.true))
