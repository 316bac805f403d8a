-- `CodeText::match_nested`: what a bracket does to the open ones is told by `matched`, and is a law of the match.
use Rattle.std.proofs.Common.{sym, ◌∙◌, arith}
use Rattle.code.proofs.MatchLaws.{match-end, match-goes, match-closed, match-wrong, match-deep}
use Rattle.code.proofs.CodeText.match_nested.Goals as goal

pub returns-in-Err-Wrong-clause-value : goal.returns-in-Err-Wrong-clause-value
returns-in-Err-Wrong-clause-value c =
    let e = rw (c.in-Err-Wrong.is, c.in-Err-Wrong.field-0-is) at c.take.ensures.value in
    sym (match-wrong _ _ _ _ c.loop-i-test.true (sym e)) ∙ c.loop-i.invariant.same

pub returns-in-Err-Deep-clause-value : goal.returns-in-Err-Deep-clause-value
returns-in-Err-Deep-clause-value c =
    let e = rw (c.in-Err-Deep.is, c.in-Err-Deep.field-0-is) at c.take.ensures.value in
    sym (match-deep _ _ _ _ c.loop-i-test.true (sym e)) ∙ c.loop-i.invariant.same

pub returns-in-Ok-clause-value : goal.returns-in-Ok-clause-value
returns-in-Ok-clause-value c =
    let e = rw c.in-Ok.is at c.take.ensures.value in
    sym (match-closed _ _ _ _ c.loop-i-test.true _ (sym e) (sym c.is_empty.ensures ∙ c.if-is_empty.true)) ∙ c.loop-i.invariant.same

pub loop-i-preserved : goal.loop-i-preserved
loop-i-preserved c =
    let e = rw c.in-Ok.is at c.take.ensures.value in
    let s = sym c.is_empty.ensures ∙ c.if-is_empty.false in
    record {
      lower = omega arith;
      upper = omega arith;
      same = sym (c.next_bracket-i.ensures.value _ s) ∙ sym (match-goes _ _ _ _ c.loop-i-test.true _ (sym e) s) ∙ c.loop-i.invariant.same;
    }

pub returns-clause-value : goal.returns-clause-value
returns-clause-value c = sym (match-end _ _ _ _ c.loop-i-test.false) ∙ c.loop-i.invariant.same
