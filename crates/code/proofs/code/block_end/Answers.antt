-- `code::block_end`: the two bytes that end a comment stand here, or the end is the one behind this place.
use Rattle.std.proofs.Common.{refl, sym, ◌∙◌}
use borrow.Author.Tests.{ne_eqb}
use Rattle.code.proofs.Laws.{block_closed, block-plain, block_none}
use Rattle.code.proofs.code.block_end.Goals as goal
use Rattle.code.proofs.code.block_end.Goals.{else-text-i-eq42-via-then-text-i-eq42+else-byte_at-eq47, else-text-i-eq42-via-else-text-i-eq42}

pub returns-then-byte_at-eq47-clause-result_value : goal.returns-then-byte_at-eq47-clause-result_value
returns-then-byte_at-eq47-clause-result_value c =
    sym (block_closed _ _ c.loop-i-test.true (rw (c.if-text-i-eq42.true, sym c.byte_at.ensures ∙ c.if-byte_at-eq47.true) refl)) ∙ c.loop-i.invariant

pub loop-i-preserved : goal.loop-i-preserved
loop-i-preserved c =
    sym
    (block-plain c.args.text.now c.loop-i.i c.loop-i-test.true
    (elim c.else-text-i-eq42.branch [
      | else-text-i-eq42-via-then-text-i-eq42+else-byte_at-eq47 w ↦
          rw (w.if-text-i-eq42.true, ne_eqb _ _ (rw w.byte_at.ensures at w.if-byte_at-eq47.false)) refl
      | else-text-i-eq42-via-else-text-i-eq42 w ↦ rw (ne_eqb _ _ w.if-text-i-eq42.false) refl
    ]))
    ∙ c.loop-i.invariant

pub returns-clause-result_value : goal.returns-clause-result_value
returns-clause-result_value c = sym (block_none _ _ c.loop-i-test.false) ∙ c.loop-i.invariant
