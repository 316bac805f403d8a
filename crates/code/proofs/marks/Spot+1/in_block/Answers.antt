-- `Spot<1>::in_block`: each way is a law of the marks.
use Rattle.std.proofs.Common.{refl, sym, ◌∙◌}
use borrow.Author.Tests.{ne_eqb}
use Rattle.code.proofs.MarkLaws.{block-over, block_goes, one-block, two-code}
use Rattle.code.proofs.marks.Spot+1.in_block.Goals as goal
use Rattle.code.proofs.marks.Spot+1.in_block.Goals.{else-self-eq42-via-then-self-eq42+else-byte_at-eq47, else-self-eq42-via-else-self-eq42}

pub returns-then-byte_at-eq47 : goal.returns-then-byte_at-eq47
returns-then-byte_at-eq47 c =
    two-code _ _ _ _ c.args.self.now.known
    ∙ sym (block-over _ _ _ c.requires (rw (c.if-self-eq42.true, sym c.byte_at.ensures ∙ c.if-byte_at-eq47.true) refl))

pub returns-else-self-eq42 : goal.returns-else-self-eq42
returns-else-self-eq42 c =
    one-block _ _ _ _ c.args.self.now.known
    ∙ sym
    (block_goes _ _ _ c.requires
    (elim c.else-self-eq42.branch [
      | else-self-eq42-via-then-self-eq42+else-byte_at-eq47 w ↦
          rw (w.if-self-eq42.true, ne_eqb _ _ (rw w.byte_at.ensures at w.if-byte_at-eq47.false)) refl
      | else-self-eq42-via-else-self-eq42 w ↦ rw (ne_eqb _ _ w.if-self-eq42.false) refl
    ]))
