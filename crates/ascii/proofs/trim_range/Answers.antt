-- The run at the front tells a blank text from others, whose runs at both ends are apart.
use Rattle.std.proofs.Common.{arith, sym}
use Rattle.ascii.proofs.Texts.{trimmed-blank, trimmed-ends}
use Rattle.ascii.proofs.trim_range.Goals as goal

pub returns-then-start-text-clause-value : goal.returns-then-start-text-clause-value
returns-then-start-text-clause-value c = sym (trimmed-blank 0 c.args.text.now (omega arith))

pub returns-clause-value : goal.returns-clause-value
returns-clause-value c = (trimmed-ends c.args.text.now _ _ c.run_end-start.ensures.value c.run_start-end.ensures.value c.if-start-text.false).0

pub returns-clause-start_le_end : goal.returns-clause-start_le_end
returns-clause-start_le_end c = (trimmed-ends c.args.text.now _ _ c.run_end-start.ensures.value c.run_start-end.ensures.value c.if-start-text.false).1
