-- `Lines::break_f` meets its contract: from the place on there is no continuation.
use Rattle.std.proofs.Common.{refl}
use Rattle.lexer.proofs.Continuing.{break-f-none}
use Rattle.lexer.proofs.continuation.Lines.break_f.Goals as goal

pub returns-then-self-at-clause-value : goal.returns-then-self-at-clause-value
returns-then-self-at-clause-value c = rw (break-f-none c.args.self.now.text.now c.args.self.now.ends c.args.self.now.unended c.args.at c.if-self-at.true) refl
