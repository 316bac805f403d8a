-- `Split::bracketed` meets its contract: each arm is a case of `bracketed`.
use Rattle.std.proofs.Common.{arith}
use Rattle.std.proofs.lemmas.Grind.{common_steps}
use Rattle.delimiter.specs.Split.{bracketed}
use Rattle.delimiter.proofs.split.Split.bracketed.Goals as goal

pub returns-in-60 : goal.returns-in-60
unfolding bracketed
returns-in-60 c = rw (c.in-60.is, c.if-self.true) c.angle_opened.ensures

pub returns-in-62 : goal.returns-in-62
unfolding bracketed
returns-in-62 c = rw (c.in-62.is, c.if-self-2.true) c.angle_closed.ensures

pub returns-in_default : goal.returns-in_default
unfolding bracketed
returns-in_default c = grind (arith, common_steps)
