-- Question 1 of a byte is answered by its class.
use Rattle.std.proofs.Common.{rules, ◌∙◌}
use Rattle.ascii.proofs.Classes.{told}
use Rattle.ascii.proofs.class.is_space.Goals as goal

pub returns : goal.returns
returns c = c.is_white.ensures ∙ told 1 c.args.b (search rules)
