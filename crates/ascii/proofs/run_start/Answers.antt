-- `run_start` meets its contract: `rposition` finds the last byte that is none of the set's.
use Rattle.std.proofs.Common.{◌+◌, rules}
use Rattle.ascii.proofs.Texts.{trailing_is}
use Rattle.ascii.proofs.run_start.Goals as goal

pub returns-in-Some-clause-value : goal.returns-in-Some-clause-value
returns-in-Some-clause-value g c = trailing_is g.S.ByteSet.holds c.args.text.now (c.in-Some.i + 1) (search rules) (search rules) (search rules)

pub returns-in-None-clause-value : goal.returns-in-None-clause-value
returns-in-None-clause-value g c = trailing_is g.S.ByteSet.holds c.args.text.now _ (search rules) (search rules) (search rules)
