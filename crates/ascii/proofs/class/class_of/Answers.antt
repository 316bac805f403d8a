-- The table holds the class of each byte: evaluated over all 256.
use Rattle.std.proofs.Common.{rules}
use Rattle.ascii.specs.Ascii.{class_of}
use Rattle.ascii.proofs.Table.{at}
use Rattle.ascii.proofs.class.class_of.Goals as goal

pub returns : goal.returns
unfolding class_of
returns c = at class_of 0 256 c.args.b (search rules)
