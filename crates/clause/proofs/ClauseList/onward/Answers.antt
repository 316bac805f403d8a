-- `onward` meets its contract: a clause that was read ends within the text.
use Rattle.std.proofs.Common.{arith}
use Rattle.clause.proofs.Reading.{clause-inside}
use Rattle.clause.proofs.ClauseList.onward.Goals as goal

pub took-requires : goal.took-requires
took-requires c = (clause-inside c.args.self.now.book.now.bytes.now c.args.self.now.text.now c.args.s c.requires c.in-Ok.read c.in-Ok.ensures, omega arith)
