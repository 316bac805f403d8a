-- `next` meets its contract: a step where more is to be read, and else the same state.
use Rattle.std.proofs.Common.{◌∙◌, sym}
use Rattle.clause.proofs.Reading.{goes, rests}
use Rattle.clause.proofs.ClauseList.next.Goals as goal

pub returns-then-goes_on : goal.returns-then-goes_on
returns-then-goes_on c = c.onward.ensures ∙ goes c.args.self.now.book.now.bytes.now c.args.self.now.text.now c.args.s (sym c.if-goes_on.ensures)

pub returns-else-goes_on : goal.returns-else-goes_on
returns-else-goes_on c = c.still.ensures ∙ rests c.args.self.now.book.now.bytes.now c.args.self.now.text.now c.args.s (sym c.if-goes_on.ensures)
