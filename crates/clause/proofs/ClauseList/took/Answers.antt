-- `took` meets its contract: what follows the clause, in the book's language.
use Rattle.std.proofs.Common.{◌∙◌, Ok, Err}
use Rattle.clause.proofs.Reading.{took-by}
use Rattle.clause.proofs.ClauseList.took.Goals as goal

pub returns-in-Ok : goal.returns-in-Ok
returns-in-Ok c =
    let b = c.args.self.now.book.now in
    c.gone.ensures ∙ took-by b.bytes.now b.header b.header_read c.args.self.now.text.now c.args.s c.args.read (Ok c.in-Ok.separation) c.in-Ok.ensures c.if-s-eq0.false

pub returns-in-Err : goal.returns-in-Err
returns-in-Err c =
    let b = c.args.self.now.book.now in
    c.stopped-in-Err.ensures ∙ took-by b.bytes.now b.header b.header_read c.args.self.now.text.now c.args.s c.args.read (Err c.in-Err.refusal) c.in-Err.ensures c.if-s-eq0.false
