-- `start_at` meets its contract: the place behind the trivia, whose language is the book's.
use Rattle.std.proofs.Common.{◌∙◌, Ok, Err}
use Rattle.clause.proofs.Reading.{start_is}
use Rattle.clause.proofs.SequenceState.start_at.Goals as goal

pub returns-in-Ok : goal.returns-in-Ok
returns-in-Ok c =
    let b = c.args.book.now in
    c.begun.ensures ∙ start_is b.bytes.now b.header b.header_read c.args.text.now c.args.slots c.args.at (Ok c.in-Ok.place) c.in-Ok.ensures.value

pub returns-in-Err : goal.returns-in-Err
returns-in-Err c =
    let b = c.args.book.now in
    c.begun-in-Err.ensures ∙ start_is b.bytes.now b.header b.header_read c.args.text.now c.args.slots c.args.at (Err c.in-Err.refusal) c.in-Err.ensures.value
