-- `read_from` meets its contract: the state behind the last slot says the answer, and a refusal zeroes all slots.
use Rattle.std.proofs.Common.{◌∙◌, ap, sym, length, arith}
use Rattle.std.proofs.lemmas.Grind.{common_steps}
use Rattle.clause.specs.Steps.{next_state, answer_of}
use Rattle.clause.proofs.Properness.{proper-at}
use Rattle.clause.proofs.Sequencing.{settles, left-err, left-ok}
use Rattle.clause.proofs.ClauseList.read_from.Goals as goal

pub finish-answer-requires : goal.finish-answer-requires
finish-answer-requires c =
    rw c.fill_records-end.ensures.state (proper-at c.args.self.now.book.now.bytes.now c.args.self.now.text.now c.args.start c.requires.proper (length c.args.records.now))

pub returns-then-is_err : goal.returns-then-is_err
returns-then-is_err c =
    let b = c.args.self.now.book.now.bytes.now in
    let t = c.args.self.now.text.now in
    let zeros = rw c.zero_record.ensures at (c.fill.ensures.after (λ y h. cc)) in
    settles b t c.args.start (length c.args.records.now) c.requires c.finish-answer.result c.fill_records-end.new.records _
    (c.finish-answer.ensures ∙ ap (λ z. answer_of (next_state b t z)) c.fill_records-end.ensures.state) c.fill_records-end.ensures.records
    (left-err _ _ _ (sym c.if-is_err.ensures.value) (grind (arith, common_steps, zeros)))

pub returns-else-is_err : goal.returns-else-is_err
returns-else-is_err c =
    let b = c.args.self.now.book.now.bytes.now in
    let t = c.args.self.now.text.now in
    settles b t c.args.start (length c.args.records.now) c.requires c.finish-answer.result c.fill_records-end.new.records c.fill_records-end.new.records
    (c.finish-answer.ensures ∙ ap (λ z. answer_of (next_state b t z)) c.fill_records-end.ensures.state) c.fill_records-end.ensures.records
    (left-ok _ _ (sym c.if-is_err.ensures.value))
