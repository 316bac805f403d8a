-- `parse_sequence` meets its contract: behind the checks the clauses from the start of the text on, and else every slot zeroed.
use Rattle.std.proofs.Common.{◌∙◌, ap, arith, length}
use Rattle.refusal.proofs.Admission.{admits-length}
use Rattle.clause.specs.Calls.{sequence_call}
use Rattle.clause.specs.Steps.{read_on, settled}
use Rattle.clause.proofs.Starting.{started-at, call-is, refused-is}
use Rattle.clause.proofs.parse_sequence.Goals as goal

pub read_clauses-requires-clause-short : goal.read_clauses-requires-clause-short
read_clauses-requires-clause-short c = admits-length c.args.text.now c.in-Ok.ensures.1

pub read_clauses-requires-clause-started : goal.read_clauses-requires-clause-started
read_clauses-requires-clause-started c =
    let t = c.args.text.now in
    rw c.start_at-start.ensures (started-at c.in-Ok.book.bytes.now t (length c.args.records.now) 0 (admits-length t c.in-Ok.ensures.1) (omega arith))

pub returns-in-Ok : goal.returns-in-Ok
returns-in-Ok c =
    let b = c.in-Ok.book in
    let t = c.args.text.now in
    let n = length c.args.records.now in
    c.read_clauses.ensures ∙ ap (λ s. settled n (read_on b.bytes.now t s)) c.start_at-start.ensures ∙ call-is b.bytes.now t n c.in-Ok.ensures.1 b.valid
    ∙ ap (λ bytes. sequence_call bytes t n) c.in-Ok.ensures.0

pub returns-in-Err : goal.returns-in-Err
returns-in-Err c =
    refused-is c.args.book.now c.args.text.now (length c.args.records.now) c.in-Err.refusal c.fill.new.self c.in-Err.ensures
    (rw c.zero_record.ensures at (c.fill.ensures.after (λ y h. cc)))
