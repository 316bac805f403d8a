-- `read_line` meets its contract: what is left of a refusal is zeroed.
use Rattle.std.proofs.Common.{rules, length, sym, ◌∙◌}
use Rattle.reader.proofs.Settled.{within-left}
use Rattle.reader.proofs.read_line.Goals as goal

pub returns-then-is_err : goal.returns-then-is_err
returns-then-is_err c =
    let a = c.args in
    let r = c.read_up_to-result in
    within-left a.dialect.language a.dialect.prefix a.book.now a.line.now (length a.records.now) (length a.text.now) (length a.map.now) (length a.records.now) r.new.text r.new.map _ _ r.new.records _ r.result
    (sym c.is_err.ensures.value ∙ c.if-is_err.true) r.ensures (rw (← r.auto.text) (search rules)) (rw (← r.auto.map) (search rules))
    (rw (← c.zero_record.ensures, ← r.auto.records) (search rules))
