-- `parse_sequence_array` meets its contract: no more clauses are read than slots are used, and zeros stand behind.
use Rattle.std.proofs.Common.{rules, ◌≡◌, ◌≤◌, arith, length, take}
use lib.Seq.{length-take-le}
use Rattle.clause.proofs.Few.{call-more, array-is}
use Rattle.clause.proofs.parse_sequence_array.Goals as goal

pub returns : goal.returns
returns g c =
    let n = g.row.N in
    let used = c.min-used.result in
    let rs = c.parse_sequence-answer.new.records in
    let h : used ≤ n = search rules in
    let l : length c.args.records ≡ n = search rules in
    let m : length rs ≡ used = search rules in
    let lent : length (take used c.args.records) ≡ used = length-take-le used c.args.records (omega arith) in
    let call = rw lent at c.parse_sequence-answer.ensures in
    let fill = rw c.zero_record.ensures at (c.fill.ensures.after (λ y h. cc)) in
    rw (array-is used n rs c.args.records c.fill.new.self l m h fill, ← c.min-used.ensures) (call-more c.args.book.now c.args.text.now used n _ rs h call)
