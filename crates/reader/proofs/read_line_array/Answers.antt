-- `read_line_array` meets its contract: no more clauses are read than slots are used, and zeros stand behind.
use Rattle.std.proofs.Common.{rules, ◌≡◌, ◌≤◌, arith, length, take}
use lib.Seq.{length-take-le}
use Rattle.clause.proofs.Few.{array-is}
use Rattle.reader.proofs.Few.{within-more}
use Rattle.reader.proofs.read_line_array.Goals as goal

pub returns : goal.returns
returns g c =
    let a = c.args in
    let n = g.row.N in
    let used = c.min-used.result in
    let rs = c.read_line-answer.new.records in
    let h : used ≤ n = search rules in
    let l : length a.records ≡ n = search rules in
    let m : length rs ≡ used = search rules in
    let lent : length (take used a.records) ≡ used = length-take-le used a.records (omega arith) in
    let call = rw lent at c.read_line-answer.ensures in
    let fill = rw c.zero_record.ensures at (c.fill.ensures.after (λ y h. cc)) in
    rw (array-is used n rs a.records c.fill.new.self l m h fill, ← c.min-used.ensures)
    (within-more a.dialect.language a.dialect.prefix a.book.now a.line.now (length a.text.now) (length a.map.now) used n _ _ _ rs h call)
