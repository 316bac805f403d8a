-- `head_of_fit` meets its contract: the physical lines' check, and what joining has written for the name and the clauses.
use Rattle.std.proofs.Common.{ℕ, ◌≤◌, ◌<◌, length, sym, ◌∙◌, arith}
use lib.ListN.{length-take}
use Rattle.std.proofs.lemmas.Result.{err_from_is_err_and}
use Rattle.rulebook.proofs.Finding.{book-case}
use Rattle.source.proofs.Judging.{fit-bounds}
use Rattle.reader.proofs.Checking.{line-physical, line_read}
use Rattle.reader.proofs.Headed.{gives-joined}
use Rattle.reader.proofs.heading.head_of_fit.Goals as goal

pub returns-in_err-check_line : goal.returns-in_err-check_line
returns-in_err-check_line c =
    let a = c.args in
    let b = a.book.now in
    let p = err_from_is_err_and c.from_residual.result c.from_residual.ensures.1 in
    rw (p.1, p.2) (line-physical a.dialect.language a.dialect.prefix b.bytes.now a.line.now (length a.text.now) (length a.map.now) a.slots c.in_err-check_line.field-0.0 c.requires.fits b.valid
    (rw (book-case b.bytes.now b.header b.header_read) (sym c.check_line.ensures ∙ c.in_err-check_line.was)))

pub join_into-n-requires : goal.join_into-n-requires
join_into-n-requires c =
    let f = fit-bounds c.args.line.now (length c.args.text.now) (length c.args.map.now) c.requires.fits in
    record { line_len_bound = f.0; line_in_bounds = f.1; line_in_bounds_2 = f.2 }

pub head_of-requires-clause-short : goal.head_of-requires-clause-short
head_of-requires-clause-short c =
    let f = fit-bounds c.args.line.now (length c.args.text.now) (length c.args.map.now) c.requires.fits in
    omega (arith, f.0, c.join_into-n.ensures.within, length-take {A = ℕ})

pub returns : goal.returns
returns c =
    let a = c.args in
    let b = a.book.now in
    let r = c.join_into-n in
    let f = fit-bounds a.line.now (length a.text.now) (length a.map.now) c.requires.fits in
    let e = line_read a.dialect.language a.dialect.prefix b.bytes.now a.line.now (length a.text.now) (length a.map.now) a.slots c.requires.fits b.valid
    (rw (book-case b.bytes.now b.header b.header_read) (sym c.check_line.ensures ∙ c.in_ok-check_line.was)) in
    let m : r.result ≤ length r.new.text = omega (arith, f.1, r.ensures.within) in
    let k : r.result < length r.new.map = omega (arith, f.2, r.ensures.within) in
    gives-joined a.dialect.language a.dialect.prefix b.bytes.now a.line.now a.slots r.new.text r.new.map r.result (rw (r.auto.text, r.auto.map) e) m k r.ensures.text r.ensures.map c.head_of.result c.head_of.ensures
