-- Behind an end of line the blank tail is told by its place, and then the line must be continued.
use Rattle.std.proofs.Common.{◌∙◌, ◌+◌, refl, sym, arith}
use borrow.Author.Tests.{le-leb, lt-leb}
use Rattle.validation.proofs.Checking.{end-told}
use Rattle.validation.proofs.Line.check_end.Goals as goal

pub returns-then-self-end-clause-value : goal.returns-then-self-end-clause-value
returns-then-self-end-clause-value c =
    let m = c.args.self.now in
    let e = end-told m.dialect.language m.dialect.prefix _ _ _ _ _ c.requires.0 (omega arith) m.tail_found (sym c.eol_bytes.ensures.value ∙ c.in-Some.is) c.in-Some.ensures.within.1 in
    sym (e ∙ rw (le-leb m.tail (c.args.end + c.in-Some.n) c.if-self-end.true) refl)

pub returns-then-continued-clause-value : goal.returns-then-continued-clause-value
returns-then-continued-clause-value c =
    let m = c.args.self.now in
    let e = end-told m.dialect.language m.dialect.prefix _ _ _ _ _ c.requires.0 (omega arith) m.tail_found (sym c.eol_bytes.ensures.value ∙ c.in-Some.is) c.in-Some.ensures.within.1 in
    sym (e ∙ rw (lt-leb m.tail (c.args.end + c.in-Some.n) c.if-self-end.false, sym c.continued.ensures ∙ c.if-continued.true) refl)

pub returns-else-continued-clause-value : goal.returns-else-continued-clause-value
returns-else-continued-clause-value c =
    let m = c.args.self.now in
    let e = end-told m.dialect.language m.dialect.prefix _ _ _ _ _ c.requires.0 (omega arith) m.tail_found (sym c.eol_bytes.ensures.value ∙ c.in-Some.is) c.in-Some.ensures.within.1 in
    sym (e ∙ rw (lt-leb m.tail (c.args.end + c.in-Some.n) c.if-self-end.false, sym c.continued.ensures ∙ c.if-continued.false) refl)
