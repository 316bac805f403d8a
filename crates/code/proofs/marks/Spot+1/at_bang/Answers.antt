-- `Spot<1>::at_bang`: each way is a law of the marks.
use Rattle.std.proofs.Common.{refl, sym, ◌∙◌}
use borrow.Author.Tests.{eq-eqb, ne_eqb}
use Rattle.code.proofs.MarkLaws.{at-bang-line, at-bang-else, one-code, one-line}
use Rattle.code.proofs.marks.Spot+1.at_bang.Goals as goal
use Rattle.code.proofs.marks.Spot+1.at_bang.Goals.{else-is_fortran-via-then-is_fortran+else-byte_at-ne36, else-is_fortran-via-else-is_fortran}

pub returns-then-byte_at-ne36 : goal.returns-then-byte_at-ne36
returns-then-byte_at-ne36 c =
    let i = c.requires in
    let f = c.is_fortran.ensures in
    let n = c.byte_at.ensures in
    one-line _ _ _ _ c.args.self.now.known
    ∙ sym (at-bang-line _ _ _ i.0 i.1 (rw (sym f ∙ c.if-is_fortran.true, ne_eqb _ _ (rw n at c.if-byte_at-ne36.true)) refl))

pub returns-else-is_fortran : goal.returns-else-is_fortran
returns-else-is_fortran c =
    let i = c.requires in
    let f = c.is_fortran.ensures in
    one-code _ _ _ _ c.args.self.now.known
    ∙ sym
    (at-bang-else _ _ _ i.0 i.1
    (elim c.else-is_fortran.branch [
      | else-is_fortran-via-then-is_fortran+else-byte_at-ne36 w ↦
          rw (sym f ∙ w.if-is_fortran.true, eq-eqb _ _ (sym w.byte_at.ensures ∙ w.if-byte_at-ne36.false)) refl
      | else-is_fortran-via-else-is_fortran w ↦ rw (sym f ∙ w.if-is_fortran.false) refl
    ]))
