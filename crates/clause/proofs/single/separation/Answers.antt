-- `separation` meets its contract: without a comma the trivia is passed already.
use Rattle.std.proofs.Common.{◌∙◌}
use Rattle.clause.proofs.Reading.{starts-not, no-comma-is}
use Rattle.clause.proofs.single.separation.Goals as goal

pub returns : goal.returns
returns c =
    let a = c.args in
    no-comma-is a.fortran a.text.now a.at c.in_ok-place.place c.in_ok-place.ensures.value
    (starts-not 44 c.in_ok-place.place a.text.now (λ e. c.if-byte_at-eq44.false (c.byte_at.ensures ∙ e)))
