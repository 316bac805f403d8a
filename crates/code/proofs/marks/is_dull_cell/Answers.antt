-- `is_dull_cell`: the four eights are those of the run.
use Rattle.std.proofs.Common.{sym}
use Rattle.code.proofs.DullLaws.{dulls-cell}
use Rattle.code.proofs.marks.is_dull_cell.Goals as goal

pub returns : goal.returns
returns c =
    rw (c.is_dull_eight.ensures, c.is_dull_eight-2.ensures, c.is_dull_eight-3.ensures, c.is_dull_eight-4.ensures)
    (sym (dulls-cell c.args.text.now c.args.at c.requires))
