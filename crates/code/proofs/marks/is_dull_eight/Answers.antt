-- `is_dull_eight`: the eight bytes are those of the run.
use Rattle.std.proofs.Common.{sym}
use Rattle.code.proofs.DullLaws.{dulls-eight}
use Rattle.code.proofs.marks.is_dull_eight.Goals as goal

pub returns : goal.returns
returns c =
    rw (c.is_dull.ensures, c.is_dull-2.ensures, c.is_dull-3.ensures, c.is_dull-4.ensures, c.is_dull-5.ensures, c.is_dull-6.ensures, c.is_dull-7.ensures, c.is_dull-8.ensures)
    (sym (dulls-eight c.args.text.now c.args.at c.requires))
