-- The range of the part, moved by the part's start.
use Rattle.ascii.proofs.Texts.{part-shift}
use Rattle.ascii.proofs.trim_between.Goals as goal

pub returns-clause-value : goal.returns-clause-value
returns-clause-value c = part-shift _ _ _ c.trim_range-range.ensures.value
