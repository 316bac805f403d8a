-- `run_start` finds where trimming ends, and the byte before that is the last.
use Rattle.std.proofs.Common.{◌∙◌, sym}
use Rattle.validation.proofs.Lines.{ends-trimmed}
use Rattle.validation.proofs.ends_in_marker.Goals as goal

pub returns : goal.returns
returns c = c.is_last.ensures ∙ sym (ends-trimmed 38 c.args.text.now c.run_start.result c.run_start.ensures.value)
