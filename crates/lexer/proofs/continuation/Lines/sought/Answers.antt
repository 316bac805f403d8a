-- `Lines::sought` meets its contract: behind the last end of line no line ends.
use Rattle.lexer.proofs.Continuing.{unended-behind}
use Rattle.lexer.proofs.continuation.Lines.sought.Goals as goal

pub invariant_of-result : goal.invariant_of-result
invariant_of-result c = record { unended = rw c.run_start.ensures.value (unended-behind c.args.text.now) }
