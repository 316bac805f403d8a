-- `line_end` meets its contract: the bytes before LF, and LF where there is one.
use Rattle.std.proofs.Common.{arith}
use Rattle.ascii.proofs.Texts.{up-to}
use Rattle.lexer.specs.Trivia.{is_line_feed}
use Rattle.lexer.proofs.trivia.line_end.Goals as goal

pub returns-clause-value : goal.returns-clause-value
returns-clause-value c = omega (arith, c.past_run.ensures.value, up-to is_line_feed c.args.rest.now)
