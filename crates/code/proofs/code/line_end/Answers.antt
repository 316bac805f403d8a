-- `code::line_end`: the run of the line's bytes, and the byte that ends it where there is one.
use Rattle.std.proofs.Common.{◌+◌, ℕ, ap, sym, ◌∙◌, drop}
use Rattle.ascii.specs.Ascii.{is_eol}
use Rattle.ascii.proofs.Texts.{up-to}
use Rattle.code.proofs.code.line_end.Goals as goal

pub returns-clause-value : goal.returns-clause-value
returns-clause-value c = c.past_run.ensures.value ∙ ap (λ (n : ℕ). c.args.from + n) (sym (up-to is_eol (drop c.args.from c.args.text.now)))
