-- `opening_c` meets its contract: where each of its steps came to, and the first that fails.
use Rattle.std.proofs.Common.{sym, ap, ◌∙◌}
use Rattle.std.proofs.lemmas.Result.{err_from_is_err_and}
use Rattle.lexer.specs.Steps.{step_of}
use Rattle.reader.specs.Line.{opening_c}
use Rattle.reader.proofs.opening.opening_c.Goals as goal

pub returns-in_err-trivia-clause-result_value : goal.returns-in_err-trivia-clause-result_value
unfolding opening_c
returns-in_err-trivia-clause-result_value c =
    let p = err_from_is_err_and c.from_residual.result c.from_residual.ensures.1 in
    rw (p.1, p.2, sym c.trivia.ensures.result_value ∙ ap step_of c.in_err-trivia.was)

pub returns-in_err-pragma-clause-result_value : goal.returns-in_err-pragma-clause-result_value
unfolding opening_c
returns-in_err-pragma-clause-result_value c =
    let p = err_from_is_err_and c.from_residual-in_err-pragma.result c.from_residual-in_err-pragma.ensures.1 in
    rw (p.1, p.2, sym c.trivia.ensures.result_value ∙ ap step_of c.in_ok-trivia.was, sym c.pragma.ensures.result_value ∙ ap step_of c.in_err-pragma.was)

pub returns-in_err-some_trivia-clause-result_value : goal.returns-in_err-some_trivia-clause-result_value
unfolding opening_c
returns-in_err-some_trivia-clause-result_value c =
    let p = err_from_is_err_and c.from_residual-in_err-some_trivia.result c.from_residual-in_err-some_trivia.ensures.1 in
    rw (p.1, p.2, sym c.trivia.ensures.result_value ∙ ap step_of c.in_ok-trivia.was, sym c.pragma.ensures.result_value ∙ ap step_of c.in_ok-pragma.was, sym c.some_trivia.ensures.result_value ∙ ap step_of c.in_err-some_trivia.was)

pub returns-in_err-prefix-clause-result_value : goal.returns-in_err-prefix-clause-result_value
unfolding opening_c
returns-in_err-prefix-clause-result_value c =
    let p = err_from_is_err_and c.from_residual-in_err-prefix.result c.from_residual-in_err-prefix.ensures.1 in
    rw (p.1, p.2, sym c.trivia.ensures.result_value ∙ ap step_of c.in_ok-trivia.was, sym c.pragma.ensures.result_value ∙ ap step_of c.in_ok-pragma.was, sym c.some_trivia.ensures.result_value ∙ ap step_of c.in_ok-some_trivia.was, sym c.prefix.ensures.result_value ∙ ap step_of c.in_err-prefix.was)

pub returns-clause-result_value : goal.returns-clause-result_value
unfolding opening_c
returns-clause-result_value c =
    rw (sym c.trivia.ensures.result_value ∙ ap step_of c.in_ok-trivia.was, sym c.pragma.ensures.result_value ∙ ap step_of c.in_ok-pragma.was, sym c.some_trivia.ensures.result_value ∙ ap step_of c.in_ok-some_trivia.was, sym c.prefix.ensures.result_value ∙ ap step_of c.in_ok-prefix.was) c.some_trivia-2.ensures.result_value
