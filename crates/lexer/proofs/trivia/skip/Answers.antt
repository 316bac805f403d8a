-- `skip` meets its contract: where a text ends, at a byte that begins no trivia, and at one blank before such a byte nothing is to be walked.
use Rattle.std.proofs.Common.{sym, ◌∙◌, arith}
use Rattle.lexer.specs.Trivia.{skip}
use Rattle.lexer.proofs.Skipping.{skip-end, skip-solid, skip-blank}
use Rattle.lexer.proofs.trivia.skip.Goals as goal

pub returns-then-at-text-clause-value : goal.returns-then-at-text-clause-value
unfolding skip
returns-then-at-text-clause-value c = sym (skip-end c.args.fortran c.args.text.now c.args.at (omega (arith, c.if-at-text.true)))

pub returns-then-no_trivia-clause-value : goal.returns-then-no_trivia-clause-value
returns-then-no_trivia-clause-value c = sym (skip-solid _ _ _ (omega arith) (sym c.no_trivia.ensures ∙ c.if-no_trivia.true))

pub returns-then-no_trivia-2-clause-value : goal.returns-then-no_trivia-2-clause-value
returns-then-no_trivia-2-clause-value c =
    let e = sym c.no_trivia-then-text-at-eq32.ensures ∙ c.if-no_trivia-2.true in
    sym (skip-blank _ _ _ (omega arith) c.if-text-at-eq32.true (rw c.byte_at.ensures at e))
