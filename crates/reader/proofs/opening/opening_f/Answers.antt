-- `opening_f` meets its contract: behind trivia of C a sentinel, or none.
use Rattle.std.proofs.Common.{ℕ, ◌≡◌, ◌+◌, ◌-◌, ◌≤◌, List, length, take, drop, length-drop, arith, false, true, sym, ap, ◌∙◌}
use borrow.Author.Tests.{ne_eqb}
use lib.Seq.{take_all}
use Rattle.std.proofs.lemmas.Result.{err_from_is_err_and}
use Rattle.refusal.specs.Answer.{given, refused}
use Rattle.lexer.specs.declared.Language.{Language}
use Rattle.lexer.specs.declared.Prefix.{Prefix}
use Rattle.std.specs.Prelude.{None, Some}
use Rattle.lexer.specs.Continuation.{if_any, opening_sentinel}
use Rattle.lexer.proofs.Continuing.{if_any-none, if_any-some}
use Rattle.lexer.specs.Steps.{step_of, trivia_step, some_trivia_step}
use Rattle.reader.specs.Line.{opening_f}
use Rattle.reader.proofs.opening.opening_f.Goals as goal

-- the text from a place on, as the slice of it
rest-is : (a : ℕ) (t : List ℕ) → take (length t - a) (drop a t) ≡ drop a t
rest-is a t = let h : length (drop a t) ≤ length t - a = simp length-drop (omega arith) in rw take_all

-- behind trivia of C that ends at place a: no sentinel, or one of n bytes
module _ (l : Language) (p : Prefix) (t : List ℕ) (a : ℕ) (came : trivia_step false t 0 ≡ given a) where
  opens_not : if_any (opening_sentinel l p (drop a t)) ≡ None → refused 7 0 ≡ opening_f l p t
  unfolding opening_f
  opens_not e = rw (came, if_any-none (opening_sentinel l p (drop a t)) e)

  opens_at : (n : ℕ) → if_any (opening_sentinel l p (drop a t)) ≡ Some n → some_trivia_step true t (a + n) ≡ opening_f l p t
  unfolding opening_f
  opens_at n e =
      let h = if_any-some (opening_sentinel l p (drop a t)) n e in
      rw (came, h.0, ne_eqb n 0 (λ z. absurd (omega (arith, z, h.1))))

pub returns-in_err-start-clause-result_value : goal.returns-in_err-start-clause-result_value
unfolding opening_f
returns-in_err-start-clause-result_value c =
    let p = err_from_is_err_and c.from_residual.result c.from_residual.ensures.1 in
    rw (p.1, p.2, sym c.trivia.ensures.result_value ∙ ap step_of c.in_err-start.was)

pub returns-in_default-clause-result_value : goal.returns-in_default-clause-result_value
returns-in_default-clause-result_value c =
    rw c.at.ensures (opens_not c.args.dialect.language c.args.dialect.prefix c.args.text.now c.in_ok-start.field-0.at
    (sym c.trivia.ensures.result_value ∙ ap step_of c.in_ok-start.was)
    (rw (rest-is c.in_ok-start.field-0.at c.args.text.now) at (sym c.opening_sentinel.ensures.value ∙ c.in_default.is)))

pub returns-clause-result_value : goal.returns-clause-result_value
returns-clause-result_value c =
    c.some_trivia.ensures.result_value ∙ opens_at c.args.dialect.language c.args.dialect.prefix c.args.text.now c.in_ok-start.field-0.at
    (sym c.trivia.ensures.result_value ∙ ap step_of c.in_ok-start.was) c.in-Some.n
    (rw (rest-is c.in_ok-start.field-0.at c.args.text.now) at (sym c.opening_sentinel.ensures.value ∙ c.in-Some.is))
