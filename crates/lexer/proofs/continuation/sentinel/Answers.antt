-- `sentinel` meets its contract: a text that has the prefix behind two bytes has room for it.
use Rattle.std.proofs.Common.{ℕ, sym, ◌∙◌, arith, length-drop, length-take}
use Rattle.ascii.specs.Ascii.{fold}
use Rattle.lexer.specs.Continuation.{prefix_bytes}
use Rattle.lexer.proofs.Laws.{begins-fits, prefix-length}
use Rattle.lexer.proofs.continuation.sentinel.Goals as goal

pub returns-then-prefix_at-clause-within : goal.returns-then-prefix_at-clause-within
returns-then-prefix_at-clause-within c =
    omega (
      arith,
      begins-fits fold (prefix_bytes c.args.prefix) _ (sym c.prefix_at.ensures ∙ c.if-prefix_at.true),
      prefix-length c.args.prefix,
      length-take {A = ℕ},
      length-drop {A = ℕ},
    )
