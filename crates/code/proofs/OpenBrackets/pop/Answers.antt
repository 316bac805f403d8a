-- `OpenBrackets::pop`: a zero in the place below the depth, which is counted out, is a pop of the list.
use Rattle.std.proofs.Common.{ap, ◌∙◌, arith}
use Rattle.std.specs.Prelude.{drop}
use Rattle.code.proofs.Stack.{stacked-pop, array-pop}
use Rattle.code.proofs.OpenBrackets.pop.Goals as goal

pub invariant_of-self : goal.invariant_of-self
invariant_of-self c =
    let i = c.self.inside in
    (omega (arith, c.self.invariant.0), array-pop i.closing i.depth (omega arith) c.self.invariant.1)

pub returns-then-self-gt0 : goal.returns-then-self-gt0
returns-then-self-gt0 c =
    let i = c.self.inside in
    stacked-pop i.closing i.depth (omega arith) ∙ ap (drop 1) c.self.view_is
