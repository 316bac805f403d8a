-- `OpenBrackets::push`: a store at the depth, counted in, is a push of the list.
use Rattle.std.proofs.Common.{rules, ◌<◌, refl, arith}
use borrow.Author.Tests.{lt-ltb}
use Rattle.code.specs.Stack.{length-stacked}
use Rattle.code.proofs.Stack.{stacked-push, array-push}
use Rattle.code.proofs.OpenBrackets.push.Goals as goal

pub invariant_of-self : goal.invariant_of-self
invariant_of-self c =
    let i = c.self.inside in
    (omega (arith, c.self.invariant.0), array-push i.closing i.depth c.args.b (search rules) c.self.invariant.1)

pub returns-clause-value : goal.returns-clause-value
returns-clause-value c =
    let i = c.self.inside in
    let h : i.depth < 256 = omega arith in
    rw (stacked-push i.closing i.depth c.args.b (search rules), ← c.self.view_is, length-stacked i.closing i.depth, lt-ltb i.depth 256 h) refl
