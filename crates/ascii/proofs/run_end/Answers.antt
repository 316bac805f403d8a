-- `position` finds the first byte that is not of the set, which is where the run ends.
use Rattle.std.proofs.Common.{◌≡◌, rules, arith, drop, length}
use Rattle.std.proofs.lemmas.List.{take_rest}
use Rattle.ascii.specs.Text.{leading}
use Rattle.ascii.proofs.Texts.{leading_is}
use Rattle.ascii.proofs.run_end.Goals as goal

pub returns-in-Some-clause-value : goal.returns-in-Some-clause-value
returns-in-Some-clause-value g c =
    let rest : c.iter.result.rest.now ≡ drop c.args.from c.args.text.now = rw take_rest at c.iter.ensures.rest in
    let e : leading g.S.ByteSet.holds c.iter.result.rest.now ≡ c.in-Some.n = leading_is g.S.ByteSet.holds c.iter.result.rest.now c.in-Some.n (search rules) (search rules) (search rules) in
    rw (← rest, e)

pub returns-in-None-clause-value : goal.returns-in-None-clause-value
returns-in-None-clause-value g c =
    let rest : c.iter.result.rest.now ≡ drop c.args.from c.args.text.now = rw take_rest at c.iter.ensures.rest in
    let e : leading g.S.ByteSet.holds c.iter.result.rest.now ≡ length c.iter.result.rest.now = leading_is g.S.ByteSet.holds c.iter.result.rest.now (length c.iter.result.rest.now) (search rules) (search rules) (search rules) in
    rw (← rest, e) (omega arith)
