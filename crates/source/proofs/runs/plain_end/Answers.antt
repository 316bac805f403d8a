-- A run of bytes that begin no continuation of either language stays. Assumes nothing.
use Rattle.std.proofs.Common.{◌≡◌, ◌+◌, ap, arith, rules, true, get_or}
use Rattle.lexer.specs.Continuation.{if_any}
use Rattle.source.specs.Joining.{any_cut}
use Rattle.source.specs.Staying.{is_plain}
use Rattle.source.proofs.Staying.{none-any, stays-first, stays-none, stays-run}
use Rattle.source.proofs.runs.plain_end.Goals as goal

pub returns : goal.returns
returns c =
    let e = c.long_run_end.ensures in
    stays-run any_cut c.args.content.now is_plain none-any c.args.from c.long_run_end.result c.requires e.lower_bound.0 (omega arith)

pub returns-then-not-has : goal.returns-then-not-has
returns-then-not-has c = stays-none any_cut c.args.content.now c.args.from c.requires

pub returns-then-not-has-2 : goal.returns-then-not-has-2
returns-then-not-has-2 c =
    let t = c.args.content.now in
    let plain : is_plain (get_or t c.args.from 0) ≡ true = search rules in
    stays-first any_cut t c.args.from (c.args.from + 1) c.if-from-content.true (ap if_any (none-any.none t c.args.from plain)) (stays-none any_cut t (c.args.from + 1) (omega arith))
