-- The verdict says what the call gives, and the calls what the slots hold.
use Rattle.std.proofs.Common.{◌∙◌, sym, arith, rules}
use Rattle.source.proofs.Judging.{copy-refused, copy-done, copy-fits}
use Rattle.source.proofs.copy_content.Goals as goal

pub returns-in-Err : goal.returns-in-Err
returns-in-Err c = copy-refused _ _ _ _ (sym c.judge_copy.ensures ∙ c.in-Err.is) (search rules)

pub copy_into-n-requires : goal.copy_into-n-requires
copy_into-n-requires c = copy-fits _ _ (sym c.judge_copy.ensures ∙ c.in_default.is)

pub returns : goal.returns
returns c =
    let n = c.copy_into-n in
    let e = sym c.judge_copy.ensures ∙ c.in_default.is in
    let f = copy-fits _ _ e in
    copy-done _ _ n.result n.new.copy _ e (search rules) (omega (arith, f)) n.ensures.count n.ensures.copy (search rules)
