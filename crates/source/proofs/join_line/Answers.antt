-- The verdict says what the call gives, and the calls what the slots hold.
use Rattle.std.proofs.Common.{◌∙◌, sym, arith, rules}
use Rattle.source.proofs.Judging.{join-refused, join-done, join-fits}
use Rattle.source.proofs.join_line.Goals as goal

pub returns-in-Err : goal.returns-in-Err
returns-in-Err c = join-refused _ _ _ _ _ _ _ _ (sym c.judge_join.ensures ∙ c.in-Err.is) (search rules) (search rules)

pub join_into-n-requires : goal.join_into-n-requires
join_into-n-requires c =
    let f = join-fits _ _ _ _ _ (sym c.judge_join.ensures ∙ c.in_default.is) in
    record { line_len_bound = f.0; line_in_bounds = f.1; line_in_bounds_2 = f.2 }

pub offset_bounds-map-n : goal.offset_bounds-map-n
offset_bounds-map-n c =
    let f = join-fits _ _ _ _ _ (sym c.judge_join.ensures ∙ c.in_default.is) in
    omega (arith, f)

pub slice_bounds-fill-count-2 : goal.slice_bounds-fill-count-2
slice_bounds-fill-count-2 c = omega (arith, (join-fits _ _ _ _ _ (sym c.judge_join.ensures ∙ c.in_default.is)).2)

pub slice_bounds-fill-start-2 : goal.slice_bounds-fill-start-2
slice_bounds-fill-start-2 c = omega (arith, (join-fits _ _ _ _ _ (sym c.judge_join.ensures ∙ c.in_default.is)).2)

pub returns : goal.returns
returns c =
    let n = c.join_into-n in
    let e = sym c.judge_join.ensures ∙ c.in_default.is in
    let f = join-fits _ _ _ _ _ e in
    join-done _ _ _ _ _ n.result n.new.text n.new.map _ _ e
    (search rules) (search rules) (omega (arith, f)) (omega (arith, f)) n.ensures.count n.ensures.text n.ensures.map (search rules) (search rules)
