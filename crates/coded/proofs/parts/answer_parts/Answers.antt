-- `parts::answer_parts` meets its contract: the numbers in the slots so far, with the answers of the parts that are left, are the whole.
use Rattle.std.proofs.Common.{ℕ, ◌-◌, List, take, drop, ap, ◌∙◌, arith}
use Rattle.std.proofs.lemmas.List.{nil_from_length}
use Rattle.coded.proofs.Answering.{fills, zeroes, closes}
use Rattle.coded.proofs.parts.answer_parts.Goals as goal
use Rattle.coded.proofs.parts.answer_parts.Goals.{in-Some, in-None}

pub loop-slot-preserved : goal.loop-slot-preserved
loop-slot-preserved g c =
    let i = c.loop-slot in
    elim c.match-next.branch [
      | in-Some w ↦
          let stop = w.part_end-stop in
          rw (w.by-is, w.answers-is, w.at-is) (
            omega (arith, stop.ensures),
            w.answer.ensures.stays ∙ i.invariant.1,
            fills _ _ _ _ _ _ _ (omega arith) (omega arith) w.in-Some.ensures.steps stop.ensures.0
                (w.answer.ensures.value ∙ ap (λ (f : List ℕ → List ℕ). f (take (stop.result - i.at) (drop i.at c.args.bytes.now))) i.invariant.1) ∙ i.invariant.2,
          )
      | in-None w ↦
          rw (w.by-is, w.answers-is, w.at-is, w.in-None.ensures.steps.1)
          (i.invariant.0, i.invariant.1, zeroes _ _ _ _ _ _ _ (omega arith) (omega arith) (nil_from_length _ w.in-None.ensures.steps.0) ∙ i.invariant.2)
    ]

pub returns-clause-each : goal.returns-clause-each
returns-clause-each g c = closes _ _ _ _ _ _ _ _ (omega arith) (omega arith) ∙ c.loop-slot.invariant.2
