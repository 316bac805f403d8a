use Rattle.std.proofs.Common.{◌≡◌, ◌-◌, ◌++◌, ◌≤◌, length, take, drop, replicate}
use Rattle.coded.specs.Lines.{answers_from}
use Rattle.coded.proofs.parts.answer_parts.Given as goal

-- the numbers in the slots so far, with the answers of the parts that are left, are the whole
abbrev pub invariant-loop-slot : goal.invariant-loop-slot
invariant-loop-slot g l =
    (l.at ≤ length l.bytes)
    × (g.A.AnswerPart.answers l.by ≡ g.A.AnswerPart.answers l.fn.by)
    × (take l.slot-index l.answers ++ answers_from (λ at stop. g.A.AnswerPart.answers l.fn.by (take (stop - at) (drop at l.bytes))) (replicate g.row.N 0) (length l.bytes) (length l.fn.answers - l.slot-index) l.at l.left.rest.now
    ≡ answers_from (λ at stop. g.A.AnswerPart.answers l.fn.by (take (stop - at) (drop at l.bytes))) (replicate g.row.N 0) (length l.bytes) (length l.fn.answers) 0 l.ends)
