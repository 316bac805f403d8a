-- `Spot<32>::last_cell`: dull bytes keep the flags of the text's end.
use Rattle.std.proofs.Common.{◌≡◌, ◌-◌, length, take, drop, arith, sym, ◌∙◌}
use lib.ListN.{length-drop}
use lib.Seq.{take_all}
use Rattle.code.proofs.DullLaws.{dull-end}
use Rattle.code.proofs.marks.Spot+32.last_cell.Goals as goal

pub returns-then-is_dull_text : goal.returns-then-is_dull_text
returns-then-is_dull_text c =
    let m = c.args.self.now in
    let t = m.code.text.now in
    let whole : take (length t - m.at) (drop m.at t) ≡ drop m.at t = take_all (length t - m.at) (drop m.at t) (rw (length-drop m.at t) (omega arith)) in
    rw c.past_end-end.ensures (sym (dull-end m.code.style t 32 m.at (rw whole at (sym c.is_dull_text.ensures ∙ c.if-is_dull_text.true))))
