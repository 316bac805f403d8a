-- Each turn writes the next block. Assumes nothing.
use Rattle.std.proofs.Common.{◌≡◌, ◌+◌, ◌++◌, sym, arith, rules, length, take, drop, length-drop, drop-drop}
use Rattle.std.proofs.lemmas.List.{take-append-drop}
use Rattle.std.proofs.Math.Seq.{length-take-le}
use Rattle.source.proofs.Staying.{filled}
use Rattle.source.proofs.runs.copy_by.Goals as goal

pub loop-k-preserved : goal.loop-k-preserved
loop-k-preserved g c =
    let l = c.loop-k in
    let N = g.row.N in
    let run = c.args.run.now in
    let rest = drop l.k run in
    let part : c.copy_from_slice.new.self ≡ take N rest = search rules in
    let n : length (take N rest) ≡ N = length-take-le N rest (rw length-drop (omega arith)) in
    let more : rest ≡ take N rest ++ drop (l.k + N) run = sym (rw (← drop-drop N l.k run) (take-append-drop N rest)) in
    record {
      within = omega arith;
      bytes = rw part (rw n at (filled l.slots (take N rest) rest (drop (l.k + N) run) run l.k (omega arith) more l.invariant.bytes));
    }
