-- Each turn writes the next place. Assumes nothing.
use Rattle.std.proofs.Common.{arith, length, length-set}
use Rattle.std.proofs.lemmas.List.{append-nil, take_all}
use Rattle.ascii.proofs.Slots.{pushed}
use Rattle.source.proofs.Staying.{counted-next, counted-none}
use Rattle.source.proofs.runs.count_up.Goals as goal

pub loop-k-preserved : goal.loop-k-preserved
loop-k-preserved c =
    let l = c.loop-k in
    let h = c.loop-k-test.true in
    record {
      beside = omega arith;
      within = simp length-set (omega arith);
      places = rw (length-set, pushed, ← counted-next l.i l.k (length l.map) h) l.invariant.places;
    }

pub returns : goal.returns
returns c =
    let l = c.loop-k in
    rw (counted-none l.i l.k (length l.map) c.loop-k-test.false, append-nil, take_all, c.loop-k-test.false, l.auto.map) at l.invariant.places
