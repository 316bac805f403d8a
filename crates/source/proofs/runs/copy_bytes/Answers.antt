-- Each turn writes the next byte. Assumes nothing.
use Rattle.std.proofs.Common.{◌≤◌, arith, length, length-set}
use Rattle.std.proofs.lemmas.List.{append-nil, take_all, drop_more}
use lib.ListN.{drop_of_length-le}
use Rattle.ascii.proofs.Slots.{pushed}
use Rattle.source.proofs.runs.copy_bytes.Goals as goal

pub loop-k-preserved : goal.loop-k-preserved
loop-k-preserved c =
    let l = c.loop-k in
    let h = c.loop-k-test.true in
    let i = l.invariant in
    record {
      within = simp length-set (omega arith);
      same = rw length-set i.same;
      bytes = rw (pushed l.slots l.k _ _ h, ← drop_more c.args.run.now l.k 0 (rw i.same h)) i.bytes;
    }

pub returns : goal.returns
returns c =
    let l = c.loop-k in
    let i = l.invariant in
    let past : length c.args.run.now ≤ l.k = rw i.same c.loop-k-test.false in
    rw (drop_of_length-le c.args.run.now past, append-nil, take_all, c.loop-k-test.false) at i.bytes
