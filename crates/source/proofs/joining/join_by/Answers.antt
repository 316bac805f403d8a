-- A long run stays as a block; what `join_bytes` says of the rest is the invariant again. Assumes nothing.
use Rattle.std.proofs.Common.{◌∙◌, ◌<◌, ◌≤◌, sym, arith, length, add-one}
use Rattle.std.proofs.Math.Seq.{length-take-le, take-suc-set}
use Rattle.std.proofs.lemmas.List.{append-nil, append_assoc}
use Rattle.ascii.proofs.Texts.{leading-more}
use Rattle.source.specs.Joining.{cut_of, joined_text, joined_map}
use Rattle.source.specs.Staying.{Stays}
use Rattle.source.proofs.Kept.{kept-end}
use Rattle.source.proofs.Staying.{stays-run}
use Rattle.source.proofs.joining.join_by.Goals as goal

pub loop-i-preserved-then-is_long : goal.loop-i-preserved-then-is_long
loop-i-preserved-then-is_long g c =
    let l = c.loop-i in
    let t = c.args.line.now in
    let e = c.keep_block-end.ensures in
    let end = c.keep_block-end.result in
    let cut = cut_of c.args.language in
    let s : Stays cut t l.i end = stays-run cut t g.S.ByteSet.holds c.requires.set l.i end l.invariant.within e.within.0 (omega (arith, e.run)) in
    record {
      behind = omega arith;
      step = (omega arith, omega arith);
      within = omega arith;
      text = rw (e.text, append_assoc, ← s.bytes) l.invariant.text;
      map = rw (e.map, append_assoc, ← s.places) l.invariant.map;
    }

pub loop-i-smaller-then-is_long : goal.loop-i-smaller-then-is_long
loop-i-smaller-then-is_long g c =
    let first = sym c.has.ensures ∙ c.if-has.true in
    omega (arith, c.keep_block-end.ensures, leading-more g.S.ByteSet.holds c.args.line.now c.loop-i.i c.loop-i-test.true first)

pub returns-clause-count : goal.returns-clause-count
unfolding joined_text
returns-clause-count g c =
    let text = rw (kept-end, c.loop-i-test.false, append-nil) at c.loop-i.invariant.text in
    let a : c.loop-i.k ≤ length c.loop-i.text = omega arith in
    rw (← text, length-take-le)

pub returns-clause-text : goal.returns-clause-text
unfolding joined_text
returns-clause-text g c = rw (kept-end, c.loop-i-test.false, append-nil) at c.loop-i.invariant.text

pub returns-clause-map : goal.returns-clause-map
unfolding joined_map
returns-clause-map g c =
    let map = rw (kept-end, c.loop-i-test.false, append-nil) at c.loop-i.invariant.map in
    let b : c.loop-i.k < length c.loop-i.map = omega arith in
    rw (add-one, take-suc-set, map)
