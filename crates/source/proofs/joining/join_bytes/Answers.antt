-- A byte that stays is written with its place; a continuation is passed over. Assumes nothing.
use Rattle.std.proofs.Common.{◌≡◌, ◌<◌, None, Some, arith, length, drop}
use Rattle.std.proofs.lemmas.Grind.{common_steps}
use Rattle.lexer.specs.Continuation.{if_any}
use Rattle.ascii.proofs.Slots.{pushed}
use Rattle.source.specs.Joining.{cut_of}
use Rattle.source.proofs.Kept.{kept_next, kept-jump}
use Rattle.source.proofs.joining.join_bytes.Goals as goal

pub loop-i-preserved : goal.loop-i-preserved
loop-i-preserved g c =
    let l = c.loop-i in
    let h : l.i < length c.args.lines.now.text.now = omega arith in
    let none : if_any (cut_of c.args.language (drop l.i c.args.lines.now.text.now)) ≡ None = grind (arith, common_steps) in
    let a : l.k < length l.text = omega arith in
    let b : l.k < length l.map = omega arith in
    record {
      behind = omega arith;
      within = omega arith;
      text = rw pushed (rw (kept_next (cut_of c.args.language) c.args.lines.now.text.now l.i h none) at l.invariant.text);
      map = rw pushed (rw (kept_next (cut_of c.args.language) c.args.lines.now.text.now l.i h none) at l.invariant.map);
    }

pub loop-i-preserved-in-Some : goal.loop-i-preserved-in-Some
loop-i-preserved-in-Some g c =
    let l = c.loop-i in
    let h : l.i < length c.args.lines.now.text.now = omega arith in
    let cut : if_any (cut_of c.args.language (drop l.i c.args.lines.now.text.now)) ≡ Some c.in-Some.gone = grind (arith, common_steps) in
    record {
      behind = omega arith;
      within = grind (arith, common_steps);
      text = rw (← kept-jump (cut_of c.args.language) c.args.lines.now.text.now l.i c.in-Some.gone h cut) l.invariant.text;
      map = rw (← kept-jump (cut_of c.args.language) c.args.lines.now.text.now l.i c.in-Some.gone h cut) l.invariant.map;
    }
