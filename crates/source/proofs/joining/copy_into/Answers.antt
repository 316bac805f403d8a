-- A byte that stays is copied with the run behind it; a continuation is passed over.
use Rattle.std.proofs.Common.{◌≡◌, ◌+◌, ◌-◌, ◌∙◌, ◌≤◌, sym, arith, rules, take, drop, length, length-drop}
use Rattle.std.proofs.Math.Seq.{length-take-le}
use Rattle.std.proofs.lemmas.List.{append-nil}
use Rattle.source.specs.Joining.{any_cut, collapsed}
use Rattle.source.specs.Staying.{Stays}
use Rattle.source.proofs.Kept.{kept-jump, kept-end}
use Rattle.source.proofs.Staying.{stays-first, filled}
use Rattle.source.proofs.joining.copy_into.Goals as goal

pub loop-i-preserved : goal.loop-i-preserved
loop-i-preserved c =
    let t = c.args.content.now in
    let i = c.loop-i.i in
    let end = c.plain_end.result in
    let run = take (end - i) (drop i t) in
    let same = c.seek_at.ensures ∙ c.loop-i.invariant.text in
    let none = rw same at (sym c.any_cut_at.ensures.value ∙ c.in-None.is) in
    let s : Stays any_cut t i end = stays-first any_cut t i end c.loop-i-test.true none c.plain_end.ensures in
    let o : i ≤ end = s.ordered in
    let w : end ≤ length t = s.within in
    let n : length run ≡ end - i = length-take-le (end - i) (drop i t) (rw length-drop (omega arith)) in
    let part : c.copy_run.new.slots ≡ run = search rules in
    let m : i + length run ≡ end = omega arith in
    record {
      behind = omega arith;
      within = omega arith;
      copy = rw (part, m) (filled c.loop-i.copy run _ _ _ c.loop-i.k (omega arith) s.bytes c.loop-i.invariant.copy);
      text = same;
    }

pub loop-i-preserved-in-Some : goal.loop-i-preserved-in-Some
loop-i-preserved-in-Some c =
    let same = c.seek_at.ensures ∙ c.loop-i.invariant.text in
    let cut = rw same at (sym c.any_cut_at.ensures.value ∙ c.in-Some.is) in
    let fits = rw same at c.in-Some.ensures.within in
    record {
      behind = omega arith;
      within = omega arith;
      copy = rw (← kept-jump any_cut, c.loop-i-test.true, cut) c.loop-i.invariant.copy;
      text = same;
    }

pub returns-clause-count : goal.returns-clause-count
unfolding collapsed
returns-clause-count c =
    let copy = rw (kept-end any_cut, c.loop-i-test.false, append-nil) at c.loop-i.invariant.copy in
    let a : c.loop-i.k ≤ length c.loop-i.copy = omega arith in
    rw (← copy, length-take-le)

pub returns-clause-copy : goal.returns-clause-copy
unfolding collapsed
returns-clause-copy c = rw (kept-end any_cut, c.loop-i-test.false, append-nil) at c.loop-i.invariant.copy
