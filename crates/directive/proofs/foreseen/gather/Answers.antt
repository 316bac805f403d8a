-- `gather` meets its contract: what is put behind the letters are words.
use Rattle.std.proofs.Common.{◌-◌, sym, ◌∙◌, drop, take}
use Rattle.directive.proofs.Long.{fits-some, compact-word-at}
use Rattle.directive.proofs.Foreseeing.{extended-none, extended-word}
use Rattle.directive.proofs.foreseen.gather.Goals as goal

pub loop-place-init : goal.loop-place-init
loop-place-init c = record { within = c.requires; extended = extended-none c.args.letters.now }

pub loop-place-preserved : goal.loop-place-preserved
loop-place-preserved c =
    let l = c.loop-place in
    let s = c.args.text.now in
    let p = c.in-Ok.place in
    let e = c.run_end-next.result in
    let k = fits-some c.push.new.self _ c.push.result (sym c.is_err.ensures.value ∙ c.if-is_err.false) c.push.ensures.kept in
    record {
      within = c.run_end-next.ensures.lower_bound.1;
      extended = rw k (extended-word c.args.letters.now l.letters (take (e - p) (drop p s)) l.invariant.extended (compact-word-at s p e c.run_end-next.ensures.value));
    }
