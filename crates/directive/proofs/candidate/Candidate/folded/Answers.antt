-- `folded` meets its contract: each letter is kept folded.
use Rattle.std.proofs.Common.{refl, ◌∙◌, arith}
use lib.ListN.{length-set}
use Rattle.std.proofs.lemmas.List.{map_more, take_more_set}
use Rattle.ascii.specs.Ascii.{fold}
use Rattle.directive.proofs.candidate.Candidate.folded.Goals as goal

pub loop-i-preserved : goal.loop-i-preserved
loop-i-preserved c =
    let l = c.loop-i in
    let i = l.invariant in
    let xs = c.args.letters.now in
    let x = c.fold.result in
    record {
      long = length-set l.bytes l.i x ∙ i.long;
      alike = rw (take_more_set l.bytes l.i x (omega (arith, i.long, c.requires, c.loop-i-test.true)), map_more fold xs l.i 0 c.loop-i-test.true, i.alike, c.fold.ensures) refl;
    }
