-- `mark_bits` meets its contract: a place more is marked, where its bit is 1.
use Rattle.std.proofs.Common.{◌||◌, ◌/◌, ◌%◌, ◌^◌, get_or, false, sym, ◌∙◌, arith}
use mathlib.Core.Bool.{or-false}
use lib.Dec.{eqb}
use lib.ListN.{length-set}
use borrow.Author.Tests.{le-ltb}
use Rattle.directive.proofs.Marking.{marked-or}
use Rattle.directive.proofs.Blanks.{bits-marked, bits-all}
use Rattle.directive.proofs.compacts.mark_bits.Goals as goal

pub loop-place-init : goal.loop-place-init
loop-place-init c = record { long = c.told-heads; marked = λ n. rw (le-ltb n 0 (omega arith)) (sym (or-false (get_or c.args.heads.now n false))) }

pub loop-place-preserved : goal.loop-place-preserved
loop-place-preserved c =
    let l = c.loop-place in
    let i = l.invariant in
    let b = eqb (c.args.bits / 2 ^ l.place % 2) 1 in
    record {
      long = length-set l.heads l.place (get_or l.heads l.place false || b) ∙ i.long;
      marked = λ n.
          marked-or l.heads l.place n b (omega (arith, i.long, c.loop-place-test.true))
          ∙ rw (i.marked n) (bits-marked c.args.bits l.place n (get_or c.args.heads.now n false) c.loop-place-test.true);
    }

pub returns : goal.returns
returns c = λ n. c.loop-place.invariant.marked n ∙ rw (bits-all c.args.bits c.loop-place.place n c.loop-place-test.false)
