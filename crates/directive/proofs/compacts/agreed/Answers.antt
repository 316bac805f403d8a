-- `agreed` meets its contract: the bytes that are known, those by eights, those one by one, and one that differs or is none.
use Rattle.std.proofs.Common.{get_or, arith}
use borrow.Author.Tests.{eq-eqb, ne_eqb}
use Rattle.ascii.specs.Ascii.{exactly}
use Rattle.directive.proofs.Marking.{rest-whole}
use Rattle.directive.proofs.Sharing.{alike-more, alike-run}
use lib.ListN.{length-drop}
use Rattle.directive.proofs.compacts.agreed.Goals as goal

pub loop-run-init : goal.loop-run-init
loop-run-init c =
    let a = c.args.a.now in
    let b = c.args.b.now in
    let e = rw (rest-whole a c.args.known, rest-whole b c.args.known) at c.run_alike.ensures in
    record {
      within = omega (arith, c.min-most.ensures, c.requires, e.0, e.1, length-drop c.args.known a, length-drop c.args.known b);
      alike = λ known. alike-run exactly a b c.args.known c.run_alike.result known e;
    }

pub loop-run-preserved : goal.loop-run-preserved
loop-run-preserved c =
    let l = c.loop-run in
    let m = c.min-most.ensures in
    let a = c.args.a.now in
    let b = c.args.b.now in
    record {
      within = omega (arith, c.loop-run-test.true);
      alike = λ known. alike-more exactly a b l.run (l.invariant.alike known) (omega (arith, m, c.loop-run-test.true)) (omega (arith, m, c.loop-run-test.true))
          (eq-eqb (get_or a l.run 0) (get_or b l.run 0) c.if-a-run.true);
    }

pub returns-else-a-run : goal.returns-else-a-run
returns-else-a-run c = λ known. (c.loop-run.invariant.alike known, λ l m. ne_eqb (get_or c.args.a.now c.loop-run.run 0) (get_or c.args.b.now c.loop-run.run 0) c.if-a-run.false)

pub returns-after-loop-run : goal.returns-after-loop-run
returns-after-loop-run c = λ known.
    (c.loop-run.invariant.alike known, λ l m. absurd (omega (arith, c.min-most.ensures, c.loop-run-test.false)))
