-- A turn takes thirty-two bytes of the run, by four eights.
use Rattle.std.proofs.Common.{arith}
use Rattle.ascii.specs.Ascii.{is_low}
use Rattle.ascii.proofs.Texts.{past-many}
use Rattle.ascii.proofs.low_run.Goals as goal

pub loop-i-preserved : goal.loop-i-preserved
loop-i-preserved c =
    let run = past-many is_low c.args.text.now c.loop-i.i (omega arith)
    (rw (← c.eight.ensures, ← c.eight-in-loop-i.ensures, ← c.eight-in-loop-i-2.ensures, ← c.eight-in-loop-i-3.ensures) c.if-not-all.false) in
    record { within = omega arith; run = omega (arith, run) }
