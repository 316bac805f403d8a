-- A turn takes sixteen bytes of the run, and eight are taken behind them or not.
use Rattle.std.proofs.Common.{arith}
use Rattle.ascii.proofs.Texts.{past-eight, past-sixteen}
use Rattle.ascii.proofs.long_run_end.Goals as goal
use Rattle.ascii.proofs.long_run_end.Goals.{then-i-text+then-eight-2, else-i-text}

pub loop-i-preserved : goal.loop-i-preserved
loop-i-preserved g c =
    let run = past-sixteen g.S.ByteSet.holds c.args.text.now c.loop-i.i (omega arith) (rw (← c.eight.ensures, ← c.eight-in-loop-i.ensures) c.if-eight.true) in
    record { ordered = omega arith; within = omega arith; run = omega (arith, run) }

pub returns-clause-value : goal.returns-clause-value
returns-clause-value g c =
    elim c.if-i-text.branch [
      | then-i-text+then-eight-2 w ↦
          let run = past-eight g.S.ByteSet.holds c.args.text.now c.loop-i.i (omega arith) (rw (← w.eight-then-i-text.ensures) w.if-eight-2.true) in
          omega (arith, run, rw w.i-is at c.run_end.ensures.value)
      | else-i-text w ↦ omega (arith, rw w.i-is at c.run_end.ensures.value)
    ]
