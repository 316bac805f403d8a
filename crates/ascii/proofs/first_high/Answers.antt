-- The first byte above 127 is where the run of the others ends, if it ends within the text.
use Rattle.std.proofs.Common.{◌≡◌, arith, zero-add}
use Rattle.ascii.specs.Ascii.{is_low}
use Rattle.ascii.specs.Text.{leading}
use Rattle.ascii.proofs.Texts.{high_some, high_none}
use Rattle.ascii.proofs.first_high.Goals as goal

pub returns-then-low-text : goal.returns-then-low-text
returns-then-low-text c =
    let e : c.long_run_end-low.result ≡ leading is_low c.args.text.now = omega (arith, c.long_run_end-low.ensures.value) in
    rw (high_some 0 c.args.text.now (omega arith), zero-add, e)

pub returns-else-low-text : goal.returns-else-low-text
returns-else-low-text c =
    let e : c.long_run_end-low.result ≡ leading is_low c.args.text.now = omega (arith, c.long_run_end-low.ensures.value) in
    rw (high_none 0 c.args.text.now (omega arith))
