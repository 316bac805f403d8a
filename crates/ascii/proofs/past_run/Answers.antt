-- `past_run` meets its contract: the run, and the byte that ends it where there is one.
use Rattle.ascii.proofs.Texts.{past-more, past-all}
use Rattle.ascii.proofs.past_run.Goals as goal

pub returns-then-end-text-clause-value : goal.returns-then-end-text-clause-value
returns-then-end-text-clause-value g c = past-more g.S.ByteSet.holds c.args.text.now c.args.from c.run_end-end.result c.run_end-end.ensures.value c.if-end-text.true

pub returns-else-end-text-clause-value : goal.returns-else-end-text-clause-value
returns-else-end-text-clause-value g c = past-all g.S.ByteSet.holds c.args.text.now c.args.from c.run_end-end.result c.run_end-end.ensures.value c.if-end-text.false
