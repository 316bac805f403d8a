-- A byte of the set begins no continuation. Assumes nothing.
use Rattle.std.proofs.Common.{◌∙◌, sym, refl}
use Rattle.source.proofs.joining.cut_but.Goals as goal

pub returns-then-has-clause-value : goal.returns-then-has-clause-value
returns-then-has-clause-value g c = rw (c.requires.set.none c.args.lines.now.text.now c.args.at (sym c.has.ensures ∙ c.if-has.true)) refl
