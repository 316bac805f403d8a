-- `Split::turn` meets its contract: each return is a case of `turned`.
use Rattle.std.proofs.Common.{arith, rules}
use borrow.Author.Tests.{ne_eqb}
use Rattle.std.proofs.lemmas.Grind.{common_steps}
use Rattle.delimiter.specs.Split.{turned}
use Rattle.delimiter.proofs.split.Split.turn.Goals as goal

pub returns-then-not-top-clause-value : goal.returns-then-not-top-clause-value
unfolding turned
returns-then-not-top-clause-value c = grind (arith, common_steps)

pub returns-in-Comma-eq44-clause-value : goal.returns-in-Comma-eq44-clause-value
unfolding turned
returns-in-Comma-eq44-clause-value c = search rules

pub returns-in-Colon-eq63-clause-value : goal.returns-in-Colon-eq63-clause-value
unfolding turned
returns-in-Colon-eq63-clause-value c = search rules

pub returns-in-Colon-eq58-clause-value : goal.returns-in-Colon-eq58-clause-value
unfolding turned
returns-in-Colon-eq58-clause-value c = search rules

pub returns-in_default-clause-value : goal.returns-in_default-clause-value
unfolding turned
returns-in_default-clause-value c = rw (c.in_default.is-0, c.if-not-top.false, ne_eqb _ _ c.in_default.is-1.1)

pub returns-in_default-2-clause-value : goal.returns-in_default-2-clause-value
unfolding turned
returns-in_default-2-clause-value c = rw (c.in_default.is-0, c.if-not-top.false, ne_eqb _ _ c.in_default.is-1.0.1, ne_eqb _ _ c.in_default.is-1.1)
