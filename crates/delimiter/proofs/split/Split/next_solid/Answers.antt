-- `Split::next_solid` meets its contract: a turn passes over one byte of white space, and the solid byte that is left to find stays the same.
use Rattle.std.proofs.Common.{sym, ◌∙◌, arith}
use Rattle.delimiter.proofs.SplitLaws.{solid-here, solid-later, solid-none}
use Rattle.delimiter.proofs.split.Split.next_solid.Goals as goal

pub returns-then-not-is_trimmed : goal.returns-then-not-is_trimmed
returns-then-not-is_trimmed c = sym (solid-here _ _ _ c.loop-i-test.true (sym c.is_trimmed.ensures ∙ c.if-not-is_trimmed.true)) ∙ c.loop-i.invariant.1

pub loop-i-preserved : goal.loop-i-preserved
loop-i-preserved c =
    (omega arith, sym (solid-later _ _ _ _ c.loop-i-test.true (sym c.is_trimmed.ensures ∙ c.if-not-is_trimmed.false) c.next_code-i-in-loop-i.ensures.from_value) ∙ c.loop-i.invariant.1)

pub returns : goal.returns
returns c = sym (solid-none _ _ _ c.loop-i-test.false) ∙ c.loop-i.invariant.1
