-- `Split::segment_end` meets its contract: a turn takes one byte of code behind words, and the split of what is left stays the same.
use Rattle.std.proofs.Common.{ℕ, List, sym, ◌∙◌, arith}
use Rattle.ascii.proofs.Flags.{and_right}
use Rattle.delimiter.specs.Split.{Splitting}
use Rattle.delimiter.proofs.SplitLaws.{solid-is, empty-is, split-refused, split-mark, split_goes, split-ends, split-last, split-open, ends-empty}
use Rattle.delimiter.proofs.CleanLaws.{clean-at, clean-last, not-last}
use Rattle.delimiter.proofs.split.Split.segment_end.Goals as goal

-- what the walk has come to, but for the last solid byte
abbrev come : List ℕ → ℕ → ℕ → Splitting
come stack ternary start = record { stack = stack; ternary = ternary; previous = 0; start = start }

pub returns-then-at-text-clause-by_index : goal.returns-then-at-text-clause-by_index
returns-then-at-text-clause-by_index c = λ clean room.
    c.bytes.invariant.same room ∙ c.past_words-at.ensures.by_index room (come c.bytes.«open» c.bytes.ternary c.args.from)
    ∙ split-last _ _ _ _ _ _ _ c.if-text-at.true (sym c.is_empty.ensures ∙ and_right _ _ c.if-at-text.true)

pub returns-then-at-text-clause-passed : goal.returns-then-at-text-clause-passed
returns-then-at-text-clause-passed c = c.bytes.invariant.passed ∙ c.past_words-at.ensures.clean ∙ clean-last _ _ _ _ c.if-at-text.true

pub returns-then-at-text-clause-closed : goal.returns-then-at-text-clause-closed
returns-then-at-text-clause-closed c = empty-is _ (sym c.is_empty.ensures ∙ and_right _ _ c.if-at-text.true)

pub returns-then-text-at-clause-by_index : goal.returns-then-text-at-clause-by_index
returns-then-text-at-clause-by_index c = λ clean room.
    rw c.at.ensures (c.bytes.invariant.same room ∙ c.past_words-at.ensures.by_index room (come c.bytes.«open» c.bytes.ternary c.args.from)
    ∙ split-open _ _ _ _ _ _ _ c.if-text-at.true
    (sym c.is_empty.ensures ∙ not-last _ _ _ _ c.if-text-at.true (sym (c.bytes.invariant.passed ∙ c.past_words-at.ensures.clean) ∙ clean) c.if-at-text.false))

pub returns-in-Err-clause-by_index : goal.returns-in-Err-clause-by_index
returns-in-Err-clause-by_index c = λ clean room.
    rw (c.at-in-Err.ensures, c.reason_of.ensures)
    (c.bytes.invariant.same room ∙ c.past_words-at.ensures.by_index room (come c.bytes.«open» c.bytes.ternary c.args.from)
    ∙ split-refused _ _ _ _ _ _ _ c.if-text-at.false c.in-Err.error _ c.in-Err.ensures)

pub bytes-preserved-in_default : goal.bytes-preserved-in_default
bytes-preserved-in_default c =
    let h = c.if-text-at.false in
    record {
      lower = omega arith;
      upper = omega arith;
      passed = c.bytes.invariant.passed ∙ c.past_words-at.ensures.clean ∙ clean-at _ _ _ (omega (arith, h));
      waits = omega arith;
      same = λ room.
          c.bytes.invariant.same room ∙ c.past_words-at.ensures.by_index room (come c.bytes.«open» c.bytes.ternary c.args.from)
          ∙ split-mark _ _ _ _ _ _ _ h _ _ (solid-is _ _ (c.past_words-at.ensures.no_white h)) (sym c.is_mark.ensures ∙ c.if-is_mark.true) (sym (rw c.in_default.is at c.bracketed.ensures));
    }

pub bytes-preserved : goal.bytes-preserved
bytes-preserved c =
    let h = c.if-text-at.false in
    record {
      lower = omega arith;
      upper = omega arith;
      passed = c.bytes.invariant.passed ∙ c.past_words-at.ensures.clean ∙ clean-at _ _ _ (omega (arith, h));
      waits = omega (arith, c.in-Some.ensures.waits);
      same = λ room.
          c.bytes.invariant.same room ∙ c.past_words-at.ensures.by_index room (come c.bytes.«open» c.bytes.ternary c.args.from)
          ∙ split_goes _ _ _ _ _ _ _ h _ _ (solid-is _ _ (c.past_words-at.ensures.no_white h)) (sym c.is_mark.ensures ∙ c.if-is_mark.false) (sym (rw c.is_empty-else-is_mark.ensures at c.in-Some.ensures.value));
    }

pub returns-in-None-clause-by_index : goal.returns-in-None-clause-by_index
returns-in-None-clause-by_index c = λ clean room.
    c.bytes.invariant.same room ∙ c.past_words-at.ensures.by_index room (come c.bytes.«open» c.bytes.ternary c.args.from)
    ∙ split-ends _ _ _ _ _ _ _ c.if-text-at.false (sym c.is_mark.ensures ∙ c.if-is_mark.false) (sym (rw c.is_empty-else-is_mark.ensures at c.in-None.ensures.value))

pub returns-in-None-clause-passed : goal.returns-in-None-clause-passed
returns-in-None-clause-passed c =
    let h = c.if-text-at.false in
    c.bytes.invariant.passed ∙ c.past_words-at.ensures.clean ∙ clean-at _ _ _ (omega (arith, h))

pub returns-in-None-clause-closed : goal.returns-in-None-clause-closed
returns-in-None-clause-closed c = ends-empty _ _ _ _ _ _ (sym (rw c.is_empty-else-is_mark.ensures at c.in-None.ensures.value))
