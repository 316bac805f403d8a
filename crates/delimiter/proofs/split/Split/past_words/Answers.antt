-- `Split::past_words` meets its contract: a byte of a class changes the last solid byte alone, and a literal or comment nothing.
use Rattle.std.proofs.Common.{◌<◌, refl, ap, sym, ◌∙◌, rules, arith}
use Rattle.code.proofs.FaultLaws.{plain_code}
use Rattle.code.proofs.MarkLaws.{clean-code}
use Rattle.delimiter.specs.Split.{split_from}
use Rattle.delimiter.specs.Cutting.{with_previous}
use Rattle.delimiter.proofs.CleanLaws.{clean-here, clean-in, clean-out}
use Rattle.delimiter.proofs.SplitLaws.{quiet-told, no-white, split-quiet, code-onward, end-onward}
use Rattle.delimiter.proofs.split.Split.past_words.Goals as goal

pub loop-i-init : goal.loop-i-init
loop-i-init c = record { lower = omega arith; upper = omega arith; passed = sym (clean-in _ _ _ c.requires); same = λ room st. refl }

pub loop-i-preserved-then-class_of-ne0 : goal.loop-i-preserved-then-class_of-ne0
loop-i-preserved-then-class_of-ne0 c =
    let t = c.loop-i in
    let h = c.loop-i-test.true in
    let q = quiet-told _ (search rules) (λ e. c.if-class_of-ne0.true (c.class_of.ensures ∙ e)) in
    record {
      lower = omega arith;
      upper = omega arith;
      passed = t.invariant.passed ∙ clean-in _ _ _ (omega (arith, h)) ∙ clean-code _ _ _ h (plain_code _ _ _ h q.plain) ∙ sym (clean-in _ _ _ (omega (arith, h)));
      same = λ room st. rw c.solid-last.ensures (t.invariant.same room st ∙ split-quiet _ _ _ _ room (with_previous t.last st) _ h q);
    }

pub returns-then-is_plain-clause-by_index : goal.returns-then-is_plain-clause-by_index
returns-then-is_plain-clause-by_index c = λ room st.
    let s = c.args.self.now in
    let h = c.loop-i-test.true in
    c.loop-i.invariant.same room st
    ∙ ap (split_from s.text.now s.separator s.angles room (with_previous c.loop-i.last st)) (code-onward _ _ _ h (plain_code _ _ _ h (sym c.is_plain.ensures ∙ c.if-is_plain.true)))

pub returns-then-is_plain-clause-clean : goal.returns-then-is_plain-clause-clean
returns-then-is_plain-clause-clean c =
    let h = c.loop-i-test.true in
    c.loop-i.invariant.passed ∙ clean-in _ _ _ (omega (arith, h)) ∙ clean-here _ _ _ h (plain_code _ _ _ h (sym c.is_plain.ensures ∙ c.if-is_plain.true))

pub returns-then-is_plain-clause-no_white : goal.returns-then-is_plain-clause-no_white
returns-then-is_plain-clause-no_white c = λ h. no-white _ (search rules) (sym c.class_of.ensures ∙ c.if-class_of-ne0.false)

pub returns-then-behind-i-clause-by_index : goal.returns-then-behind-i-clause-by_index
returns-then-behind-i-clause-by_index c = λ room st.
    let s = c.args.self.now in
    c.loop-i.invariant.same room st
    ∙ ap (split_from s.text.now s.separator s.angles room (with_previous c.loop-i.last st)) (code-onward _ _ _ c.loop-i-test.true (c.past_piece-behind.ensures.is_code c.if-behind-i.true))

pub returns-then-behind-i-clause-clean : goal.returns-then-behind-i-clause-clean
returns-then-behind-i-clause-clean c =
    let h = c.loop-i-test.true in
    c.loop-i.invariant.passed ∙ clean-in _ _ _ (omega (arith, h)) ∙ clean-here _ _ _ h (c.past_piece-behind.ensures.is_code c.if-behind-i.true)

pub returns-then-behind-i-clause-no_white : goal.returns-then-behind-i-clause-no_white
returns-then-behind-i-clause-no_white c = λ h. no-white _ (search rules) (sym c.class_of.ensures ∙ c.if-class_of-ne0.false)

pub loop-i-preserved : goal.loop-i-preserved
loop-i-preserved c =
    let s = c.args.self.now in
    let t = c.loop-i in
    let h = c.loop-i-test.true in
    let more : t.i < c.past_piece-behind.result = omega (arith, c.past_piece-behind.ensures.lower_bound, c.if-behind-i.false) in
    let p = c.past_piece-behind.ensures.passed more in
    record {
      lower = omega (arith, more);
      upper = c.past_piece-behind.ensures.lower_bound.1;
      passed = t.invariant.passed ∙ clean-in _ _ _ (omega (arith, h)) ∙ p.1;
      same = λ room st. t.invariant.same room st ∙ ap (split_from s.text.now s.separator s.angles room (with_previous t.last st)) p.0;
    }

pub returns-clause-by_index : goal.returns-clause-by_index
returns-clause-by_index c = λ room st.
    let s = c.args.self.now in
    c.loop-i.invariant.same room st
    ∙ ap (split_from s.text.now s.separator s.angles room (with_previous c.loop-i.last st)) (end-onward _ _ _ c.loop-i-test.false)

pub returns-clause-clean : goal.returns-clause-clean
returns-clause-clean c = c.loop-i.invariant.passed ∙ clean-out _ _ _ c.loop-i-test.false
