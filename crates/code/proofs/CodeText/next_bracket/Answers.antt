-- `CodeText::next_bracket`: bytes of words and blanks are no brackets by their class, and each kind of piece is a law of the scan.
use Rattle.std.proofs.Common.{length, get_or, refl, sym, ap, ◌∙◌, arith, rules}
use Rattle.std.proofs.lemmas.Bool.{ne_eqb}
use Rattle.code.specs.Code.{Scan}
use Rattle.code.proofs.Laws.{scan-hidden, scan-end, codes-at, codes-none, onward-end}
use Rattle.code.proofs.FaultLaws.{plain_code}
use Rattle.code.proofs.MatchLaws.{class-passed, bracket-plain, match-passed, match-same}
use Rattle.code.proofs.CodeText.next_bracket.Goals as goal

pub loop-i-init : goal.loop-i-init
loop-i-init c = record { lower = omega arith; upper = c.requires; same = λ stack o. refl }

pub loop-i-preserved-then-class_of-ne0 : goal.loop-i-preserved-then-class_of-ne0
loop-i-preserved-then-class_of-ne0 c =
    let h = c.loop-i-test.true in
    let p = class-passed (get_or c.args.self.now.text.now c.loop-i.i 0) (search rules) (ne_eqb _ _ (rw c.class_of.ensures at c.if-class_of-ne0.true)) in
    record {
      lower = omega arith;
      upper = omega arith;
      same = λ stack o. c.loop-i.invariant.same stack o ∙ match-passed _ _ _ stack h (plain_code _ _ _ h p.0) p.1 o;
    }

pub returns-then-is_one-clause-value : goal.returns-then-is_one-clause-value
returns-then-is_one-clause-value c stack o =
    let h = c.loop-i-test.true in
    let p = bracket-plain (get_or c.args.self.now.text.now c.loop-i.i 0) (search rules) (sym c.is_one.ensures ∙ c.if-is_one.true) in
    c.loop-i.invariant.same stack o ∙ match-same stack _ _ (codes-at _ _ _ h (plain_code _ _ _ h p))

pub returns-then-is_one-clause-lower_bound : goal.returns-then-is_one-clause-lower_bound
returns-then-is_one-clause-lower_bound c = (omega arith, omega arith)

pub loop-i-preserved-in-Code : goal.loop-i-preserved-in-Code
loop-i-preserved-in-Code c =
    let h = c.loop-i-test.true in
    let p = sym c.is_one.ensures ∙ c.if-is_one.false in
    record {
      lower = omega arith;
      upper = omega arith;
      same = λ stack o. c.loop-i.invariant.same stack o ∙ match-passed _ _ _ stack h (sym c.in-Code.ensures.value) p o;
    }

pub loop-i-preserved : goal.loop-i-preserved
loop-i-preserved c =
    let f = c.in-Hidden.ensures.fits in
    let e = scan-hidden _ _ _ _ c.loop-i-test.true (sym c.in-Hidden.ensures.value) f.0 in
    record {
      lower = omega arith;
      upper = f.1;
      same = λ stack o. c.loop-i.invariant.same stack o ∙ match-same stack _ _ (ap (λ (s : Scan). s.codes) e);
    }

pub returns-in-OpenQuote-clause-value : goal.returns-in-OpenQuote-clause-value
returns-in-OpenQuote-clause-value c stack o =
    c.loop-i.invariant.same stack o
    ∙ match-same stack _ _ (codes-none _ _ _ _ c.loop-i-test.true (sym c.piece_at.ensures.value) c.in-OpenQuote.is
    ∙ sym (onward-end c.args.self.now.style c.args.self.now.text.now (length c.args.self.now.text.now) (omega arith)))

pub returns-clause-value : goal.returns-clause-value
returns-clause-value c stack o =
    let h = c.loop-i-test.false in
    c.loop-i.invariant.same stack o ∙ match-same stack _ _ (ap (λ (s : Scan). s.codes) (scan-end _ _ _ h) ∙ sym (onward-end _ _ _ h))

pub returns-clause-lower_bound : goal.returns-clause-lower_bound
returns-clause-lower_bound c = (omega arith, omega arith)
