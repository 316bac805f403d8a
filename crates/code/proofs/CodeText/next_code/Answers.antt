-- `CodeText::next_code`: each kind of piece is a law of the scan.
use Rattle.std.proofs.Common.{length, sym, ap, ◌∙◌, arith}
use Rattle.code.specs.Code.{Scan}
use Rattle.code.proofs.Laws.{scan-hidden, scan-end, codes-at, codes-none, onward-end}
use Rattle.code.proofs.FaultLaws.{plain_code}
use Rattle.code.proofs.CodeText.next_code.Goals as goal

pub returns-then-is_plain-clause-from_value : goal.returns-then-is_plain-clause-from_value
returns-then-is_plain-clause-from_value c =
    let h = c.loop-i-test.true in
    sym c.loop-i.invariant.same ∙ codes-at _ _ _ h (plain_code _ _ _ h (sym c.is_plain.ensures ∙ c.if-is_plain.true))

pub returns-in-Code-clause-from_value : goal.returns-in-Code-clause-from_value
returns-in-Code-clause-from_value c = sym c.loop-i.invariant.same ∙ codes-at _ _ _ c.loop-i-test.true (sym c.in-Code.ensures.value)

pub loop-i-preserved : goal.loop-i-preserved
loop-i-preserved c =
    let f = c.in-Hidden.ensures.fits in
    let e = scan-hidden _ _ _ _ c.loop-i-test.true (sym c.in-Hidden.ensures.value) f.0 in
    record { lower = omega arith; upper = f.1; same = sym (ap (λ (s : Scan). s.codes) e) ∙ c.loop-i.invariant.same }

pub returns-in-OpenQuote-clause-from_value : goal.returns-in-OpenQuote-clause-from_value
returns-in-OpenQuote-clause-from_value c =
    sym c.loop-i.invariant.same ∙ codes-none _ _ _ _ c.loop-i-test.true (sym c.piece_at.ensures.value) c.in-OpenQuote.is
    ∙ sym (onward-end c.args.self.now.style c.args.self.now.text.now (length c.args.self.now.text.now) (omega arith))

pub returns-clause-from_value : goal.returns-clause-from_value
returns-clause-from_value c =
    let h = c.loop-i-test.false in
    sym c.loop-i.invariant.same ∙ ap (λ (s : Scan). s.codes) (scan-end _ _ _ h) ∙ sym (onward-end _ _ _ h)
