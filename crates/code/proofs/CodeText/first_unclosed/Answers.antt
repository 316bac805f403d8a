-- `CodeText::first_unclosed`: each kind of piece is a law of the scan.
use Rattle.std.proofs.Common.{sym, ap, ◌∙◌, arith}
use Rattle.code.specs.Code.{Scan}
use Rattle.code.proofs.Laws.{scan-quote, scan-comment, scan-end}
use Rattle.code.proofs.FaultLaws.{fault-code, fault-hidden, plain_code}
use Rattle.code.proofs.CodeText.first_unclosed.Goals as goal

pub loop-i-preserved-then-is_plain : goal.loop-i-preserved-then-is_plain
loop-i-preserved-then-is_plain c =
    let h = c.loop-i-test.true in
    record { upper = omega arith; same = sym (fault-code _ _ _ h (plain_code _ _ _ h (sym c.is_plain.ensures ∙ c.if-is_plain.true))) ∙ c.loop-i.invariant.same }

pub loop-i-preserved-in-Code : goal.loop-i-preserved-in-Code
loop-i-preserved-in-Code c =
    record { upper = omega arith; same = sym (fault-code _ _ _ c.loop-i-test.true (sym c.in-Code.ensures.value)) ∙ c.loop-i.invariant.same }

pub loop-i-preserved : goal.loop-i-preserved
loop-i-preserved c =
    let f = c.in-Hidden.ensures.fits in
    record { upper = f.1; same = sym (fault-hidden _ _ _ _ c.loop-i-test.true (sym c.in-Hidden.ensures.value) f.0) ∙ c.loop-i.invariant.same }

pub returns-in-OpenQuote : goal.returns-in-OpenQuote
returns-in-OpenQuote c = sym (ap (λ (s : Scan). s.fault) (scan-quote _ _ _ c.loop-i-test.true (sym c.in-OpenQuote.ensures.value))) ∙ c.loop-i.invariant.same

pub returns-in-OpenComment : goal.returns-in-OpenComment
returns-in-OpenComment c = sym (ap (λ (s : Scan). s.fault) (scan-comment _ _ _ c.loop-i-test.true (sym c.in-OpenComment.ensures.value))) ∙ c.loop-i.invariant.same

pub returns : goal.returns
returns c = sym (ap (λ (s : Scan). s.fault) (scan-end _ _ _ c.loop-i-test.false)) ∙ c.loop-i.invariant.same
