-- `Split::past_piece` meets its contract: behind a literal or comment the scan is the same, and past the end it has no byte of code.
use Rattle.std.proofs.Common.{Some, None, sym}
use Rattle.delimiter.proofs.CleanLaws.{over, past-open, quote-passed}
use Rattle.delimiter.proofs.split.Split.past_piece.Goals as goal

pub returns-in-Some-clause-passed : goal.returns-in-Some-clause-passed
returns-in-Some-clause-passed c = λ h. quote-passed c.args.self.now.style _ _ c.requires c.if-text-at.true (Some c.in-Some.end) c.in-Some.ensures.result_value c.in-Some.ensures.ends

pub returns-in-None-clause-passed : goal.returns-in-None-clause-passed
returns-in-None-clause-passed c = λ h. quote-passed c.args.self.now.style _ _ c.requires c.if-text-at.true None c.in-None.ensures.result_value c.in-None.ensures.ends

pub returns-in-Hidden-clause-passed : goal.returns-in-Hidden-clause-passed
returns-in-Hidden-clause-passed c = λ h.
    let f = c.in-Hidden.ensures.fits in
    over _ _ _ _ c.requires (sym c.in-Hidden.ensures.value) f.0 f.1

pub returns-in-OpenQuote-clause-passed : goal.returns-in-OpenQuote-clause-passed
returns-in-OpenQuote-clause-passed c = λ h. past-open _ _ _ _ c.requires (sym c.piece_at.ensures.value) c.in-OpenQuote.is
