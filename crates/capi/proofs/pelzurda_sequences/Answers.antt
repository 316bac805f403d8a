-- `pelzurda_sequences` meets its contract: the answers of the texts, and their number.
use Rattle.std.proofs.Common.{refl}
use Rattle.coded.specs.Sequences.{sequence_between}
use Rattle.capi.proofs.pelzurda_sequences.Goals as goal

pub returns : goal.returns
unfolding sequence_between
returns c = rw (c.answer_parts.ensures.count, c.answer_parts.ensures.each) refl
