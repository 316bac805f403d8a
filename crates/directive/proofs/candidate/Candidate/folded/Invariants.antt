-- The bytes that are kept are the letters that are passed, folded.
use Rattle.std.proofs.Common.{◌≡◌, length, map, take}
use Rattle.ascii.specs.Ascii.{fold}
use Rattle.directive.proofs.candidate.Candidate.folded.Given as goal

abbrev pub invariant-loop-i : goal.invariant-loop-i
invariant-loop-i l = record {
  long : length l.bytes ≡ 128;
  alike : take l.i l.bytes ≡ map fold (take l.i l.letters);
}
