-- The bytes that are kept, and what is left without its blanks, are the whole without its blanks.
use Rattle.std.proofs.Common.{◌≡◌, ◌++◌, ◌≤◌, length, take, drop}
use Rattle.directive.specs.Name.{compact}
use Rattle.directive.proofs.candidate.Candidate.without_blanks.Given as goal

abbrev pub invariant-loop-b : goal.invariant-loop-b
invariant-loop-b l = record {
  within : l.len ≤ l.b-index;
  few : length l.b-items ≤ 128;
  long : length l.bytes ≡ 128;
  items : l.b-items ≡ l.self;
  alike : take l.len l.bytes ++ compact (drop l.b-index l.b-items) ≡ compact l.b-items;
}
