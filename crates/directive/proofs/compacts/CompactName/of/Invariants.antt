-- The letters that are kept, the blanks that are marked, and what is left of the name, tell what the whole name does.
use Rattle.std.proofs.Common.{◌≡◌, ◌||◌, ◌++◌, ◌≤◌, ℕ, length, map, take, drop}
use Rattle.ascii.specs.Ascii.{fold}
use Rattle.directive.specs.Name.{compact}
use Rattle.directive.specs.Compacts.{blank_behind, has_bit}
use Rattle.directive.proofs.Blanks.{blank_from}
use Rattle.directive.proofs.compacts.CompactName.of.Given as goal

abbrev pub invariant-loop-x : goal.invariant-loop-x
invariant-loop-x l = record {
  within : l.len ≤ l.x-index;
  long : length l.letters ≡ 64;
  alike : take l.len l.letters ++ map fold (compact (drop l.x-index l.name)) ≡ map fold (compact l.name);
  blanks : (n : ℕ) → (has_bit l.blanks n || blank_from l.len (drop l.x-index l.name) n) ≡ blank_behind l.name n;
}
