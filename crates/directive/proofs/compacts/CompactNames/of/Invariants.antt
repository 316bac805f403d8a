-- The names before the one at hand are made, and the last of them is the one before it.
use Rattle.std.proofs.Common.{◌≡◌, ◌≤◌, ◌<◌, ◌+◌, ℕ, [], ◌∷◌, length, drop, get_or}
use Rattle.rulebook.specs.Book.{book_of}
use Rattle.directive.specs.Compacts.{Alone, Compacted, no_name}
use Rattle.directive.proofs.Tallying.{names_of}
use Rattle.directive.proofs.compacts.CompactNames.of.Given as goal

abbrev pub invariant-loop-name : goal.invariant-loop-name
invariant-loop-name l =
    let names = names_of (book_of l.book.bytes.now).directives in
    record {
      few : l.number + length l.name-iterator ≤ 255;
      long : length l.names ≡ 255;
      rest : drop l.number names ≡ l.name-iterator;
      before : Alone (get_or ([] ∷ names) l.number []) l.before;
      each : (i : ℕ) → i < l.number → Compacted (get_or ([] ∷ names) i []) (get_or names i []) (get_or l.names i no_name);
    }
