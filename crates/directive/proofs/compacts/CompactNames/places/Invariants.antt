-- The names before the one at hand are counted, and how far the letters agree with the last of them is known.
use Rattle.std.proofs.Common.{◌≡◌, [], ◌∷◌, length, map, drop, get_or}
use Rattle.ascii.specs.Ascii.{fold}
use Rattle.rulebook.specs.Book.{book_of}
use Rattle.directive.specs.Name.{compact}
use Rattle.directive.specs.Compacts.{Agreed}
use Rattle.directive.proofs.Tallying.{names_of}
use Rattle.directive.proofs.Counting.{Counting, marked_too}
use Rattle.directive.proofs.compacts.CompactNames.places.Given as goal

abbrev pub invariant-loop-number : goal.invariant-loop-number
invariant-loop-number l =
    let names = names_of (book_of l.book.bytes.now).directives in
    record {
      room : length l.heads ≡ 129;
      long : length l.ends ≡ 129;
      agreed : Agreed (map fold (compact (get_or ([] ∷ names) l.number []))) l.known l.run;
      counting : Counting l.letters names (drop l.number names) l.number (marked_too l.heads l.blanks) l.ends;
    }
