-- The names before the one at hand are counted.
use Rattle.std.proofs.Common.{◌≡◌, ◌≤◌, ◌+◌, length}
use Rattle.rulebook.specs.Book.{book_of}
use Rattle.directive.proofs.Tallying.{names_of}
use Rattle.directive.proofs.Counting.{Counting, marked}
use Rattle.directive.proofs.foreseen.places_of.Given as goal

abbrev pub invariant-loop-name : goal.invariant-loop-name
invariant-loop-name l = record {
  few : l.number + length l.name-iterator ≤ 255;
  long : length l.ends ≡ 129;
  counting : Counting l.letters (names_of (book_of l.book.bytes.now).directives) l.name-iterator l.number (marked l.heads) l.ends;
}
