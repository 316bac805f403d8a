-- `plain_entry` meets its contract: a name has at most 64 bytes.
use Rattle.std.proofs.Common.{sym}
use Rattle.rulebook.specs.Book.{book_of}
use Rattle.rulebook.specs.Lookup.{comparison}
use Rattle.directive.proofs.Long.{short-book, entry-far}
use Rattle.directive.proofs.outlook.plain_entry.Goals as goal

pub returns-then-candidate-gt-LONGEST : goal.returns-then-candidate-gt-LONGEST
returns-then-candidate-gt-LONGEST c =
    let b = c.args.book.now in
    sym (entry-far (comparison (book_of b.bytes.now)) c.args.candidate.now c.if-candidate-gt-LONGEST.true 0 (book_of b.bytes.now).directives (short-book b.bytes.now b.has_form))
