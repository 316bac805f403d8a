-- `entry_of` meets its contract: the name that is found, or else the only one without blanks, as it was foreseen.
use Rattle.std.proofs.Common.{◌≡◌, true, false, ◌∙◌, sym, subst}
use Rattle.std.proofs.lemmas.Bool.{false≢true}
use Rattle.rulebook.specs.Book.{book_of}
use Rattle.rulebook.proofs.Finding.{book-blanks}
use Rattle.directive.specs.Kept.{IfForeseen}
use Rattle.directive.proofs.Tallying.{entry-named, entry-strict, entry-else}
use Rattle.directive.proofs.Foreseeing.{foretold-entry}
use Rattle.directive.proofs.outlook.Outlook.entry_of.Goals as goal
use Rattle.directive.proofs.outlook.Outlook.entry_of.Goals.{then-is_some-via-then-is_some, then-is_some-via-else-is_some+then-not-book, then-is_none, else-is_none}

pub returns-then-is_some-clause-value : goal.returns-then-is_some-clause-value
returns-then-is_some-clause-value c =
    let b = c.args.book.now in
    let found = rw c.as_slice.ensures.value at c.plain_entry-named.ensures in
    elim c.then-is_some.branch [
      | then-is_some-via-then-is_some w ↦ entry-named _ _ _ found (sym c.is_some.ensures ∙ w.if-is_some.true)
      | then-is_some-via-else-is_some+then-not-book w ↦
          entry-strict _ _ _ found (sym c.is_some.ensures ∙ w.if-is_some.false) (book-blanks b.bytes.now b.header b.header_read ∙ w.if-not-book.true)
    ]

pub returns-then-is_some-clause-asked : goal.returns-then-is_some-clause-asked
returns-then-is_some-clause-asked c = λ none optional.
    let b = c.args.book.now in
    elim c.then-is_some.branch [
      | then-is_some-via-then-is_some w ↦
          let z : false ≡ true = rw none at (sym c.is_some.ensures ∙ w.if-is_some.true) in
          absurd (false≢true z)
      | then-is_some-via-else-is_some+then-not-book w ↦ absurd (false≢true (sym (book-blanks b.bytes.now b.header b.header_read ∙ w.if-not-book.true) ∙ optional))
    ]

pub returns-clause-value : goal.returns-clause-value
returns-clause-value c =
    let b = c.args.book.now in
    let book = book_of b.bytes.now in
    let s = c.args.candidate.now in
    let found = rw c.as_slice.ensures.value at c.plain_entry-named.ensures in
    let optional = book-blanks b.bytes.now b.header b.header_read ∙ c.if-not-book.false in
    let known : IfForeseen book s c.if-is_none.self.foreseen =
    elim c.if-is_none.branch [ then-is_none w ↦ rw w.self-is w.of.ensures | else-is_none w ↦ rw w.self-is c.requires.ready.foreseen ] in
    c.entry.ensures ∙ foretold-entry book s c.in_ok-as_ref.field-0.now optional
    (subst (IfForeseen book s) (sym (c.in_ok-as_ref.ensures).value) known)
    ∙ entry-else _ _ _ found (sym c.is_some.ensures ∙ c.if-is_some.false) optional
