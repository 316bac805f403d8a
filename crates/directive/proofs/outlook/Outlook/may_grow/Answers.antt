-- `may_grow` meets its contract: the candidate is a name; or else a name that is left begins with it, or it was foreseen to begin one without blanks.
use Rattle.std.proofs.Common.{◌≡◌, ℕ, true, false, refl, sym, ◌∙◌, List, subst}
use Rattle.std.proofs.lemmas.Bool.{false≢true}
use Rattle.std.specs.Prelude.{Option, Some, None, is_some}
use Rattle.rulebook.specs.Book.{Book, book_of}
use Rattle.rulebook.proofs.Finding.{book-case, book-blanks}
use Rattle.directive.specs.Name.{entry_of, may_grow}
use Rattle.directive.specs.Kept.{IfForeseen}
use Rattle.directive.proofs.Growing.{named-grows}
use Rattle.directive.proofs.Tallying.{grow-exact, sought-left, sought-exact}
use Rattle.directive.proofs.Foreseeing.{foretold-grows}
use Rattle.directive.proofs.outlook.Outlook.may_grow.Goals as goal

some-grows : (book : Book) (c : List ℕ) (o : Option ℕ) → o ≡ entry_of book c → is_some o ≡ true → may_grow book c ≡ true
some-grows book c (Some i) e h = named-grows book c i (sym e)
some-grows book c None e h = cc

no-entry : (o : Option ℕ) → is_some o ≡ false → o ≡ None
no-entry None h = refl
no-entry (Some i) h = cc

pub returns-then-is_some-clause-value_2 : goal.returns-then-is_some-clause-value_2
returns-then-is_some-clause-value_2 c = sym (some-grows _ _ _ c.requires.value (sym c.is_some.ensures ∙ c.if-is_some.true))

pub returns-then-not-book : goal.returns-then-not-book
returns-then-not-book c =
    let b = c.args.book.now in
    let book = book_of b.bytes.now in
    let s = c.args.candidate.now in
    let case = book-case b.bytes.now b.header b.header_read in
    let o = book-blanks b.bytes.now b.header b.header_read ∙ c.if-not-book.true in
    record {
      value_2 = sought-exact book s b.header.ignores_case case c.requires.not_empty c.requires.ready.left c.any_begins.ensures ∙ sym (grow-exact book s b.header.ignores_case case o);
      ready_2 = record {
        left = sought-left book s b.header.ignores_case case c.requires.not_empty c.requires.ready.left c.any_begins.ensures;
        foreseen = c.requires.ready.foreseen;
      };
    }

pub returns-in-Some-clause-value_2 : goal.returns-in-Some-clause-value_2
returns-in-Some-clause-value_2 c =
    let b = c.args.book.now in
    let book = book_of b.bytes.now in
    c.is_head.ensures
    ∙ foretold-grows book c.args.candidate.now c.in-Some.foreseen (book-blanks b.bytes.now b.header b.header_read ∙ c.if-not-book.false)
    (subst (IfForeseen book c.args.candidate.now) c.in-Some.is c.requires.ready.foreseen)

pub returns-in-None-clause-value_2 : goal.returns-in-None-clause-value_2
returns-in-None-clause-value_2 c =
    let b = c.args.book.now in
    let a = c.requires.asked (no-entry c.args.entry (sym c.is_some.ensures ∙ c.if-is_some.false)) (book-blanks b.bytes.now b.header b.header_read ∙ c.if-not-book.false) in
    let z : false ≡ true = rw c.in-None.is at a in
    absurd (false≢true z)
