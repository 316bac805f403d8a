-- `rulebook::DirectiveBook::directive_names`: the book's directives are those of its header, which lie inside it.
use Rattle.std.proofs.Common.{map, ap, sym, ◌∙◌}
use Rattle.rulebook.specs.Book.{Entry}
use Rattle.rulebook.proofs.Finding.{header-directives, book-directives}
use Rattle.rulebook.proofs.DirectiveBook.directive_names.Goals as goal

pub invariant_of-listed : goal.invariant_of-listed
invariant_of-listed c =
    let b = c.args.self.now in
    record { laid = header-directives _ _ b.has_form b.header_read }

pub returns : goal.returns
returns c =
    let b = c.args.self.now in
    c.names.ensures ∙ ap (map (λ (e : Entry). e.name)) (sym (book-directives _ _ b.header_read))
