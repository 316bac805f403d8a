-- `rulebook::DirectiveBook::find_directive`: the index of what is found among the directive entries.
use Rattle.std.proofs.Common.{ap, sym, ◌∙◌}
use Rattle.rulebook.proofs.Finding.{index_of, header-directives, directive-index}
use Rattle.rulebook.proofs.DirectiveBook.find_directive.Goals as goal

pub invariant_of-listed : goal.invariant_of-listed
invariant_of-listed c =
    let b = c.args.self.now in
    record { laid = header-directives _ _ b.has_form b.header_read }

pub returns-in_err-found : goal.returns-in_err-found
returns-in_err-found c =
    let b = c.args.self.now in
    c.from_residual.ensures ∙ sym (directive-index _ _ b.header_read _ ∙ ap index_of (sym c.look_up.ensures ∙ c.in_err-found.was))

pub returns : goal.returns
returns c =
    let b = c.args.self.now in
    sym (directive-index _ _ b.header_read _ ∙ ap index_of (sym c.look_up.ensures ∙ c.in_ok-found.was))
