-- `bookform::passing::entry_end`: a directive's entry is a name with its length, a clause's has a rule before it.
use Rattle.std.proofs.Common.{◌≡◌, get_or, sym, ◌∙◌, rules}
use Rattle.std.proofs.lemmas.Option.{IfSome_then}
use Rattle.bookform.proofs.Standings.{directive-passed, clause-passed}
use Rattle.bookform.proofs.passing.entry_end.Goals as goal

pub returns-in-Directive : goal.returns-in-Directive
returns-in-Directive c = rw c.in-Directive.is (IfSome_then c.name_end.result c.name_end.ensures (λ end h. directive-passed c.args.book.now c.args.at end h))

pub returns-else-not-is_rule : goal.returns-else-not-is_rule
returns-else-not-is_rule c =
    let b : c.in_ok-get-in-Clause.field-0.now ≡ get_or c.args.book.now c.args.at 0 = search rules in
    let k = rw b at (sym c.is_rule.ensures ∙ c.if-not-is_rule.false) in
    rw c.in-Clause.is (IfSome_then c.name_end-in-Clause.result c.name_end-in-Clause.ensures (λ end h. clause-passed c.args.book.now c.args.at end k h))
