-- `rulebook::names::Names`: the next name is that of the entry at the place, and the entries behind it are left.
use Rattle.std.proofs.Common.{◌≡◌, ◌+◌, ◌-◌, sym, ◌∙◌, arith, rules}
use Rattle.rulebook.proofs.Laying.{laid-name, laid_next, names_next, names_none}
use Rattle.rulebook.proofs.names.NamesIterator.next.Goals as goal

pub returns-then-self-eq0-clause-steps : goal.returns-then-self-eq0-clause-steps
returns-then-self-eq0-clause-steps c =
    let s = c.self.inside in
    let e = sym c.self.view_is ∙ names_none s.lead s.book.now s.left s.at (omega arith) in
    (e, e)

pub name_at-range-requires : goal.name_at-range-requires
name_at-range-requires c =
    let s = c.self.inside in
    laid-name s.lead s.book.now s.left s.at (omega arith) c.self.invariant

pub slice_bounds-result-end : goal.slice_bounds-result-end
slice_bounds-result-end c =
    let m : c.self.inside.left ≡ c.self.inside.left - 1 + 1 = omega arith in
    let n = laid_next _ _ _ _ _ _ m c.name_at-range.ensures c.self.invariant in
    omega (arith, n.0, n.1)

pub invariant_of-self : goal.invariant_of-self
invariant_of-self c =
    let m : c.self.inside.left ≡ c.self.inside.left - 1 + 1 = omega arith in
    (laid_next _ _ _ _ _ _ m c.name_at-range.ensures c.self.invariant).2

pub returns-clause-steps : goal.returns-clause-steps
returns-clause-steps c =
    let m : c.self.inside.left ≡ c.self.inside.left - 1 + 1 = omega arith in
    sym c.self.view_is ∙ names_next _ _ _ _ _ _ m c.name_at-range.ensures

pub returns-clause-goes : goal.returns-clause-goes
returns-clause-goes c = rw (returns-clause-steps c) (search rules)
