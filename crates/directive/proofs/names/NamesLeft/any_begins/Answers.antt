-- `any_begins` meets its contract: a name that the candidate does not begin is passed.
use Rattle.std.proofs.Common.{[], refl, sym, ◌∙◌}
use Rattle.ascii.specs.Text.{same_by, comparing}
use Rattle.directive.specs.Name.{head_from}
use Rattle.directive.proofs.Tallying.{pass-one, sought-here, sought-end}
use Rattle.directive.proofs.names.NamesLeft.any_begins.Goals as goal

pub loop-self-init : goal.loop-self-init
loop-self-init c = ([], sym c.self.view_is, refl)

pub loop-self-preserved : goal.loop-self-preserved
loop-self-preserved c =
    let p = pass-one (λ n. head_from (same_by (comparing c.args.ignore_case)) [] n c.args.candidate.now) _ _ c.loop-self.self-inside.name.now c.loop-self.invariant
    (sym c.has_head.ensures ∙ c.loop-self-test.true) in
    rw (← (c.in-Some.ensures).steps) p

pub returns-in-None : goal.returns-in-None
returns-in-None c =
    sought-end (λ n. head_from (same_by (comparing c.args.ignore_case)) [] n c.args.candidate.now) _ _ _ _ c.loop-self.invariant
    (sym c.has_head.ensures ∙ c.loop-self-test.true)
    (c.in-None.ensures).steps.0 (c.in-None.ensures).steps.1

pub returns : goal.returns
returns c =
    sought-here (λ n. head_from (same_by (comparing c.args.ignore_case)) [] n c.args.candidate.now) _ _ _ c.loop-self.invariant (sym c.has_head.ensures ∙ c.loop-self-test.false)
