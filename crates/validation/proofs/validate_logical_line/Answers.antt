-- What the check of a physical line says, said of the fault from there on.
use Rattle.std.proofs.Common.{◌∙◌, sym, refl, arith}
use Rattle.validation.specs.Validation.{fault}
use Rattle.validation.proofs.BlankTail.{blank-from}
use Rattle.validation.proofs.Checking.{fault-end, fault-fine-at, fault-wrong-at, fault-next-at}
use Rattle.validation.proofs.validate_logical_line.Goals as goal

pub invariant_of-whole : goal.invariant_of-whole
invariant_of-whole c = record { tail_found = c.run_start.ensures.value ∙ sym (blank-from c.args.line.now) }

pub loop-at-init : goal.loop-at-init
unfolding fault
loop-at-init c = record { within = omega arith; rest = refl }

pub returns-in-Fine : goal.returns-in-Fine
returns-in-Fine c =
    let d = c.args.dialect in
    sym (fault-fine-at d.language d.prefix c.args.line.now c.loop-at.at c.loop-at-test.true (sym c.check.ensures.value ∙ c.in-Fine.is)) ∙ c.loop-at.invariant.rest

pub returns-in-WrongAt : goal.returns-in-WrongAt
returns-in-WrongAt c =
    let d = c.args.dialect in
    sym (fault-wrong-at d.language d.prefix c.args.line.now c.loop-at.at c.in-WrongAt.place c.loop-at-test.true (sym c.check.ensures.value ∙ c.in-WrongAt.is)) ∙ c.loop-at.invariant.rest

pub loop-at-preserved : goal.loop-at-preserved
loop-at-preserved c =
    let d = c.args.dialect in
    record {
      within = omega (arith, c.in-Next.ensures.onward);
      rest = sym (fault-next-at d.language d.prefix c.args.line.now c.loop-at.at c.in-Next.n c.in-Next.ensures.onward.0 c.loop-at-test.true (sym c.check.ensures.value ∙ c.in-Next.is)) ∙ c.loop-at.invariant.rest;
    }

pub returns : goal.returns
returns c =
    let d = c.args.dialect in
    sym (fault-end d.language d.prefix c.args.line.now c.loop-at.at c.loop-at-test.false) ∙ c.loop-at.invariant.rest
