-- `pass` meets its contract: the names that are passed stay so, and what was foreseen goes on or is given up.
use Rattle.std.proofs.Common.{sym, subst}
use Rattle.std.specs.Prelude.{Some, None}
use Rattle.directive.specs.Name.{extended}
use Rattle.directive.specs.Kept.{Within, IfForeseen}
use Rattle.directive.proofs.Foreseeing.{ready-word}
use Rattle.directive.proofs.outlook.Outlook.pass.Goals as goal

pub pass-requires-clause-within : goal.pass-requires-clause-within
pass-requires-clause-within c = subst Within c.in-Some.is c.requires.within

pub returns-then-not-pass : goal.returns-then-not-pass
returns-then-not-pass c = λ book s ready. ready-word book s c.args.word.now c.args.self.now None c.requires.some ready tt

pub returns-else-not-pass : goal.returns-else-not-pass
returns-else-not-pass c = λ book s ready.
    ready-word book s c.args.word.now c.args.self.now (Some c.pass.new.self) c.requires.some ready (c.pass.ensures c.if-not-pass.false book s (subst (IfForeseen book s) c.in-Some.is ready.foreseen))

pub returns-in_default : goal.returns-in_default
returns-in_default c = λ book s ready. ready-word book s c.args.word.now c.args.self.now c.args.self.now.foreseen c.requires.some ready
    (subst (IfForeseen book (extended s c.args.word.now)) (sym c.in_default.is) tt)
