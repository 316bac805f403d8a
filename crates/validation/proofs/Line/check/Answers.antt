-- The line's end is found first; behind the first line a foreign sentinel is a fault, and else what follows decides.
use Rattle.std.proofs.Common.{ltb}
use borrow.Author.Tests.{lt-ltb, le-ltb}
use Rattle.validation.proofs.Checking.{check-at}
use Rattle.validation.proofs.Line.check.Goals as goal
use Rattle.validation.proofs.Line.check.Goals.{else-at-gt0-via-then-at-gt0+else-foreign, else-at-gt0-via-else-at-gt0}

pub returns-then-foreign-clause-value : goal.returns-then-foreign-clause-value
returns-then-foreign-clause-value c =
    let a = c.args in
    let e = check-at a.self.now.dialect.language a.self.now.dialect.prefix a.self.now.text.now a.at c.long_run_end-end.result (ltb 0 a.at) c.long_run_end-end.ensures.value in
    rw (e, lt-ltb 0 a.at c.if-at-gt0.true, ← c.foreign.ensures, c.if-foreign.true, c.run_end.ensures.value)

pub returns-clause-value : goal.returns-clause-value
returns-clause-value c =
    let a = c.args in
    let e = check-at a.self.now.dialect.language a.self.now.dialect.prefix a.self.now.text.now a.at c.long_run_end-end.result (ltb 0 a.at) c.long_run_end-end.ensures.value in
    elim c.else-at-gt0.branch [
      | else-at-gt0-via-then-at-gt0+else-foreign w ↦ rw (e, lt-ltb 0 a.at w.if-at-gt0.true, ← w.foreign.ensures, w.if-foreign.false, c.check_end.ensures.value)
      | else-at-gt0-via-else-at-gt0 w ↦ rw (e, le-ltb 0 a.at w.if-at-gt0.false, c.check_end.ensures.value)
    ]
