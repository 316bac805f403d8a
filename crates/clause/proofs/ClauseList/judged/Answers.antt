-- `judged` meets its contract: the header's default rule is the book's.
use Rattle.std.proofs.Common.{◌∙◌, ap, true, false}
use Rattle.clause.specs.Sequence.{is_unsupported}
use Rattle.clause.proofs.Reading.{judged-by, supported}
use Rattle.clause.proofs.ClauseList.judged.Goals as goal
use Rattle.clause.proofs.ClauseList.judged.Goals.{in-Unsupported, in_default}

pub returns-then-matches : goal.returns-then-matches
returns-then-matches c =
    let b = c.args.self.now.book.now in
    elim c.match-matches.branch [
      | in-Unsupported w ↦ c.stopped.ensures ∙ judged-by b.bytes.now b.header b.header_read true _ _ (ap is_unsupported w.in-Unsupported.is)
      | in_default w ↦ cc
    ]

pub returns-else-matches : goal.returns-else-matches
returns-else-matches c =
    let b = c.args.self.now.book.now in
    elim c.match-matches.branch [
      | in-Unsupported w ↦ cc
      | in_default w ↦ c.still.ensures ∙ judged-by b.bytes.now b.header b.header_read false _ _ (supported _ w.in_default.not-Unsupported)
    ]
