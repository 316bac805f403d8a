-- `bookform::passing::is_name`: its first byte is of a word, so each of those behind it may stand.
use Rattle.std.proofs.Common.{sym, ◌∙◌}
use mathlib.Core.Bool.{true≢false}
use Rattle.bookform.proofs.Standings.{name-stands}
use Rattle.bookform.proofs.passing.is_name.Goals as goal
use Rattle.bookform.proofs.passing.is_name.Goals.{then-is_word, else-is_word}

pub returns-then-all_stand : goal.returns-then-all_stand
returns-then-all_stand g c h = elim c.if-is_word.branch [
  | then-is_word w ↦
      name-stands g.row.BETWEEN c.args.book.now c.args.start c.args.end (sym c.is_word.ensures ∙ w.if-is_word.true)
      (w.all_stand.ensures (sym w.value-is ∙ c.if-all_stand.true)) (sym c.is_word-then-all_stand.ensures ∙ h)
  | else-is_word w ↦ absurd (true≢false (sym c.if-all_stand.true ∙ w.value-is ∙ w.if-is_word.false))
]
