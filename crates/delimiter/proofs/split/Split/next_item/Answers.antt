-- `Split::next_item` meets its contract: the segment is cut, and then its item.
use Rattle.std.proofs.Common.{◌∙◌, ◌+◌, ◌-◌}
use Rattle.std.proofs.lemmas.Result.{err_from_is_err_and}
use Rattle.delimiter.specs.Split.{separator_byte}
use Rattle.delimiter.specs.Cutting.{remaining}
use Rattle.delimiter.proofs.SplitLaws.{remaining-in}
use Rattle.delimiter.proofs.split.Split.next_item.Goals as goal

pub returns-in_err-end-clause-from_value : goal.returns-in_err-end-clause-from_value
returns-in_err-end-clause-from_value c = λ clean.
    let p = err_from_is_err_and c.from_residual.result c.from_residual.ensures.1 in
    rw (p.1, p.2) (remaining-in _ _ _ _ _ _ _ c.requires.0 ∙ c.in_err-end.ensures.by_index clean c.args.room)

pub returns-in_err-item-clause-from_value : goal.returns-in_err-item-clause-from_value
returns-in_err-item-clause-from_value c = λ clean.
    let s = c.args.self.now in
    let p = err_from_is_err_and c.from_residual-in_err-item.result c.from_residual-in_err-item.ensures.1 in
    rw (p.1, p.2) (remaining-in _ _ _ _ _ _ _ c.requires.0 ∙ c.in_ok-end.ensures.by_index clean c.args.room
    ∙ c.in_err-item.ensures.by_index (remaining s.style s.text.now s.separator s.angles (c.args.room - 1) (separator_byte s.separator) (c.in_ok-end.end + 1)))

pub returns-clause-from_value : goal.returns-clause-from_value
returns-clause-from_value c = λ clean.
    let s = c.args.self.now in
    remaining-in _ _ _ _ _ _ _ c.requires.0 ∙ c.in_ok-end.ensures.by_index clean c.args.room
    ∙ c.in_ok-item.ensures.by_index (remaining s.style s.text.now s.separator s.angles (c.args.room - 1) (separator_byte s.separator) (c.in_ok-end.end + 1))
