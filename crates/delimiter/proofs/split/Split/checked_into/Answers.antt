-- `Split::checked_into` meets its contract: a split that gives items has nothing unclosed, and where one refuses, what is unclosed comes first.
use Rattle.std.proofs.Common.{refl, sym, ◌∙◌}
use Rattle.std.proofs.lemmas.Result.{err_from_is_err_and}
use Rattle.refusal.proofs.Admission.{admits-length}
use Rattle.delimiter.proofs.CleanLaws.{verdict-bad, verdict-open, open-clean, clean-open-fine}
use Rattle.delimiter.proofs.split.Split.checked_into.Goals as goal

pub returns-in_err-check_text-clause-after : goal.returns-in_err-check_text-clause-after
returns-in_err-check_text-clause-after c =
    let p = err_from_is_err_and c.from_residual.result c.from_residual.ensures.1 in
    rw (p.1, p.2, verdict-bad c.args.self.now.style c.args.self.now.text.now _ (sym c.in_err-check_text.ensures)) refl

pub split_into-requires : goal.split_into-requires
split_into-requires c = admits-length _ (sym c.in_ok-check_text.ensures)

pub returns-in-Ok-clause-after : goal.returns-in-Ok-clause-after
returns-in-Ok-clause-after c =
    let s = c.args.self.now in
    let clean = c.in-Ok.ensures.is_clean in
    rw (verdict-open s.style s.text.now (sym c.in_ok-check_text.ensures) ∙ open-clean s.style s.text.now clean) (c.in-Ok.ensures.after clean)

pub returns-in_err-check_closed-in-Err-clause-after : goal.returns-in_err-check_closed-in-Err-clause-after
returns-in_err-check_closed-in-Err-clause-after c =
    let s = c.args.self.now in
    let p = err_from_is_err_and c.from_residual-in_err-check_closed-in-Err.result c.from_residual-in_err-check_closed-in-Err.ensures.1 in
    rw (p.1, p.2, verdict-open s.style s.text.now (sym c.in_ok-check_text.ensures) ∙ sym c.in_err-check_closed-in-Err.ensures) refl

pub returns-in_ok-check_closed-in-Err-clause-after : goal.returns-in_ok-check_closed-in-Err-clause-after
returns-in_ok-check_closed-in-Err-clause-after c =
    let s = c.args.self.now in
    let e = sym c.in_ok-check_closed-in-Err.ensures in
    rw (verdict-open s.style s.text.now (sym c.in_ok-check_text.ensures) ∙ e) (c.in-Err.ensures.after (clean-open-fine s.style s.text.now e))
