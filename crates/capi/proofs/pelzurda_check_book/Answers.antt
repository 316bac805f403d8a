-- `pelzurda_check_book` meets its contract: the code of the book check's own answer.
use Rattle.std.proofs.Common.{◌≡◌, ℕ, Option, Some, None, refl, ap, ◌∙◌}
use Rattle.refusal.specs.declared.Reason.TheVariants.{WrongBook}
use Rattle.refusal.specs.Answer.{given, unless_fault, told}
use Rattle.refusal.specs.Verdict.{fault_by}
use Rattle.rulebook.specs.Check.{book_fault, book_verdict, book_call}
use Rattle.coded.specs.Coded.{coded_yes}
use Rattle.capi.proofs.pelzurda_check_book.Goals as goal

told-fault : (o : Option ℕ) → told (fault_by WrongBook o) ≡ unless_fault 4 o (given tt)
told-fault None = refl
told-fault (Some p) = refl

pub returns-in-Ok : goal.returns-in-Ok
unfolding book_verdict book_call
returns-in-Ok c = ap coded_yes (ap told c.in-Ok.ensures ∙ told-fault (book_fault c.args.book.now))

pub returns-in-Err : goal.returns-in-Err
unfolding book_verdict book_call
returns-in-Err c = c.code_of.ensures ∙ ap coded_yes (ap told c.in-Err.ensures ∙ told-fault (book_fault c.args.book.now))
