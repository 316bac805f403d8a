-- `read_from` meets its contract: a start that goes on has its book, and of any other nothing is read.
use Rattle.std.proofs.Common.{◌≡◌, Option, None, false, refl, sym, arith, length}
use Rattle.std.proofs.lemmas.Grind.{common_steps}
use Rattle.std.proofs.lemmas.Bool.{false≢true}
use Rattle.std.specs.Option.{IsSome}
use Rattle.clause.specs.declared.Progress.{Progress}
use Rattle.clause.specs.declared.Progress.TheVariants.{Going, Ended, Refused}
use Rattle.clause.specs.Steps.{WhenGoing, is_going}
use Rattle.clause.proofs.Starting.{rests-settled}
use Rattle.clause.proofs.records.read_from.Goals as goal
use Rattle.clause.proofs.records.read_from.Goals.{then-goes_on+in_default, else-goes_on}

without-book : {T : Type 0} (p : Progress) (o : Option T) → WhenGoing p (IsSome o) → o ≡ None → is_going p ≡ false
without-book Going o h e = absurd (false≢true (rw e at h))
without-book Ended o h e = refl
without-book (Refused r) o h e = refl

pub returns : goal.returns
returns c = λ bytes j.
    let rests : is_going c.args.start.progress ≡ false =
    elim c.if-goes_on.branch [
      | then-goes_on+in_default w ↦ without-book c.args.start.progress c.args.book c.requires.checked w.in_default.is
      | else-goes_on w ↦ sym w.if-goes_on.ensures
    ] in
    let zeros = rw c.zero_record.ensures at (c.fill.ensures.after (λ y h. cc)) in
    rests-settled bytes c.args.text.now c.args.start (length c.args.records.now) _ _ rests c.requires.started.none_yet (grind (arith, common_steps)) (grind (arith, common_steps, zeros))
