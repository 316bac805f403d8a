-- `Spot<1>::at_slash`: each way is a law of the marks.
use Rattle.std.proofs.Common.{rules, refl, sym, ◌∙◌}
use borrow.Author.Tests.{eq-eqb}
use Rattle.code.proofs.MarkLaws.{at-slash-star, at-slash-slash, at-slash-else, one-code, two-block, two-line}
use Rattle.code.proofs.marks.Spot+1.at_slash.Goals as goal
use Rattle.code.proofs.marks.Spot+1.at_slash.Goals.{in_default-via-in-47+else-is_c_like, in_default-via-in_default-1}

pub returns-in-42 : goal.returns-in-42
returns-in-42 c =
    let i = c.requires in
    two-block _ _ _ _ c.args.self.now.known ∙ sym (at-slash-star _ _ _ i.0 i.1 (eq-eqb _ _ (sym c.byte_at.ensures ∙ c.in-42.is)))

pub returns-in-47 : goal.returns-in-47
returns-in-47 c =
    let i = c.requires in
    let e = sym c.byte_at.ensures ∙ c.in-47.is in
    two-line _ _ _ _ c.args.self.now.known
    ∙ sym (at-slash-slash _ _ _ i.0 i.1 (rw e refl) (rw (e, sym c.is_c_like.ensures ∙ c.if-is_c_like.true) refl))

pub returns-in_default : goal.returns-in_default
returns-in_default c =
    let i = c.requires in
    let n = c.byte_at.ensures in
    one-code _ _ _ _ c.args.self.now.known
    ∙ sym
    (elim c.in_default.branch [
      | in_default-via-in-47+else-is_c_like w ↦
          at-slash-else _ _ _ i.0 i.1 (rw (sym n ∙ w.in-47.is) refl) (rw (sym w.is_c_like.ensures ∙ w.if-is_c_like.false) refl)
      | in_default-via-in_default-1 w ↦ at-slash-else _ _ _ i.0 i.1 (rw (← n) (search rules)) (rw (← n) (search rules))
    ])
