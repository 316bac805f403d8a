-- `Spot<8>::octet`: behind the text all flags are those of its end.
use Rattle.std.proofs.Common.{◌≡◌, ◌+◌, refl, ap, ◌∙◌, arith}
use Rattle.code.specs.declared.Near.{Near}
use Rattle.code.specs.Marks.{past_end}
use Rattle.code.proofs.MarkLaws.{near-past, marks-past}
use Rattle.code.proofs.marks.Spot+8.octet.Goals as goal

pub returns-then-text-self : goal.returns-then-text-self
returns-then-text-self c =
    let a = c.args in
    let h = c.if-text-self.true in
    let e : a.self.now.near.one ≡ past_end = ap (λ (n : Near). n.one) (c.args.self.now.known ∙ near-past a.self.now.code.style a.self.now.code.text.now (a.self.now.at + 8) (omega arith)) in
    rw (e, marks-past a.self.now.code.style a.self.now.code.text.now 8 a.self.now.at h, near-past a.self.now.code.style a.self.now.code.text.now a.self.now.at h) refl
