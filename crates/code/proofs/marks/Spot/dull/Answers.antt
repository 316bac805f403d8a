-- `Spot::dull`: dull bytes keep the flags, so all the marks are alike.
use Rattle.std.proofs.Common.{◌≡◌, cond, sym, ap}
use Rattle.code.proofs.DullLaws.{dull-places}
use Rattle.code.proofs.marks.Spot.dull.Goals as goal
use Rattle.code.proofs.marks.Spot.dull.Goals.{then-self, else-self}

pub returns : goal.returns
returns g c =
    let i = c.requires in
    let m = c.args.self.now in
    let e : c.if-self.result ≡ cond m.near.one.code c.args.all 0 =
    elim c.if-self.branch [ then-self w ↦ rw (w.if-self.true) w.result-is | else-self w ↦ rw (w.if-self.false) w.result-is ] in
    rw (e, i.0.1) (sym (dull-places m.code.style m.code.text.now g.row.N m.at m.near.one i.0.0 i.1.0 i.1.1 (ap (λ n. n.one) m.known)))
