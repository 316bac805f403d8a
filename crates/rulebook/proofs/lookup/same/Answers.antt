-- `rulebook::lookup::same`: all pairs of bytes compare equal, asked from the end; or the lengths differ.
use Rattle.std.proofs.Common.{◌≡◌, length, reverse, ◌∙◌, arith, rules, tests, ne_eqb}
use Rattle.std.specs.List.{list_all, zip}
use Rattle.std.proofs.lemmas.Iterator.{YieldsList-from_zip}
use Rattle.std.proofs.lemmas.Iterator.Adapters.{YieldsList-from_rev_slice}
use Rattle.std.proofs.lemmas.Iterator.Search.{all_from_yields_List}
use Rattle.ascii.specs.Text.{comparing}
use Rattle.rulebook.proofs.NameLaws.{same-lengths, pair_same, same-backwards}
use Rattle.rulebook.proofs.lookup.same.Goals as goal

pub returns-then-a-b : goal.returns-then-a-b
returns-then-a-b c =
    let e : c.all.result ≡ list_all (pair_same (comparing c.args.ignore_case)) (zip (reverse c.args.a.now) (reverse c.args.b.now)) =
    all_from_yields_List (pair_same (comparing c.args.ignore_case)) c.all.new.self _ c.all.result c.all.ensures.ran
    (YieldsList-from_zip (YieldsList-from_rev_slice c.args.a.now cc) (YieldsList-from_rev_slice c.args.b.now cc))
    (λ x r q k. search (rules, tests)) in
    e ∙ same-backwards (comparing c.args.ignore_case) c.args.a.now c.args.b.now (omega arith)

pub returns-else-a-b : goal.returns-else-a-b
returns-else-a-b c =
    rw (same-lengths (comparing c.args.ignore_case) c.args.a.now c.args.b.now c.if-a-b.false, ne_eqb (length c.args.a.now) (length c.args.b.now) c.if-a-b.false)
