-- A text that is as long as the word is compared byte by byte.
use Rattle.std.proofs.Common.{◌≡◌, ◌∙◌, ◌≤◌, ◌<◌, rules, tests, sym, eqb, drop, length}
use borrow.Author.Tests.{lt-leb}
use Rattle.std.specs.List.{list_all, zip}
use Rattle.std.proofs.lemmas.List.{take_rest}
use Rattle.std.proofs.lemmas.Iterator.{YieldsList-from_slice, YieldsList-from_zip}
use Rattle.std.proofs.lemmas.Iterator.Search.{all_from_yields_List}
use Rattle.ascii.specs.Text.{comparing}
use Rattle.ascii.proofs.Texts.{begins-zip, begins-longer}
use Rattle.ascii.proofs.begins_at.Goals as goal

pub returns-then-word-rest : goal.returns-then-word-rest
returns-then-word-rest c =
    let f = comparing c.args.ignore_case in
    let s = drop c.args.at c.args.text.now in
    let h : length c.args.word.now ≤ length s = rw take_rest at c.if-word-rest.true in
    let rest : c.zip.result.b.rest.now ≡ s = rw take_rest at c.zip.ensures.second.0 in
    let e : c.all.result ≡ list_all (λ p. eqb (f p.0) (f p.1)) (zip c.args.word.now s) =
    all_from_yields_List (λ p. eqb (f p.0) (f p.1)) c.all.new.self _ c.all.result c.all.ensures.ran
    (YieldsList-from_zip (YieldsList-from_slice c.args.word.now cc) (YieldsList-from_slice s rest))
    (λ x b q k. search (rules, tests))
    in
    e ∙ sym (begins-zip f c.args.word.now s h)

pub returns-else-word-rest : goal.returns-else-word-rest
returns-else-word-rest c =
    let s = drop c.args.at c.args.text.now in
    let h : length s < length c.args.word.now = rw take_rest at c.if-word-rest.false in
    lt-leb _ _ c.if-word-rest.false ∙ sym (begins-longer (comparing c.args.ignore_case) c.args.word.now s h)
