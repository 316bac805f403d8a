-- `split_top_level` meets its contract: the checks in order, then the items, and zeros in all other slots.
use Rattle.std.proofs.Common.{◌≡◌, ◌/◌, [], length, rules, arith}
use Rattle.std.proofs.lemmas.Grind.{common_steps}
use Rattle.refusal.specs.Verdict.{or_refused}
use Rattle.delimiter.specs.Split.{split_style}
use Rattle.delimiter.specs.Cutting.{split_verdict, remaining, laid, in_slots}
use Rattle.delimiter.proofs.CallLaws.{written-twice, call-told}
use Rattle.delimiter.proofs.split_top_level.Goals as goal

pub returns : goal.returns
returns c =
    let a = c.args in
    let i = c.checked_into-answer in
    let ys = i.new.items in
    let n = written-twice i.result _ c.unwrap_or-count.ensures in
    let size : length ys ≡ length a.items.now = search rules in
    let style = split_style a.language in
    let after : in_slots i.result ys ≡ laid [] (or_refused (split_verdict style a.text.now) (remaining style a.text.now a.separator a.angles (length a.items.now / 2) 0 0))
    = rw c.style_of.ensures at i.ensures.after in
    call-told a.text.now a.language a.separator a.angles i.result a.items.now ys _ size i.ensures.result_in_bounds after (rw n (grind (arith, common_steps)))
