-- `without_blanks` meets its contract: each byte that is no blank is kept.
use Rattle.std.proofs.Common.{◌++◌, ◌<◌, ℕ, List, take, length, get_or, sym, ap, ◌∙◌, arith, append_assoc, append-nil}
use lib.ListN.{drop_of_length-le, length-set}
use Rattle.std.proofs.lemmas.List.{take_more_set}
use Rattle.directive.specs.Name.{compact}
use Rattle.directive.proofs.Blanks.{compact-blank, compact-letter}
use Rattle.directive.proofs.candidate.Candidate.without_blanks.Goals as goal

pub loop-b-preserved-then-is_space : goal.loop-b-preserved-then-is_space
loop-b-preserved-then-is_space c =
    let l = c.loop-b in
    let i = l.invariant in
    let xs = c.as_slice-b-items.result.now in
    record {
      within = omega (arith, i.within);
      few = i.few;
      long = i.long;
      items = i.items;
      alike = ap (λ (r : List ℕ). take l.len l.bytes ++ r) (compact-blank xs l.b-index c.loop-b-test.true (sym c.is_space.ensures ∙ c.if-is_space.true)) ∙ i.alike;
    }

pub loop-b-preserved : goal.loop-b-preserved
loop-b-preserved c =
    let l = c.loop-b in
    let i = l.invariant in
    let xs = c.as_slice-b-items.result.now in
    let m : l.len < length l.bytes = omega (arith, i.within, i.few, i.long, c.loop-b-test.true) in
    record {
      within = omega (arith, i.within);
      few = i.few;
      long = length-set l.bytes l.len (get_or xs l.b-index 0) ∙ i.long;
      items = i.items;
      alike =
          rw (take_more_set l.bytes l.len (get_or xs l.b-index 0) m, append_assoc)
          (ap (λ (r : List ℕ). take l.len l.bytes ++ r) (compact-letter xs l.b-index c.loop-b-test.true (sym c.is_space.ensures ∙ c.if-is_space.false)) ∙ i.alike);
    }

pub returns : goal.returns
unfolding compact
returns c =
    let l = c.loop-b in
    let i = l.invariant in
    let e = rw (drop_of_length-le c.as_slice-b-items.result.now c.loop-b-test.false, append-nil) at i.alike in
    e ∙ ap compact i.items
