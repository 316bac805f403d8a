-- `of` meets its contract: a letter is kept folded, a blank is marked.
use Rattle.std.proofs.Common.{◌≡◌, ◌++◌, ◌+◌, ◌<◌, [], ◌||◌, ◌&&◌, ℕ, Bool, List, map, take, drop, length, get_or, refl, sym, ap, ◌∙◌, arith, append_assoc, append-nil}
use mathlib.Core.Bool.{or-false}
use lib.Dec.{eqb}
use lib.ListN.{drop_of_length-le, length-set}
use Rattle.std.proofs.lemmas.List.{take_more_set}
use Rattle.ascii.specs.Ascii.{fold}
use Rattle.directive.specs.Name.{compact}
use Rattle.directive.specs.Compacts.{has_bit}
use Rattle.directive.proofs.Marking.{next, or-assoc}
use Rattle.directive.proofs.Blanks.{blank_from, bits-zero, bits-one, compact-blank, compact-letter, from-none, from-blank, from-letter}
use Rattle.directive.proofs.compacts.CompactName.of.Goals as goal

pub loop-x-init : goal.loop-x-init
loop-x-init c = record {
  within = omega arith;
  long = refl;
  alike = refl;
  blanks = λ n. bits-zero c.args.name.now n;
}

pub overflow_shl-blanks : goal.overflow_shl-blanks
overflow_shl-blanks c = omega (arith, c.requires, c.loop-x.invariant.within, c.loop-x-test.true)

pub loop-x-preserved-then-is_space : goal.loop-x-preserved-then-is_space
loop-x-preserved-then-is_space c =
    let l = c.loop-x in
    let i = l.invariant in
    let xs = c.args.name.now in
    let x = get_or xs l.x-index 0 in
    let s = sym c.is_space.ensures ∙ c.if-is_space.true in
    record {
      within = omega (arith, i.within);
      long = i.long;
      alike = ap (λ (r : List ℕ). take l.len l.letters ++ map fold r) (compact-blank xs l.x-index c.loop-x-test.true s) ∙ i.alike;
      blanks = λ n.
          rw (c.from.ensures, bits-one l.blanks (eqb x 32) l.len n (omega (arith, c.requires, i.within, c.loop-x-test.true)))
          (or-assoc (has_bit l.blanks n) (eqb x 32 && eqb n l.len) (blank_from l.len (drop (l.x-index + 1) xs) n)
          ∙ ap (λ (b : Bool). has_bit l.blanks n || b) (sym (rw (next xs l.x-index c.loop-x-test.true) (from-blank l.len n x (drop (l.x-index + 1) xs) s)))
          ∙ i.blanks n);
    }

pub bounds-letters-len : goal.bounds-letters-len
bounds-letters-len c = omega (arith, c.requires, c.loop-x.invariant.within, c.loop-x-test.true)

pub overflow_add-len : goal.overflow_add-len
overflow_add-len c = omega (arith, c.requires, c.loop-x.invariant.within, c.loop-x-test.true)

pub loop-x-preserved : goal.loop-x-preserved
loop-x-preserved c =
    let l = c.loop-x in
    let i = l.invariant in
    let xs = c.args.name.now in
    let x = get_or xs l.x-index 0 in
    let s = sym c.is_space.ensures ∙ c.if-is_space.false in
    let m : l.len < length l.letters = omega (arith, c.requires, i.within, i.long, c.loop-x-test.true) in
    record {
      within = omega (arith, i.within);
      long = length-set l.letters l.len _ ∙ i.long;
      alike =
          rw (take_more_set l.letters l.len _ m, append_assoc, c.fold.ensures)
          (ap (λ (r : List ℕ). take l.len l.letters ++ map fold r) (compact-letter xs l.x-index c.loop-x-test.true s) ∙ i.alike);
      blanks = λ n.
          ap (λ (b : Bool). has_bit l.blanks n || b) (sym (rw (next xs l.x-index c.loop-x-test.true) (from-letter l.len n x (drop (l.x-index + 1) xs) s)))
          ∙ i.blanks n;
    }

pub returns : goal.returns
unfolding compact
returns c =
    let l = c.loop-x in
    let i = l.invariant in
    let e : drop l.x-index c.args.name.now ≡ [] = drop_of_length-le c.args.name.now c.loop-x-test.false in
    record {
      long = i.long;
      fits = omega (arith, c.requires, i.within, l.auto.x-index-end);
      letters = rw (e, append-nil) at i.alike;
      blanks = λ n. rw (e, from-none l.len n, or-false) at (i.blanks n);
    }
