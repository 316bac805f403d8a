-- `mark` meets its contract: each byte of the name is the next letter, or a blank, or has no partner.
use Rattle.std.proofs.Common.{◌≡◌, ◌<◌, ◌≤◌, ◌+◌, ℕ, length, get_or, drop, false, sym, ◌∙◌, arith}
use Rattle.ascii.specs.Ascii.{fold}
use lib.Dec.{eqb}
use lib.ListN.{drop_of_length-le}
use Rattle.directive.proofs.Marking.{next, marked-first, marked-run, rest-whole, marked-letter, marked-blank, marked-heads, marked-end, none-heads, none-end}
use Rattle.directive.proofs.foreseen.mark.Goals as goal
use Rattle.directive.proofs.foreseen.mark.Goals.{then-place-letters-via-then-place-letters, then-place-letters-via-else-place-letters+then-not-same_byte}

pub loop-at-init : goal.loop-at-init
loop-at-init c = marked-first c.args.name.now c.args.letters.now c.args.heads.now

pub loop-at-preserved-then-run-ne0 : goal.loop-at-preserved-then-run-ne0
loop-at-preserved-then-run-ne0 c =
    let l = c.loop-at in
    let n = c.args.name.now in
    let t = c.args.letters.now in
    let e = rw (rest-whole n l.at, rest-whole t l.place) at c.run_alike-run.ensures in
    marked-run n t c.args.heads.now l.heads c.requires.solid l.at l.place c.run_alike-run.result c.loop-at-test.true e l.invariant

pub loop-at-preserved-then-is_space : goal.loop-at-preserved-then-is_space
loop-at-preserved-then-is_space c =
    let l = c.loop-at in
    let n = c.args.name.now in
    marked-blank n c.args.letters.now c.args.heads.now l.heads l.place (drop l.at n) l.invariant (get_or n l.at 0) (drop (l.at + 1) n)
    (next n l.at c.loop-at-test.true) (sym c.is_space.ensures ∙ c.if-is_space.true) (omega (arith, c.told-heads, l.invariant.long, l.invariant.within, c.requires.fits))

pub returns-then-place-letters : goal.returns-then-place-letters
returns-then-place-letters c =
    let l = c.loop-at in
    let n = c.args.name.now in
    let t = c.args.letters.now in
    let s = sym c.is_space.ensures ∙ c.if-is_space.false in
    let f : (m : ℕ) → m ≤ length t → l.place < m → eqb (fold (get_or n l.at 0)) (fold (get_or t l.place 0)) ≡ false =
    elim c.then-place-letters.branch [
      | then-place-letters-via-then-place-letters w ↦ λ m a b. let q = w.if-place-letters.true in absurd (omega arith)
      | then-place-letters-via-else-place-letters+then-not-same_byte w ↦ λ m a b. sym w.same_byte.ensures ∙ w.if-not-same_byte.true
    ] in
    record {
      heads = none-heads n t c.args.heads.now l.heads l.place (drop l.at n) l.invariant (get_or n l.at 0) (drop (l.at + 1) n) (next n l.at c.loop-at-test.true) s f;
      end = none-end n t c.args.heads.now l.heads l.place (drop l.at n) l.invariant (get_or n l.at 0) (drop (l.at + 1) n) (next n l.at c.loop-at-test.true) s f;
    }

pub loop-at-preserved : goal.loop-at-preserved
loop-at-preserved c =
    let l = c.loop-at in
    let n = c.args.name.now in
    let q = c.if-place-letters.false in
    marked-letter n c.args.letters.now c.args.heads.now l.heads l.place (drop l.at n) l.invariant (get_or n l.at 0) (drop (l.at + 1) n) (next n l.at c.loop-at-test.true)
    (sym c.is_space.ensures ∙ c.if-is_space.false) (omega (arith, l.invariant.within)) (sym c.same_byte.ensures ∙ c.if-not-same_byte.false)

pub returns : goal.returns
returns c =
    let l = c.loop-at in
    let n = c.args.name.now in
    let e = drop_of_length-le n c.loop-at-test.false in
    record {
      heads = marked-heads n c.args.letters.now c.args.heads.now l.heads l.place (drop l.at n) l.invariant e (omega (arith, c.told-heads, l.invariant.long, l.invariant.within, c.requires.fits));
      end = marked-end n c.args.letters.now c.args.heads.now l.heads l.place (drop l.at n) l.invariant e (omega (arith, c.told-heads, l.invariant.long, l.invariant.within, c.requires.fits));
    }
