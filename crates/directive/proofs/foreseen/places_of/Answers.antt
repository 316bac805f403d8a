-- `places_of` meets its contract: each name is counted.
use Rattle.std.proofs.Common.{◌≡◌, ◌≤◌, length, false, refl, ap, ◌∙◌, arith}
use lib.ListN.{replicate}
use Rattle.std.proofs.lemmas.List.{get_or-replicate}
use Rattle.rulebook.specs.Book.{book_of}
use Rattle.directive.specs.declared.foreseen.Tally.TheVariants.{Zero}
use Rattle.directive.proofs.Tallying.{names_of, length-names}
use Rattle.directive.proofs.Placing.{few-directives}
use Rattle.directive.proofs.Counting.{marked, counted_at, length-counted, counting-none, counting-name, counting-all}
use Rattle.directive.proofs.foreseen.places_of.Goals as goal
use Rattle.directive.proofs.foreseen.places_of.Goals.{in-Some-mark, in_default}

pub loop-name-init : goal.loop-name-init
loop-name-init c =
    let es = (book_of c.args.book.now.bytes.now).directives in
    let e : c.into_iter-name-iterator.result ≡ names_of es = cc in
    let n : length c.into_iter-name-iterator.result ≤ 255 = omega (arith, ap length e, length-names es, few-directives c.args.book.now.bytes.now (c.args.book.now.in_range 7)) in
    record {
      few = omega (arith, n);
      long = refl;
      counting = rw e
          (counting-none c.args.letters.now (names_of es) (marked (replicate 129 false)) (replicate 129 Zero)
          (λ n l. get_or-replicate 129 n false false (omega (arith, c.requires.fits)))
          (λ n l. get_or-replicate 129 n Zero Zero (omega (arith, c.requires.fits))));
    }

pub loop-name-preserved : goal.loop-name-preserved
loop-name-preserved c =
    let l = c.loop-name in
    let i = l.invariant in
    let s = (c.in-Some.ensures).steps in
    let n = ap length s in
    let q : counted_at l.ends l.number c.mark.result ≡ c.match-mark.ends =
    elim c.match-mark.branch [ in-Some-mark w ↦ rw (w.in-Some-mark.is, w.ends-is, w.and.ensures) | in_default w ↦ rw (w.in_default.is, w.ends-is) ] in
    let k = counting-name c.args.letters.now (names_of (book_of c.args.book.now.bytes.now).directives) c.in-Some.name.now c.next.new.self l.number (marked l.heads) l.ends
    (rw s at i.counting) (marked c.mark.new.heads) c.mark.result c.mark.ensures.heads c.mark.ensures.end (omega (arith, i.long, c.requires.fits)) in
    record {
      few = omega (arith, i.few, n);
      long = rw (← q) (length-counted l.ends l.number c.mark.result ∙ i.long);
      counting = rw (← q) k;
    }

pub returns : goal.returns
returns c =
    let l = c.loop-name in
    counting-all (book_of c.args.book.now.bytes.now) c.args.letters.now l.number (marked l.heads) l.heads l.ends (λ n. refl) (rw (c.in-None.ensures).steps.0 at l.invariant.counting)
