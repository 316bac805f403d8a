-- `of` meets its contract: each name is made from its letters and those of the one before.
use Rattle.std.proofs.Common.{◌≡◌, ◌≤◌, [], ◌∷◌, map, length, get_or, refl, sym, ap, ◌∙◌, arith}
use lib.ListN.{length-set, length-drop}
use Rattle.ascii.specs.Ascii.{fold}
use Rattle.rulebook.specs.Book.{book_of}
use Rattle.directive.specs.Name.{compact}
use Rattle.directive.specs.Compacts.{Agreed}
use Rattle.directive.proofs.Long.{short-book}
use Rattle.directive.proofs.Placing.{few-directives}
use Rattle.directive.proofs.Tallying.{names_of, length-names}
use Rattle.directive.proofs.Compacting.{name-at, name-behind, rest-behind, short-at, sharing, alone-sharing, made-next}
use Rattle.directive.proofs.compacts.CompactNames.of.Goals as goal

pub loop-name-init : goal.loop-name-init
loop-name-init c =
    let es = (book_of c.args.book.now.bytes.now).directives in
    let e : c.into_iter-name-iterator.result ≡ names_of es = cc in
    let n : length c.into_iter-name-iterator.result ≤ 255 = omega (arith, ap length e, length-names es, few-directives c.args.book.now.bytes.now (c.args.book.now.in_range 7)) in
    record {
      few = omega (arith, n);
      long = refl;
      rest = sym e;
      before = c.none-before.ensures;
      each = λ i l. absurd (omega arith);
    }

pub of-next-requires : goal.of-next-requires
of-next-requires c =
    let b = c.args.book.now in
    short-at (book_of b.bytes.now).directives (short-book b.bytes.now b.has_form) c.loop-name.number c.in-Some.name.now c.next.new.self (c.loop-name.invariant.rest ∙ (c.in-Some.ensures).steps)

pub as_slice-requires-in-loop-name : goal.as_slice-requires-in-loop-name
as_slice-requires-in-loop-name c = omega (arith, c.loop-name.invariant.before.fits, c.loop-name.invariant.before.long)

pub offset_bounds-names-number : goal.offset_bounds-names-number
offset_bounds-names-number c = omega (arith, c.loop-name.invariant.few)

pub bounds-names-number : goal.bounds-names-number
bounds-names-number c = omega (arith, c.loop-name.invariant.few, ap length (c.in-Some.ensures).steps)

pub overflow_add-number : goal.overflow_add-number
overflow_add-number c = omega (arith, c.loop-name.invariant.few)

pub loop-name-preserved : goal.loop-name-preserved
loop-name-preserved c =
    let l = c.loop-name in
    let i = l.invariant in
    let ns = names_of (book_of c.args.book.now.bytes.now).directives in
    let name = c.in-Some.name.now in
    let e = i.rest ∙ (c.in-Some.ensures).steps in
    let a = alone-sharing name c.of-next.result c.agreed.result c.of-next.ensures in
    let s : Agreed (map fold (compact name)) (map fold (compact (get_or ([] ∷ ns) l.number []))) c.agreed.result =
    rw (c.as_slice.ensures, c.as_slice-in-loop-name.ensures, c.of-next.ensures.letters, i.before.letters) at c.agreed.ensures (omega arith, omega arith, λ m q. absurd (omega arith)) in
    let n = ap length (c.in-Some.ensures).steps in
    record {
      few = omega (arith, i.few, n);
      long = length-set l.names l.number (sharing c.of-next.result c.agreed.result) ∙ i.long;
      rest = rest-behind ns l.number name c.next.new.self e;
      before = rw (name-behind ns l.number name c.next.new.self e) a;
      each = made-next ns l.names l.number (sharing c.of-next.result c.agreed.result) (omega (arith, i.few, i.long, n))
          (rw (name-at ns l.number name c.next.new.self e) (record { alone = a; shared = s })) i.each;
    }

pub returns : goal.returns
returns c = λ j m.
    let i = c.loop-name.invariant in
    let es = (book_of c.args.book.now.bytes.now).directives in
    let e = ap length (i.rest ∙ (c.in-None.ensures).steps.0) in
    i.each j (omega (arith, e, length-drop c.loop-name.number (names_of es), length-names es))
