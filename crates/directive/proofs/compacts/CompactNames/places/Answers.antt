-- `places` meets its contract: each name is counted by how far the letters agree with it.
use Rattle.std.proofs.Common.{◌≡◌, ◌<◌, ◌+◌, ℕ, List, [], ◌∷◌, length, map, take, drop, get_or, true, false, refl, ap, ◌∙◌, arith}
use lib.ListN.{replicate, length-set, drop_of_length-le}
use Rattle.std.proofs.lemmas.List.{get_or-replicate}
use Rattle.ascii.specs.Ascii.{fold}
use Rattle.rulebook.specs.Book.{book_of}
use Rattle.rulebook.specs.declared.Header.{Header}
use Rattle.directive.specs.declared.foreseen.Tally.TheVariants.{Zero}
use Rattle.rulebook.specs.declared.DirectiveBook.{DirectiveBook}
use Rattle.directive.specs.declared.compacts.CompactNames.{CompactNames}
use Rattle.directive.specs.Name.{compact}
use Rattle.directive.specs.Compacts.{Agreed, Compacts, no_name}
use Rattle.directive.proofs.Tallying.{names_of, length-names}
use Rattle.directive.proofs.Blanks.{bits-none}
use Rattle.directive.proofs.Counting.{marked_too, counting-none, counting-end, counting-past, counting-all}
use Rattle.directive.proofs.Compacting.{name-behind, fits-here, run-here, left-here, directives-count}
use Rattle.directive.proofs.compacts.CompactNames.places.Goals as goal
use Rattle.directive.proofs.compacts.CompactNames.places.Goals.{then-run-name, else-run-name}

pub loop-number-init : goal.loop-number-init
unfolding compact
loop-number-init c = record {
  room = refl;
  long = refl;
  agreed = ((omega arith, omega arith, λ m l. absurd (omega arith)), λ l m. absurd (omega arith));
  counting =
      counting-none c.args.letters.now (names_of (book_of c.args.book.now.bytes.now).directives) (marked_too (replicate 129 false) 0) (replicate 129 Zero)
      (λ n l. rw (get_or-replicate 129 n false false (omega (arith, c.requires.fits)), bits-none n))
      (λ n l. get_or-replicate 129 n Zero Zero (omega (arith, c.requires.fits)));
}

-- the name at hand is one of the book's, and the letters agree with it so far
module _ (b : DirectiveBook) (cs : CompactNames) (made : Compacts (book_of b.bytes.now) cs) where
  within : {i : ℕ} → i < b.header.directives.count → i < length (book_of b.bytes.now).directives
  within l = omega (arith, l, directives-count b.bytes.now, ap (λ (h : Header). h.directives.count) b.header_read)

  run-is : (i : ℕ) (t : List ℕ) (run result : ℕ) → i < b.header.directives.count
      → ((x : List ℕ) → Agreed (take (get_or cs.names i no_name).len (get_or cs.names i no_name).letters) x (get_or cs.names i no_name).shared → Agreed x t run
      → Agreed (take (get_or cs.names i no_name).len (get_or cs.names i no_name).letters) t result)
      → Agreed (map fold (compact (get_or ([] ∷ names_of (book_of b.bytes.now).directives) i []))) t run
      → Agreed (map fold (compact (get_or (names_of (book_of b.bytes.now).directives) i []))) t result
  run-is i t run result l f g = run-here (book_of b.bytes.now) cs made i (within l) t run result f g

pub run_behind-run-requires : goal.run_behind-run-requires
run_behind-run-requires c =
    let b = c.args.book.now in
    let f = fits-here (book_of b.bytes.now) c.args.self.now c.requires.made c.loop-number.number (within b c.args.self.now c.requires.made c.loop-number-test.true) in
    (f.0, f.1, c.loop-number.invariant.agreed.0.1)

pub bounds-heads-run : goal.bounds-heads-run
bounds-heads-run c = omega (arith, c.as_slice-known.ensures.fits, ap length c.as_slice-known.ensures.value, (run-is c.args.book.now c.args.self.now c.requires.made c.loop-number.number c.as_slice-known.result.now c.loop-number.run c.run_behind-run.result c.loop-number-test.true c.run_behind-run.ensures c.loop-number.invariant.agreed).0.1)

pub offset_bounds-ends-run : goal.offset_bounds-ends-run
offset_bounds-ends-run c = omega (arith, c.as_slice-known.ensures.fits, ap length c.as_slice-known.ensures.value, (run-is c.args.book.now c.args.self.now c.requires.made c.loop-number.number c.as_slice-known.result.now c.loop-number.run c.run_behind-run.result c.loop-number-test.true c.run_behind-run.ensures c.loop-number.invariant.agreed).0.1)

pub bounds-ends-run : goal.bounds-ends-run
bounds-ends-run c = omega (arith, c.as_slice-known.ensures.fits, ap length c.as_slice-known.ensures.value, (run-is c.args.book.now c.args.self.now c.requires.made c.loop-number.number c.as_slice-known.result.now c.loop-number.run c.run_behind-run.result c.loop-number-test.true c.run_behind-run.ensures c.loop-number.invariant.agreed).0.1)

pub offset_bounds-ends-run-then-run-name : goal.offset_bounds-ends-run-then-run-name
offset_bounds-ends-run-then-run-name c = omega (arith, c.as_slice-known.ensures.fits, ap length c.as_slice-known.ensures.value, (run-is c.args.book.now c.args.self.now c.requires.made c.loop-number.number c.as_slice-known.result.now c.loop-number.run c.run_behind-run.result c.loop-number-test.true c.run_behind-run.ensures c.loop-number.invariant.agreed).0.1)

pub bounds-ends-run-then-run-name : goal.bounds-ends-run-then-run-name
bounds-ends-run-then-run-name c = omega (arith, c.as_slice-known.ensures.fits, ap length c.as_slice-known.ensures.value, (run-is c.args.book.now c.args.self.now c.requires.made c.loop-number.number c.as_slice-known.result.now c.loop-number.run c.run_behind-run.result c.loop-number-test.true c.run_behind-run.ensures c.loop-number.invariant.agreed).0.1)

pub loop-number-preserved : goal.loop-number-preserved
loop-number-preserved c =
    let l = c.loop-number in
    let i = l.invariant in
    let t = c.args.letters.now in
    let r = c.run_behind-run.result in
    let book = book_of c.args.book.now.bytes.now in
    let cs = c.args.self.now in
    let ns = names_of book.directives in
    let m = within c.args.book.now cs c.requires.made c.loop-number-test.true in
    let known = c.as_slice-known.result.now in
    let g = run-is c.args.book.now cs c.requires.made l.number known l.run r c.loop-number-test.true c.run_behind-run.ensures i.agreed in
    let folded : Agreed (map fold (compact (get_or ns l.number []))) (map fold t) r = rw (c.as_slice-known.ensures.value, c.folded-folded.ensures) at g in
    let e = left-here book cs c.requires.made l.number m in
    let so = rw e at i.counting in
    let a = (c.requires.made l.number m).alone in
    let next : Agreed (map fold (compact (get_or ([] ∷ ns) (l.number + 1) []))) known r = rw (name-behind ns l.number (get_or ns l.number []) (drop (l.number + 1) ns) e) g in
    let f = c.requires.fits in
    elim c.if-run-name.branch [
      | then-run-name w ↦ record {
        room = rw w.heads-is (length-set l.heads r true ∙ i.room);
        long = rw w.ends-is (length-set l.ends r w.and.result ∙ i.long);
        agreed = next;
        counting = rw (w.heads-is, w.ends-is, w.and.ensures)
            (counting-end t (get_or ns l.number []) ns (drop (l.number + 1) ns) l.number l.heads l.blanks l.ends so _ a r c.bits_to-blanks.result folded c.bits_to-blanks.ensures
            (omega (arith, i.long, f)) (omega (arith, i.room, f)) w.if-run-name.true);
      }
      | else-run-name w ↦ record {
        room = rw w.heads-is i.room;
        long = rw w.ends-is i.long;
        agreed = next;
        counting = rw (w.heads-is, w.ends-is)
            (counting-past t (get_or ns l.number []) ns (drop (l.number + 1) ns) l.number l.heads l.blanks l.ends so _ a r c.bits_to-blanks.result folded c.bits_to-blanks.ensures
            (omega (arith, i.long, f)) (omega (arith, i.room, f)) w.if-run-name.false);
      }
    ]

pub returns : goal.returns
returns c =
    let l = c.loop-number in
    let b = c.args.book.now in
    let ns = names_of (book_of b.bytes.now).directives in
    let e : drop l.number ns ≡ [] = drop_of_length-le ns (omega (arith, c.loop-number-test.false, directives-count b.bytes.now, ap (λ (h : Header). h.directives.count) b.header_read, length-names (book_of b.bytes.now).directives)) in
    counting-all (book_of b.bytes.now) c.args.letters.now l.number (marked_too l.heads l.blanks) c.mark_bits.new.heads l.ends c.mark_bits.ensures (rw e at l.invariant.counting)
