-- `of` meets its contract: the letters are those of the candidate and of words behind it, and the names are counted in one way or the other.
use Rattle.directive.proofs.Foreseeing.{letters-solid, letters-begin}
use Rattle.directive.proofs.foreseen.Foreseen.of.Goals as goal
use Rattle.directive.proofs.foreseen.Foreseen.of.Goals.{in-Some, in-None}

pub places_of-places-requires-clause-solid : goal.places_of-places-requires-clause-solid
places_of-places-requires-clause-solid c = rw c.as_slice-known.ensures.value (letters-solid c.args.candidate.now _ _ c.without_blanks-letters.ensures c.gather.ensures)

pub returns : goal.returns
returns c =
    let t = c.as_slice-known.ensures.value in
    let r = letters-begin c.args.candidate.now _ _ c.without_blanks-letters.ensures c.gather.ensures in
    record {
      fits = c.as_slice-known.ensures.fits;
      within = rw c.as_slice-reached.ensures.value r.0;
      same = rw c.as_slice-reached.ensures.value r.1;
      counted =
          rw (← t)
          (elim c.match-compacts.branch [ in-Some w ↦ rw w.places-is w.places-places.ensures | in-None w ↦ rw w.places-is w.places_of-places.ensures ]);
    }
