-- The bytes of each language's set begin none of its continuations. Assumes nothing.
use Rattle.std.proofs.Common.{inl, inr}
use Rattle.source.proofs.Staying.{none-c, none-f}
use Rattle.source.proofs.joining.join_into.Goals as goal

pub join_by-requires-clause-set : goal.join_by-requires-clause-set
join_by-requires-clause-set c = rw c.in-C.is none-c

pub join_by-requires-in-FortranFree-clause-set : goal.join_by-requires-in-FortranFree-clause-set
join_by-requires-in-FortranFree-clause-set c = elim c.in-FortranFree.is [ inl e ↦ rw e none-f | inr e ↦ rw e none-f ]
