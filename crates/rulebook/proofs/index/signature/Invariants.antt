-- `rulebook::index::signature`: the sums go on over what is left of the name.
use Rattle.std.proofs.Common.{◌≡◌, ◌<◌, drop}
use Rattle.rulebook.specs.Signature.{signature_from}
use Rattle.rulebook.proofs.index.signature.Given as goal

abbrev pub invariant-loop-b : goal.invariant-loop-b
invariant-loop-b l =
    (l.sum < 4096) × (l.sums < 4096) × (signature_from l.sum l.sums (drop l.b-index l.name) ≡ signature_from 0 0 l.name)
