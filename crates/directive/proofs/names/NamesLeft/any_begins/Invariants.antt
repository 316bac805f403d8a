-- The names before the one at hand do not begin with the candidate.
use Rattle.std.proofs.Common.{◌≡◌, [], ◌∷◌, ◌++◌, List, ℕ, false, length}
use Rattle.std.specs.List.{list_any}
use Rattle.ascii.specs.Text.{same_by, comparing}
use Rattle.directive.specs.Name.{head_from}
use Rattle.directive.proofs.names.NamesLeft.any_begins.Given as goal

abbrev pub invariant-loop-self : goal.invariant-loop-self
invariant-loop-self l =
    (passed : List (List ℕ)) × (l.fn.self ≡ passed ++ (l.self-inside.name.now ∷ l.self-inside.rest))
    × (list_any (λ n. head_from (same_by (comparing l.ignore_case)) [] n l.candidate) passed ≡ false)

abbrev pub decreases-loop-self : goal.decreases-loop-self
decreases-loop-self l = length l.self-inside.rest
