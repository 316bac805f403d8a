-- `none` meets its contract: no bit is 1.
use Rattle.std.proofs.Common.{refl, arith}
use Rattle.directive.specs.Name.{compact}
use Rattle.directive.proofs.Compacting.{blanks-none}
use Rattle.directive.proofs.compacts.CompactName.none.Goals as goal

pub returns : goal.returns
unfolding compact
returns c = record { long = refl; fits = omega arith; letters = refl; blanks = blanks-none }
