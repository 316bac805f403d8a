-- `bits_to` meets its contract: the mask has the bits up to the place.
use Rattle.directive.proofs.Blanks.{bits-up-to}
use Rattle.directive.proofs.compacts.bits_to.Goals as goal

pub returns : goal.returns
returns c = λ n. bits-up-to c.args.blanks c.args.place c.min.result n c.min.ensures
