-- `rulebook::index::NameIndex::new`: every slot is 0, and there is no order.
use Rattle.std.proofs.Common.{refl}
use Rattle.rulebook.proofs.Indexing.{zero-at}
use Rattle.rulebook.proofs.index.NameIndex.new.Goals as goal

pub returns : goal.returns
returns c = (zero-at 256, refl)
