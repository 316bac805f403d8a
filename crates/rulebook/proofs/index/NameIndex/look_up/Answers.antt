-- `rulebook::index::NameIndex::look_up`: where no name repeats another, the last entry with a name is the first.
use Rattle.std.proofs.Common.{◌∙◌}
use Rattle.rulebook.proofs.LastNamed.{last-is-first}
use Rattle.rulebook.proofs.index.NameIndex.look_up.Goals as goal

pub returns-then-self : goal.returns-then-self
returns-then-self c = c.sorted_named.ensures ∙ last-is-first _ _ _ c.args.ignore_case c.args.name.now _ c.requires.single

pub returns-else-self : goal.returns-else-self
returns-else-self c = c.last_named.ensures ∙ last-is-first _ _ _ c.args.ignore_case c.args.name.now _ c.requires.single
