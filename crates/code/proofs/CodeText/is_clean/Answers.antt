-- `CodeText::is_clean`: the mark of a place is a bit of its cell.
use Rattle.code.proofs.MarkLaws.{marked-at}
use Rattle.code.proofs.CodeText.is_clean.Goals as goal

pub returns : goal.returns
returns c = marked-at c.args.self.now.style c.args.self.now.text.now c.args.marks.now c.args.at c.requires.1 c.requires.0
