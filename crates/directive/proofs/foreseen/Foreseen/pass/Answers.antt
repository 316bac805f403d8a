-- `pass` meets its contract: the word is the next of the letters.
use Rattle.std.proofs.Common.{sym, ◌∙◌}
use Rattle.directive.proofs.Foreseeing.{foretells-on}
use Rattle.directive.proofs.foreseen.Foreseen.pass.Goals as goal

pub returns : goal.returns
returns c = λ passed book s told.
    let f = c.args.self.now in
    foretells-on book s c.args.word.now f c.requires.solid (rw c.as_slice.ensures.value at (sym c.begins_at.ensures ∙ c.if-not-begins_at.false)) told
