-- `word_behind` meets its contract: the library's comparison decides, of the text from the place on.
use Rattle.std.proofs.Common.{◌≡◌, true, false, refl, sym, ◌∙◌, drop}
use Rattle.std.proofs.lemmas.List.{take_rest}
use Rattle.ascii.specs.Ascii.{exactly}
use Rattle.ascii.specs.Text.{begins}
use Rattle.lexer.proofs.Laws.{begins-starts}
use Rattle.lexer.proofs.Cursor.word_behind.Goals as goal

pub returns-then-not-starts_with-clause-result_value : goal.returns-then-not-starts_with-clause-result_value
returns-then-not-starts_with-clause-result_value c =
    let e : begins exactly c.args.word.now (drop c.args.self.at c.args.text.now) ≡ false =
    begins-starts c.args.word.now (drop c.args.self.at c.args.text.now) ∙ rw take_rest at (sym c.starts_with.ensures.value ∙ c.if-not-starts_with.true) in
    rw (c.at.ensures, e) refl

pub returns-clause-result_value : goal.returns-clause-result_value
returns-clause-result_value c =
    let e : begins exactly c.args.word.now (drop c.args.self.at c.args.text.now) ≡ true =
    begins-starts c.args.word.now (drop c.args.self.at c.args.text.now) ∙ rw take_rest at (sym c.starts_with.ensures.value ∙ c.if-not-starts_with.false) in
    rw e refl
