-- `split::solid` meets its contract: white space is of the classes 1 to 4.
use Rattle.std.proofs.Common.{◌≡◌, true, false, rules, refl, sym, ◌∙◌}
use Rattle.ascii.specs.Ascii.{is_trimmed}
use Rattle.ascii.proofs.Classes.{told}
use Rattle.delimiter.proofs.split.solid.Goals as goal

pub returns-then-k : goal.returns-then-k
returns-then-k c = let e : is_trimmed c.args.b ≡ true = sym (told 0 c.args.b (search rules)) ∙ (rw c.class_of-k.ensures at c.if-k.true) in rw e refl

pub returns-else-k : goal.returns-else-k
returns-else-k c = let e : is_trimmed c.args.b ≡ false = sym (told 0 c.args.b (search rules)) ∙ (rw c.class_of-k.ensures at c.if-k.false) in rw e refl
