-- A byte above the blank is of no class of white space, and the blank is of class 1.
use Rattle.std.proofs.Common.{rules, sym}
use borrow.Author.Tests.{le-leb}
use Rattle.ascii.specs.Ascii.{class_of}
use Rattle.ascii.proofs.Classes.{white-none}
use Rattle.ascii.proofs.class.is_white.Goals as goal

pub returns-then-b-gt32 : goal.returns-then-b-gt32
returns-then-b-gt32 g c = sym (white-none g.row.LAST c.args.b (search rules) (search rules) c.requires.1)

pub returns-then-b-eq32 : goal.returns-then-b-eq32
unfolding class_of
returns-then-b-eq32 g c = rw (c.if-b-eq32.true, le-leb 1 g.row.LAST c.requires.0)
