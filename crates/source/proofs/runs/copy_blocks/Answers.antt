-- Behind both kinds of blocks at most sixteen bytes are left, and the last sixteen end the run. Assumes nothing.
use Rattle.std.proofs.Common.{◌≡◌, ◌-◌, ◌++◌, ◌∙◌, arith, rules, [], length, take, drop, drop-drop}
use Rattle.std.proofs.lemmas.List.{append-nil, take_rest}
use lib.ListN.{drop_of_length-le}
use borrow.Rule.Slice.PartMut.{post_of}
use Rattle.source.proofs.Staying.{front-same}
use Rattle.source.proofs.runs.copy_blocks.Goals as goal

pub returns : goal.returns
returns c =
    let run = c.args.run.now in
    let slots = c.copy_by.new.slots in
    let m = length run - 16 in
    let part : c.copy_from_slice.new.self ≡ drop m run = search (rules, take_rest) in
    let none : post_of m (length run - m) slots ≡ [] = drop-drop (length run - m) m slots ∙ drop_of_length-le slots (omega arith) in
    rw (none, append-nil, part) (front-same m c.copy_by.result slots run (omega arith) (omega arith) c.copy_by.ensures.bytes)
