-- `Split::split_into` meets its contract: a turn writes one item, and the items that are written with those that remain stay the same.
use Rattle.std.proofs.Common.{◌≡◌, ◌+◌, ◌-◌, ◌/◌, ◌<◌, length, take, sym, ap, ◌∙◌, arith}
use Rattle.code.proofs.MarkLaws.{clean-past}
use Rattle.delimiter.specs.Split.{separator_byte}
use Rattle.delimiter.specs.Cutting.{remaining, laid}
use Rattle.delimiter.proofs.SplitLaws.{remaining-out, laid_none, laid-item, halves}
use Rattle.delimiter.proofs.split.Split.split_into.Goals as goal

pub loop-from-preserved : goal.loop-from-preserved
loop-from-preserved c =
    let s = c.args.self.now in
    let t = c.loop-from in
    let size = length c.args.items.now in
    let lies = c.in_ok-item.ensures.lies in
    let e : size / 2 - (t.k + 1) ≡ size / 2 - t.k - 1 = omega arith in
    let h : t.k + t.k + 1 < length t.items = omega (arith, lies, halves size) in
    record {
      slots = omega (arith, lies);
      upper = omega (arith, lies);
      empty = c.in_ok-item.ensures.closed;
      passed = t.invariant.passed ∙ c.in_ok-item.ensures.passed;
      same = λ clean.
          rw (c.put_item.ensures, c.byte-before.ensures, e)
          (sym (laid-item t.items t.k c.in_ok-item.item
          (remaining s.style s.text.now s.separator s.angles (size / 2 - t.k - 1) (separator_byte s.separator) (c.in_ok-item.end + 1)) h)
          ∙ sym (ap (laid (take (t.k + t.k) t.items)) (c.in_ok-item.ensures.from_value (sym t.invariant.passed ∙ clean))) ∙ t.invariant.same clean);
    }

pub returns-clause-after : goal.returns-clause-after
returns-clause-after c = λ clean.
    let past : length c.args.self.now.text.now < c.loop-from.from = c.loop-from-test.false in
    rw (remaining-out, laid_none) at (c.loop-from.invariant.same clean)

pub returns-clause-is_clean : goal.returns-clause-is_clean
returns-clause-is_clean c =
    let past : length c.args.self.now.text.now < c.loop-from.from = c.loop-from-test.false in
    c.loop-from.invariant.passed ∙ clean-past _ _ _ (omega (arith, past))
