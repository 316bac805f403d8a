-- `rulebook::repeats::enter_all`: a turn has the next name; it repeats an earlier one, or the index tells of one entry more.
use Rattle.std.proofs.Common.{◌≡◌, ℕ, ◌+◌, ◌-◌, length, inl, ap, sym, ◌∙◌, refl, arith}
use Rattle.ascii.specs.Text.{part}
use Rattle.bookform.specs.Format.{lead_of}
use Rattle.rulebook.specs.Book.{name_at, names_from, entries_from, place_after}
use Rattle.rulebook.proofs.Laying.{lead-small, length-names, named-turn, names-end, place-snoc}
use Rattle.rulebook.proofs.Repeating.{repeat-here, repeat-later, repeat-none}
use Rattle.rulebook.proofs.repeats.enter_all.Goals as goal

pub loop-number-init : goal.loop-number-init
unfolding place_after entries_from
loop-number-init g c =
    let e = c.args.listed.entries in
    let bs = c.args.listed.book.now in
    let it = c.into_iter-number-iterator.result in
    let z : it.count ≡ 0 = cc in
    let i : it.iter ≡ names_from (lead_of e.kind) e.count e.first bs = cc in
    let n : e.count - 0 ≡ e.count = omega arith in
    let k : length it.iter ≡ e.count = ap length i ∙ length-names (lead_of e.kind) bs e.count e.first in
    record {
      can_next = (tt, tt, inl (omega (arith, z, k)));
      is_finite = tt;
      within = omega (arith, z);
      laid = rw (z, n) c.args.listed.laid;
      names = rw (z, n) i;
      place = rw z;
      lower_bound = omega arith;
      upper_bound = omega arith;
      indexed = rw z c.requires.empty;
      form = refl;
      repeats = rw (z, n);
    }

pub first-requires : goal.first-requires
first-requires g c =
    let i = c.loop-number.invariant in
    let s = c.in-Some.ensures.steps in
    let t = named-turn _ _ _ _ _ _ _ i.laid i.names s.0 in
    omega (arith, t.more, s.1)

pub enter-requires-clause-next : goal.enter-requires-clause-next
enter-requires-clause-next g c =
    let e = c.args.listed.entries in
    let bs = c.args.listed.book.now in
    let i = c.loop-number.invariant in
    let s = c.in-Some.ensures.steps in
    let t = named-turn _ _ _ _ _ _ _ i.laid i.names s.0 in
    rw (c.first.ensures.entries, c.first.ensures.book, s.1) (record {
      few = omega (arith, t.more, c.requires.few);
      named = t.named ∙ ap (λ (p : ℕ). part bs (name_at (lead_of e.kind) p bs)) i.place;
      is = rw i.place;
    })

pub returns-in-Repeat : goal.returns-in-Repeat
returns-in-Repeat g c =
    let i = c.loop-number.invariant in
    let s = c.in-Some.ensures.steps in
    let t = named-turn _ _ _ _ _ _ _ i.laid i.names s.0 in
    let h = rw (c.first.ensures.entries, c.first.ensures.book, t.named, s.1) at c.in-Repeat.ensures in
    rw c.at.ensures (refl, sym i.repeats ∙ repeat-here _ _ _ _ _ _ t.more refl _ h)

pub overflow_add-at-in-loop-number-2 : goal.overflow_add-at-in-loop-number-2
overflow_add-at-in-loop-number-2 g c =
    let i = c.loop-number.invariant in
    let t = named-turn _ _ _ _ _ _ _ i.laid i.names c.in-Some.ensures.steps.0 in
    omega (arith, c.lead-lead.ensures, t.ends, t.inside)

pub loop-number-preserved : goal.loop-number-preserved
loop-number-preserved g c =
    let e = c.args.listed.entries in
    let bs = c.args.listed.book.now in
    let lead = lead_of e.kind in
    let l = c.loop-number in
    let i = l.invariant in
    let d = l.number-iterator.count in
    let s = c.in-Some.ensures.steps in
    let t = named-turn _ _ _ _ _ _ _ i.laid i.names s.0 in
    let ends : l.at + (c.lead-lead.result + 1 + length c.in-Some.name.now) ≡ (name_at lead l.at bs).end = rw c.lead-lead.ensures t.ends in
    let k : length c.next.new.self.iter ≡ e.count - d - 1 = ap length t.left ∙ length-names lead bs (e.count - d - 1) (name_at lead l.at bs).end in
    let w : e.count - c.next.new.self.count ≡ e.count - d - 1 = omega (arith, s.2) in
    let n = rw (c.first.ensures.entries, c.first.ensures.book, t.named, s.1) at c.in-New.ensures in
    record {
      can_next = (tt, tt, inl (omega (arith, s.2, k, t.more)));
      is_finite = tt;
      within = omega (arith, s.2, t.more);
      laid = rw (w, ends) t.laid;
      names = rw (w, ends) t.left;
      place = ends ∙ ap (λ (p : ℕ). (name_at lead p bs).end) i.place ∙ sym (place-snoc lead bs d e.first) ∙ ap (λ (n : ℕ). place_after lead n e.first bs) (sym s.2);
      lower_bound = omega arith;
      upper_bound = omega (arith, ends, s.2, c.requires.bytes (l.at + lead), c.requires.few, lead-small e.kind);
      indexed = rw s.2 n.1;
      form = n.2 ∙ i.form;
      repeats = rw (w, s.2, ends) (sym (repeat-later _ _ _ _ _ _ t.more refl d e.first i.place n.0) ∙ i.repeats);
    }

pub returns : goal.returns
returns g c =
    let e = c.args.listed.entries in
    let l = c.loop-number in
    let i = l.invariant in
    let n : e.count - l.number-iterator.count ≡ 0 = names-end (lead_of e.kind) c.args.listed.book.now (e.count - l.number-iterator.count) l.at _ i.names c.in-None.ensures.steps.0.0 in
    let d : l.number-iterator.count ≡ e.count = omega (arith, n) in
    (sym i.repeats ∙ repeat-none _ _ _ _ _ n, rw d at i.indexed, rw d at i.place)
