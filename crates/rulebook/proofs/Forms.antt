-- A book whose form is right has its whole header, and its entries lie inside it: each state is followed to the next.
-- Assumes nothing.
use mathlib.Core.Path.{◌≡◌, refl, sym, ◌∙◌}
use mathlib.Core.Bool.{Bool, true, false, ◌&&◌, ◌||◌}
use Rattle.std.specs.Prelude.{Option, Some, None}
use mathlib.Core.List.{List}
use Prim.Native.Nat.{ℕ, zero, suc, ◌+◌, ◌-◌, ◌<◌, ◌≤◌}
use native.Mathlib.Nat.{add-zero}
use native.Mathlib.Omega.{arith}
use lib.ListN.{length, drop, get_or}
use lib.Dec.{eqb, ltb}
use borrow.Author.Tests.{ltb-true, ltb-false}
use Rattle.ascii.specs.Ascii.{is_word}
use Rattle.ascii.proofs.Flags.{by_cases}
use Rattle.bookform.specs.declared.Expect.{Expect}
use Rattle.bookform.specs.declared.Expect.TheVariants.{HeaderByte, ClauseCount, DirectiveLength, DirectiveName, Rule, ClauseLength, ClauseName}
use Rattle.bookform.specs.Format.{rule_for, is_known, is_header, is_length, clauses_left, directives_left, stepped, ended_at, bad_from, HasForm}
use Rattle.rulebook.specs.Book.{name_at, place_after, Laid, LaidIn, directives_of, clauses_of}
use Rattle.rulebook.specs.Check.{or_else, book_fault}
use Rattle.bookform.proofs.Steps.{never, when-next, at_least, bad-here, bad-later, bad-end}

module _ (bs : List ℕ) where
  -- where no fault is ahead and a byte is waited for, it is there and leads on
  record Goes (e : Expect) (at : ℕ) : Type 0 where
    inside : at < length bs
    next : Expect
    leads : stepped e (get_or bs at 0) ≡ Some next
    fine : bad_from next (at + 1) (drop (at + 1) bs) ≡ None

  goes : (e : Expect) (at : ℕ) → ended_at e at ≡ Some at → bad_from e at (drop at bs) ≡ None → Goes e at
  goes e at w h =
      by_cases (ltb at (length bs))
      (λ t. on (ltb-true _ _ t) (stepped e (get_or bs at 0)) refl)
      (λ t. never at (sym w ∙ sym (bad-end bs e at (ltb-false _ _ t)) ∙ h))
    where
      on : at < length bs → (s : Option Expect) → stepped e (get_or bs at 0) ≡ s → Goes e at
      on l (Some n) q = record { inside = l; next = n; leads = q; fine = sym (bad-later bs e at n l q) ∙ h }
      on l None q = never at (sym (bad-here bs e at l q) ∙ h)

  -- names
  name-fits : (n : ℕ) (w : Bool) (d c at to : ℕ) → to ≡ at + n + 1 → bad_from (DirectiveName n w d c) at (drop at bs) ≡ None
      → (to ≤ length bs) × (bad_from (directives_left d c) to (drop to bs) ≡ None)
  name-fits zero w d c at to e h =
      let g = goes (DirectiveName zero w d c) at refl h in
      let q : to ≡ at + 1 = omega arith in
      let k = when-next (is_word (get_or bs at 0)) _ _ g.leads in
      (omega (arith, g.inside), rw (q, ← k.1) g.fine)
  name-fits (suc n) w d c at to e h =
      let g = goes (DirectiveName (suc n) w d c) at refl h in
      let k = when-next (is_word (get_or bs at 0) || eqb (get_or bs at 0) 32 && w) _ _ g.leads in
      name-fits n (is_word (get_or bs at 0)) d c (at + 1) to (omega arith) (rw k.1 at g.fine)

  word_fits : (n c at to : ℕ) → to ≡ at + n + 1 → bad_from (ClauseName n c) at (drop at bs) ≡ None
      → (to ≤ length bs) × (bad_from (clauses_left c) to (drop to bs) ≡ None)
  word_fits zero c at to e h =
      let g = goes (ClauseName zero c) at refl h in
      let q : to ≡ at + 1 = omega arith in
      let k = when-next (is_word (get_or bs at 0)) _ _ g.leads in
      (omega (arith, g.inside), rw (q, ← k.1) g.fine)
  word_fits (suc n) c at to e h =
      let g = goes (ClauseName (suc n) c) at refl h in
      let k = when-next (is_word (get_or bs at 0)) _ _ g.leads in
      word_fits n c (at + 1) to (omega arith) (rw k.1 at g.fine)

  -- entries
  directive-fits : (d c at : ℕ) → bad_from (DirectiveLength d c) at (drop at bs) ≡ None
      → (1 ≤ get_or bs (at + 0) 0) × ((name_at 0 at bs).end ≤ length bs) × (bad_from (directives_left d c) (name_at 0 at bs).end (drop (name_at 0 at bs).end bs) ≡ None)
  directive-fits d c at h =
      let g = goes (DirectiveLength d c) at refl h in
      let k = when-next (is_length (get_or bs at 0)) _ _ g.leads in
      let l = at_least (get_or bs at 0) k.0 in
      let f = name-fits (get_or bs at 0 - 1) false d c (at + 1) (at + 1 + get_or bs at 0) (omega arith) (rw k.1 at g.fine) in
      rw (add-zero at) (l, f.0, f.1)

  clause-fits : (c at : ℕ) → bad_from (Rule c) at (drop at bs) ≡ None
      → (1 ≤ get_or bs (at + 1) 0) × ((name_at 1 at bs).end ≤ length bs) × (bad_from (clauses_left c) (name_at 1 at bs).end (drop (name_at 1 at bs).end bs) ≡ None)
  clause-fits c at h =
      let g = goes (Rule c) at refl h in
      let k = when-next (is_known (rule_for (get_or bs at 0))) _ _ g.leads in
      let g' = goes (ClauseLength c) (at + 1) refl (rw k.1 at g.fine) in
      let k' = when-next (is_length (get_or bs (at + 1) 0)) _ _ g'.leads in
      let l = at_least (get_or bs (at + 1) 0) k'.0 in
      let f = word_fits (get_or bs (at + 1) 0 - 1) c (at + 1 + 1) (name_at 1 at bs).end (omega arith) (rw k'.1 at g'.fine) in
      (l, f.0, f.1)

  laid-clauses : (c at : ℕ) → at ≤ length bs → bad_from (clauses_left c) at (drop at bs) ≡ None → Laid 1 c at bs
  unfolding Laid
  laid-clauses zero at l h = l
  laid-clauses (suc c) at l h =
      let f = clause-fits c at h in
      (f.0, f.1, laid-clauses c (name_at 1 at bs).end f.1 f.2)

  laid-directives : (d c at : ℕ) → at ≤ length bs → bad_from (directives_left d c) at (drop at bs) ≡ None
      → Laid 0 d at bs × Laid 1 c (place_after 0 d at bs) bs
  unfolding Laid place_after
  laid-directives zero c at l h = (l, laid-clauses c at l h)
  laid-directives (suc d) c at l h =
      let f = directive-fits d c at h in
      let g = laid-directives d c (name_at 0 at bs).end f.1 f.2 in
      ((f.0, f.1, g.0), g.1)

  -- the header
  header-on : (i : ℕ) → ltb i 7 ≡ true → bad_from (HeaderByte i) i (drop i bs) ≡ None → bad_from (HeaderByte (i + 1)) (i + 1) (drop (i + 1) bs) ≡ None
  header-on i t h =
      let g = goes (HeaderByte i) i refl h in
      let k = when-next (is_header i (get_or bs i 0)) _ _ g.leads in
      rw (k.1, t) at g.fine

  record Headed : Type 0 where
    inside : 9 ≤ length bs
    fine : bad_from (directives_left (get_or bs 7 0) (get_or bs 8 0)) 9 (drop 9 bs) ≡ None

  headed : HasForm bs → Headed
  headed h =
      let h7 = header-on 6 refl (header-on 5 refl (header-on 4 refl (header-on 3 refl (header-on 2 refl (header-on 1 refl (header-on 0 refl h)))))) in
      let g = goes (HeaderByte 7) 7 refl h7 in
      let k = when-next (is_header 7 (get_or bs 7 0)) _ _ g.leads in
      let g' = goes (ClauseCount (get_or bs 7 0)) 8 refl (rw k.1 at g.fine) in
      let q : g'.next ≡ directives_left (get_or bs 7 0) (get_or bs 8 0) = cc g'.leads in
      record { inside = omega (arith, g'.inside); fine = rw q at g'.fine }

  pub form-long : HasForm bs → 9 ≤ length bs
  form-long h = (headed h).inside

  pub form-directives : HasForm bs → LaidIn (directives_of bs) bs
  form-directives h = let g = headed h in (laid-directives (get_or bs 7 0) (get_or bs 8 0) 9 g.inside g.fine).0

  pub form-clauses : HasForm bs → LaidIn (clauses_of bs) bs
  unfolding clauses_of
  form-clauses h = let g = headed h in (laid-directives (get_or bs 7 0) (get_or bs 8 0) 9 g.inside g.fine).1

  -- a valid book's form is right
  pub valid-form : book_fault bs ≡ None → HasForm bs
  unfolding book_fault
  valid-form h = go (bad_from (HeaderByte 0) 0 bs) _ h
    where
      go : (a b : Option ℕ) → or_else a b ≡ None → a ≡ None
      go None b e = refl
      go (Some p) b e = e
