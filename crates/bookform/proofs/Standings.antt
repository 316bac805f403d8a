-- Laws of entries whose form is right: bytes that may stand in a name one behind the other, a name's bytes followed by the states of Format,
-- and so an entry passed. Assumes nothing.
use mathlib.Core.Path.{◌≡◌, refl, ◌∙◌}
use mathlib.Core.Bool.{Bool, true, false, not, ◌&&◌, ◌||◌}
use mathlib.Core.List.{List}
use Prim.Native.Nat.{ℕ, zero, suc, ◌+◌, ◌-◌, ◌<◌, ◌≤◌}
use native.Mathlib.Nat.{add-zero}
use native.Mathlib.Omega.{arith}
use lib.ListN.{length, drop, get_or}
use lib.Dec.{eqb, ltb}
use borrow.Author.Tests.{ltb-true, ltb-false}
use Rattle.std.specs.Prelude.{Some}
use Rattle.ascii.specs.Ascii.{is_word, is_digit, is_letter}
use Rattle.ascii.proofs.Flags.{by_cases, and_left, and_right}
use Rattle.bookform.specs.declared.EntryKind.TheVariants.{Directive, Clause}
use Rattle.bookform.specs.declared.Expect.{Expect}
use Rattle.bookform.specs.declared.Expect.TheVariants.{DirectiveLength, DirectiveName, Rule, ClauseLength, ClauseName}
use Rattle.bookform.specs.Format.{stepped, rule_for, is_known, clauses_left, directives_left, bad_from}
use Rattle.bookform.specs.Standing.{stands, is_of_name, stands_behind, Standing, Behind, IsName, NameEnds, Passed}
use Rattle.bookform.proofs.Steps.{at_least, bad-later}

-- a byte behind one of a name may stand there, and is of the name then
behind-stands : (between before b : ℕ) → is_of_name between before ≡ true → stands_behind between before b ≡ true → stands between before b ≡ true
behind-stands between before b f h = go (is_word b) (eqb b between) (is_word before) (eqb before between) f h
  where
    go : (w e v q : Bool) → (v || q) ≡ true → (w || e && not q) ≡ true → (w || e && v) ≡ true
    go true e v q f h = refl
    go false true true q f h = refl
    go false true false true f h = h
    go false true false false f h = f
    go false false v q f h = h

stands_of : (between before b : ℕ) → stands between before b ≡ true → is_of_name between b ≡ true
stands_of between before b h = go (is_word b) (eqb b between) (is_word before) h
  where
    go : (w e v : Bool) → (w || e && v) ≡ true → (w || e) ≡ true
    go true e v h = refl
    go false true v h = refl
    go false false v h = h

-- what holds of the places up to one, and of that one
pub one_more : (P : ℕ → Type 0) (from to : ℕ) → ((i : ℕ) → from ≤ i → i < to → P i) → P to → (i : ℕ) → from ≤ i → i < to + 1 → P i
one_more P from to h t i f g =
    by_cases (ltb i to) (λ l. h i f (ltb-true i to l)) (λ l. let e : i ≡ to = omega (arith, ltb-false i to l) in rw e t)

-- bytes of which each may stand behind the one before, where the one before the first is of a name
module _ (between : ℕ) (bs : List ℕ) (from : ℕ) (first : is_of_name between (get_or bs (from - 1) 0) ≡ true) where
  before : (k : ℕ) → Standing between bs from (from + k) → is_of_name between (get_or bs (from + k - 1) 0) ≡ true
  before zero s = rw (add-zero from) first
  before (suc k) s =
      let e : from + suc k - 1 ≡ from + k = omega arith in
      rw e (stands_of between (get_or bs (from + k - 1) 0) (get_or bs (from + k) 0) (s (from + k) (omega arith) (omega arith)))

  run-stands : (k : ℕ) → Behind between bs from (from + k) → Standing between bs from (from + k)
  run-stands zero h = λ i f g. absurd (omega arith)
  run-stands (suc k) h =
      let n : from + k + 1 ≡ from + suc k = omega arith in
      let s = run-stands k (λ i f g. h i f (omega arith)) in
      rw n at (one_more (λ i. stands between (get_or bs (i - 1) 0) (get_or bs i 0) ≡ true) from (from + k) s
      (behind-stands between (get_or bs (from + k - 1) 0) (get_or bs (from + k) 0) (before k s) (h (from + k) (omega arith) (omega arith))))

  all-stand : (to : ℕ) → Behind between bs from to → Standing between bs from to
  all-stand to h i f g = run-stands (to - from) (λ j l m. h j l (omega arith)) i f (omega arith)

-- so those between a first byte of a word and a last one are a name
pub name-stands : (between : ℕ) (bs : List ℕ) (start end : ℕ) → is_word (get_or bs start 0) ≡ true → Behind between bs (start + 1) (end - 1)
    → is_word (get_or bs (end - 1) 0) ≡ true → IsName between start end bs
name-stands between bs start end f h l = record { first = f; inner = inner; last = l }
  where
    inner : Standing between bs (start + 1) end
    inner i g k =
        let p : start + 1 - 1 ≡ start = omega arith in
        by_cases (ltb i (end - 1))
        (λ t. all-stand between bs (start + 1) (rw (p, f)) (end - 1) h i g (ltb-true i (end - 1) t))
        (λ t. let e : i ≡ end - 1 = omega (arith, ltb-false i (end - 1) t) in rw (e, l))

-- bytes from a place on, asked from the one with a number on, counted from 1
module _ (between : ℕ) (bs : List ℕ) (from first : ℕ) (some : 1 ≤ first) where
  abbrev asked : ℕ → ℕ → Bool
  asked number i = ltb number first || stands_behind between (get_or bs (i - 1) 0) (get_or bs i 0)

  abbrev pub run-asked : ℕ → Bool
  run-asked zero = asked 1 from
  run-asked (suc k) = run-asked k && asked (suc (suc k)) (from + suc k)

  asked-here : (number i : ℕ) → first ≤ number → asked number i ≡ true → stands_behind between (get_or bs (i - 1) 0) (get_or bs i 0) ≡ true
  asked-here number i l h = by_cases (ltb number first) (λ t. absurd (omega (arith, ltb-true number first t))) (λ t. rw t at h)

  pub run-behind : (k : ℕ) → run-asked k ≡ true → Behind between bs (from + first - 1) (from + suc k)
  run-behind zero h i f g = let e : i ≡ from = omega arith in rw e (asked-here 1 from (omega arith) h)
  run-behind (suc k) h i f g =
      by_cases (ltb i (from + suc k))
      (λ t. run-behind k (and_left (run-asked k) (asked (suc (suc k)) (from + suc k)) h) i f (ltb-true i (from + suc k) t))
      (λ t.
      let e : i ≡ from + suc k = omega (arith, ltb-false i (from + suc k) t) in
      rw e (asked-here (suc (suc k)) (from + suc k) (omega arith) (and_right (run-asked k) (asked (suc (suc k)) (from + suc k)) h)))

-- a clause's name is one word: what stands between its parts is of the word
word_of : (w : Bool) (b : ℕ) → (is_word b || eqb b 95 && w) ≡ true → is_word b ≡ true
word_of w b h = go (is_digit b || is_letter b) (eqb b 95) w h
  where
    go : (w e f : Bool) → (w || e || e && f) ≡ true → (w || e) ≡ true
    go true e f h = refl
    go false true f h = refl
    go false false f h = h

-- Names of both kinds. A state of its own is waited for at each byte, by how many come after it and whether the one before is of a word.
pub record Reads (between : ℕ) (state : ℕ → Bool → Expect) (behind : Expect) : Type 0 where
  pub goes : (k : ℕ) (w : Bool) (b : ℕ) → (is_word b || eqb b between && w) ≡ true → stepped (state (suc k) w) b ≡ Some (state k (is_word b))
  pub ends : (w : Bool) (b : ℕ) → is_word b ≡ true → stepped (state zero w) b ≡ Some behind

pub directive-reads : (d c : ℕ) → Reads 32 (λ k w. DirectiveName k w d c) (directives_left d c)
directive-reads d c = record { goes = λ k w b t. rw t; ends = λ w b t. rw t }

pub clause-reads : (c : ℕ) → Reads 95 (λ k w. ClauseName k c) (clauses_left c)
clause-reads c = record { goes = λ k w b t. rw (word_of w b t); ends = λ w b t. rw t }

module _ (bs : List ℕ) (between : ℕ) (state : ℕ → Bool → Expect) (behind : Expect) (r : Reads between state behind) where
  -- k bytes of a name behind its first, and its last one, lead to what comes behind it
  passes : (k at to : ℕ) → to ≡ at + k + 1 → to ≤ length bs → Standing between bs at (at + k) → is_word (get_or bs (at + k) 0) ≡ true
      → bad_from (state k (is_word (get_or bs (at - 1) 0))) at (drop at bs) ≡ bad_from behind to (drop to bs)
  passes zero at to e h s l =
      let q : to ≡ at + 1 = omega arith in
      rw q (bad-later bs (state zero (is_word (get_or bs (at - 1) 0))) at behind (omega arith) (r.ends (is_word (get_or bs (at - 1) 0)) (get_or bs at 0) (rw (add-zero at) at l)))
  passes (suc k) at to e h s l =
      let q : at + suc k ≡ at + 1 + k = omega arith in
      let p : at + 1 - 1 ≡ at = omega arith in
      bad-later bs (state (suc k) (is_word (get_or bs (at - 1) 0))) at (state k (is_word (get_or bs at 0))) (omega arith) (r.goes k (is_word (get_or bs (at - 1) 0)) (get_or bs at 0) (s at (omega arith) (omega arith)))
      ∙ rw p at (passes k (at + 1) to (omega arith) h (λ i f g. s i (omega arith) (omega arith)) (rw q at l))

  -- a whole name
  whole : (k at to : ℕ) → to ≡ at + k + 1 → to ≤ length bs → IsName between at to bs → bad_from (state k false) at (drop at bs) ≡ bad_from behind to (drop to bs)
  whole zero at to e h n =
      let q : to ≡ at + 1 = omega arith in
      rw q (bad-later bs (state zero false) at behind (omega arith) (r.ends false (get_or bs at 0) n.first))
  whole (suc k) at to e h n =
      let q : to - 1 ≡ at + 1 + k = omega arith in
      let p : at + 1 - 1 ≡ at = omega arith in
      bad-later bs (state (suc k) false) at (state k (is_word (get_or bs at 0))) (omega arith) (r.goes k false (get_or bs at 0) (rw n.first))
      ∙ rw p at (passes k (at + 1) to (omega arith) h (λ i f g. n.inner i f (omega arith)) (rw q at n.last))

module _ (bs : List ℕ) where
  -- an entry is passed
  pub directive-passed : (at end : ℕ) → NameEnds 32 at end bs → Passed Directive at end bs
  directive-passed at end h =
      let e = h.ends in
      let b = at_least (get_or bs at 0) h.sized in
      let l = h.within in
      record {
        within = l;
        same = λ n c. bad-later bs (DirectiveLength n c) at (DirectiveName (get_or bs at 0 - 1) false n c) (omega arith) (rw h.sized refl)
            ∙ whole bs 32 (λ k w. DirectiveName k w n c) (directives_left n c) (directive-reads n c) (get_or bs at 0 - 1) (at + 1) end (omega arith) l h.name;
      }

  pub clause-passed : (at end : ℕ) → is_known (rule_for (get_or bs at 0)) ≡ true → NameEnds 95 (at + 1) end bs → Passed Clause at end bs
  clause-passed at end k h =
      let e = h.ends in
      let b = at_least (get_or bs (at + 1) 0) h.sized in
      let l = h.within in
      record {
        within = l;
        same = λ n c. bad-later bs (Rule n) at (ClauseLength n) (omega arith) (rw k refl)
            ∙ bad-later bs (ClauseLength n) (at + 1) (ClauseName (get_or bs (at + 1) 0 - 1) n) (omega arith) (rw h.sized refl)
            ∙ whole bs 95 (λ k w. ClauseName k n) (clauses_left n) (clause-reads n) (get_or bs (at + 1) 0 - 1) (at + 1 + 1) end (omega arith) l h.name;
      }
