-- The first bad byte that the definition finds is the first with which no book begins: every state can still be brought to an end.
-- Assumes nothing.
use mathlib.Core.Path.{◌≡◌, refl, sym, ◌∙◌}
use mathlib.Core.Bool.{Bool, true}
use Rattle.std.specs.Prelude.{Option, Some, None}
use mathlib.Core.List.{List, [], ◌∷◌, ◌++◌}
use Prim.Native.Nat.{ℕ, zero, suc, ◌+◌, ◌<◌, ◌≤◌}
use native.Mathlib.Nat.{zero-add}
use native.Mathlib.Numerals.{add-one}
use native.Mathlib.Omega.{arith}
use lib.ListN.{length, take, get_or}
use borrow.Author.Tests.{le-ltb, ne_eqb, ltb-true, ltb-false}
use lib.Dec.{ltb}
use Rattle.ascii.proofs.Flags.{by_cases}
use Rattle.bookform.specs.declared.Expect.{Expect}
use Rattle.bookform.specs.declared.Expect.TheVariants.{HeaderByte, ClauseCount, DirectiveLength, DirectiveName, Rule, ClauseLength, ClauseName, End}
use Rattle.bookform.specs.Format.{is_header, clauses_left, directives_left, stepped, ended_at, bad_from}
use Rattle.bookform.specs.Grammar.{are_bytes, BadByteIsFirst}
use Rattle.bookform.proofs.Steps.{never}
use Rattle.bookform.proofs.Grammars.{form-is-book}

-- from a state on bytes can bring a book to its end
Ends : Expect → Type 0
Ends e = (at : ℕ) → (rest : List ℕ) × (bad_from e at rest ≡ None) × (are_bytes rest ≡ true)

clauses-end : (c : ℕ) → Ends (clauses_left c)
unfolding bad_from Ends
clauses-end zero at = ([], refl, refl)
clauses-end (suc c) at = let (r, h, y) = clauses-end c (suc (suc (suc at))) in (0 ∷ 1 ∷ 97 ∷ r, h, y)

directives-end : (d c : ℕ) → Ends (directives_left d c)
unfolding bad_from Ends
directives-end zero c at = clauses-end c at
directives-end (suc d) c at = let (r, h, y) = directives-end d c (suc (suc at)) in (1 ∷ 97 ∷ r, h, y)

name-ends : (n : ℕ) (w : Bool) (d c : ℕ) → Ends (DirectiveName n w d c)
unfolding bad_from Ends
name-ends zero w d c at = let (r, h, y) = directives-end d c (suc at) in (97 ∷ r, h, y)
name-ends (suc n) w d c at = let (r, h, y) = name-ends n true d c (suc at) in (97 ∷ r, h, y)

word-ends : (n c : ℕ) → Ends (ClauseName n c)
unfolding bad_from Ends
word-ends zero c at = let (r, h, y) = clauses-end c (suc at) in (97 ∷ r, h, y)
word-ends (suc n) c at = let (r, h, y) = word-ends n c (suc at) in (97 ∷ r, h, y)

-- a header: the mark, version 1, no flag, default Bare
abbrev plain : List ℕ
plain = 68 ∷ 82 ∷ 66 ∷ 0 ∷ 1 ∷ 0 ∷ 0 ∷ []

-- each of its bytes is good in its place, and a byte
plain_at : (i : ℕ) → i < 7 → (is_header i (get_or plain i 0) ≡ true) × (ltb (get_or plain i 0) 256 ≡ true)
plain_at zero h = (refl, refl)
plain_at (suc zero) h = (refl, refl)
plain_at (suc (suc zero)) h = (refl, refl)
plain_at (suc (suc (suc zero))) h = (refl, refl)
plain_at (suc (suc (suc (suc zero)))) h = (refl, refl)
plain_at (suc (suc (suc (suc (suc zero))))) h = (refl, refl)
plain_at (suc (suc (suc (suc (suc (suc zero)))))) h = (refl, refl)
plain_at (suc (suc (suc (suc (suc (suc (suc i))))))) h = absurd (omega arith)

counts_end : (d : ℕ) → Ends (ClauseCount d)
unfolding bad_from Ends
counts_end d at = let (r, h, y) = directives-end d 0 (suc at) in (0 ∷ r, h, y)

last-good : (i : ℕ) → 7 ≤ i → is_header i 1 ≡ true
last-good i h = rw (le-ltb i 3 (omega arith), ne_eqb i 3 (omega arith), ne_eqb i 4 (omega arith), ne_eqb i 5 (omega arith), ne_eqb i 6 (omega arith))

last-ends : (i : ℕ) → 7 ≤ i → Ends (HeaderByte i)
unfolding bad_from Ends
last-ends i l at =
    let (r, h, y) = counts_end 1 (suc at) in
    (1 ∷ r, rw (bad_from, last-good i l, le-ltb i 7 l) h, y)

header-ends : (k i : ℕ) → 7 ≤ i + k → Ends (HeaderByte i)
unfolding bad_from Ends
header-ends zero i l at = last-ends i (omega arith) at
header-ends (suc k) i l at =
    by_cases (ltb i 7)
    (λ t. let (r, h, y) = header-ends k (i + 1) (omega arith) (suc at) in
    let (g, b) = plain_at i (ltb-true _ _ t) in
    (get_or plain i 0 ∷ r, rw (bad_from, g, t) h, rw b y))
    (λ t. last-ends i (ltb-false i 7 t) at)

ends : (e : Expect) → Ends e
unfolding bad_from Ends
ends (HeaderByte i) at = header-ends 7 i (omega arith) at
ends (ClauseCount d) at = counts_end d at
ends (DirectiveLength d c) at = directives-end (suc d) c at
ends (DirectiveName n w d c) at = name-ends n w d c at
ends (Rule c) at = clauses-end (suc c) at
ends (ClauseLength c) at = let (r, h, y) = word-ends 0 c (suc at) in (1 ∷ r, h, y)
ends (ClauseName n c) at = word-ends n c at
ends End at = ([], refl, refl)

-- a fault lies from the place on and not past the end
ranged : (bs : List ℕ) (e : Expect) (at i : ℕ) → bad_from e at bs ≡ Some i → (at ≤ i) × (i ≤ at + length bs)
unfolding bad_from
ranged [] e at i h = let q = ended e h in omega arith
  where
    ended : (e : Expect) → ended_at e at ≡ Some i → at ≡ i
    ended (HeaderByte i) h = cc
    ended (ClauseCount d) h = cc
    ended (DirectiveLength d c) h = cc
    ended (DirectiveName n w d c) h = cc
    ended (Rule c) h = cc
    ended (ClauseLength c) h = cc
    ended (ClauseName n c) h = cc
    ended End h = never i (sym h)
ranged (b ∷ bs) e at i h = go (stepped e b) refl (λ n. ranged bs n (suc at) i)
  where
    go : (s : Option Expect) → stepped e b ≡ s → ((n : Expect) → bad_from n (suc at) bs ≡ Some i → (suc at ≤ i) × (i ≤ suc at + length bs)) → (at ≤ i) × (i ≤ at + suc (length bs))
    go None q ih = let z : Some at ≡ Some i = rw (bad_from, q) at h in let y : at ≡ i = cc in omega arith
    go (Some n) q ih = omega (arith, ih n (rw (bad_from, q) at h))

-- the bytes up to and with the bad one have the same fault, whatever follows
stops : (bs rest : List ℕ) (e : Expect) (at k : ℕ) → bad_from e at bs ≡ Some (at + k) → k < length bs → bad_from e at (take (suc k) bs ++ rest) ≡ Some (at + k)
unfolding bad_from
stops [] rest e at k h l = absurd (omega arith)
stops (b ∷ bs) rest e at k h l = go (stepped e b) refl k h l (λ n j. stops bs rest n (suc at) j)
  where
    go : (s : Option Expect) → stepped e b ≡ s → (k : ℕ) → bad_from e at (b ∷ bs) ≡ Some (at + k) → k < suc (length bs)
        → ((n : Expect) (j : ℕ) → bad_from n (suc at) bs ≡ Some (suc at + j) → j < length bs → bad_from n (suc at) (take (suc j) bs ++ rest) ≡ Some (suc at + j))
        → bad_from e at (b ∷ take k bs ++ rest) ≡ Some (at + k)
    go None q k h l ih = rw (bad_from, q) (rw (bad_from, q) at h)
    go (Some n) q zero h l ih = absurd (omega (arith, ranged bs n (suc at) (at + 0) (rw (bad_from, q) at h)))
    go (Some n) q (suc k) h l ih =
        let p : at + suc k ≡ suc at + k = omega arith in
        rw (bad_from, q, p) (ih n k (rw (bad_from, q, p) at h) (omega arith))

-- and a book begins with any number of bytes before it
begun : (bs : List ℕ) (e : Expect) (at i k : ℕ) → bad_from e at bs ≡ Some i → at + k ≤ i → (rest : List ℕ) × (bad_from e at (take k bs ++ rest) ≡ None) × (are_bytes rest ≡ true)
unfolding bad_from Ends
begun bs e at i zero h l = ends e at
begun [] e at i (suc k) h l = ends e at
begun (b ∷ bs) e at i (suc k) h l = go (stepped e b) refl (λ n g. begun bs n (suc at) i k g (omega arith))
  where
    go : (s : Option Expect) → stepped e b ≡ s → ((n : Expect) → bad_from n (suc at) bs ≡ Some i → (rest : List ℕ) × (bad_from n (suc at) (take k bs ++ rest) ≡ None) × (are_bytes rest ≡ true))
        → (rest : List ℕ) × (bad_from e at (b ∷ take k bs ++ rest) ≡ None) × (are_bytes rest ≡ true)
    go None q ih = let z : Some at ≡ Some i = rw (bad_from, q) at h in let y : at ≡ i = cc in absurd (omega arith)
    go (Some n) q ih = let (r, g, y) = ih n (rw (bad_from, q) at h) in (r, rw (bad_from, q) g, y)

pub bad-byte-is-first : BadByteIsFirst
bad-byte-is-first bs i h =
    let h' : bad_from (HeaderByte 0) 0 bs ≡ Some (0 + i) = rw zero-add h in (
      omega (arith, ranged bs (HeaderByte 0) 0 i h),
      λ l b. never (0 + i) (sym (stops bs b.0 (HeaderByte 0) 0 i h' l) ∙ rw add-one at ((form-is-book _).1 b.1)),
      λ k l. let (rest, f, y) = begun bs (HeaderByte 0) 0 i k h (omega arith) in (rest, (form-is-book (take k bs ++ rest)).0 f, y),
    )
