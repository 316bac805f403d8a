-- What is put together in the form that document 01 describes is read without a fault, repeats aside: a word, a clause, a directive's name, an
-- entry and a book each lead to what comes behind them, by induction over how they are put together. Assumes nothing.
use mathlib.Core.Path.{◌≡◌, refl, sym}
use mathlib.Core.Bool.{Bool, true, false, cond, ◌&&◌, ◌||◌}
use Rattle.std.specs.Prelude.{None}
use mathlib.Core.List.{List, [], ◌∷◌, ◌++◌, append_assoc}
use Prim.Native.Nat.{ℕ, zero, suc, ◌+◌, ◌-◌, ◌<◌, ◌≤◌}
use native.Mathlib.Omega.{arith}
use lib.ListN.{length, length-append}
use lib.Dec.{eqb}
use borrow.Author.Tests.{lt-ltb, le-leb}
use Rattle.ascii.specs.Ascii.{is_word}
use Rattle.ascii.specs.Text.{leading}
use Rattle.bookform.specs.declared.Expect.{Expect}
use Rattle.bookform.specs.declared.Expect.TheVariants.{DirectiveName, ClauseName}
use Rattle.bookform.specs.Format.{rule_for, is_known, clauses_left, directives_left, bad_from, HasForm}
use Rattle.bookform.specs.Grammar.{IsWord, IsWords, last, then, Clauses, clause, Entries, clauses, directive, IsBook}
use Rattle.bookform.specs.Grammar as G
use Rattle.bookform.proofs.Standings.{Reads, directive-reads, clause-reads}

-- rule bytes
low-known : (b : ℕ) → b < 4 → is_known (rule_for b) ≡ true
low-known zero h = refl
low-known (suc zero) h = refl
low-known (suc (suc zero)) h = refl
low-known (suc (suc (suc zero))) h = refl
low-known (suc (suc (suc (suc b)))) h = absurd (omega arith)

-- words
word-head : (x : ℕ) (w : List ℕ) → leading is_word (x ∷ w) ≡ suc (length w) → (is_word x ≡ true) × (leading is_word w ≡ length w)
unfolding leading
word-head x w h = go (is_word x) refl h
  where
    go : (b : Bool) → is_word x ≡ b → cond b (suc (leading is_word w)) 0 ≡ suc (length w) → (is_word x ≡ true) × (leading is_word w ≡ length w)
    go true q e = (q, omega arith)
    go false q e = absurd (omega arith)

-- no fault from a state on, wherever it stands
abbrev Fine : Expect → List ℕ → Type 0
Fine e bs = (at : ℕ) → bad_from e at bs ≡ None

-- a word that ends a name of either kind
module _ (between : ℕ) (state : ℕ → Bool → Expect) (behind : Expect) (r : Reads between state behind) (rest : List ℕ) (f : Fine behind rest) where
  word-fine : (w : List ℕ) (n : ℕ) (b : Bool) → length w ≡ suc n → leading is_word w ≡ length w → Fine (state n b) (w ++ rest)
  unfolding bad_from
  word-fine [] n b l e at = absurd (omega arith)
  word-fine (x ∷ w) zero b l e at = go w (omega arith)
    where
      go : (w : List ℕ) → length w ≡ 0 → bad_from (state 0 b) at (x ∷ w ++ rest) ≡ None
      go [] l = rw (bad_from, r.ends b x (word-head x _ e).0) (f (suc at))
      go (y ∷ w) l = absurd (omega arith)
  word-fine (x ∷ w) (suc n) b l e at =
      let h = word-head x w e in
      let g : (is_word x || eqb x between && b) ≡ true = rw h.0 refl in
      rw (bad_from, r.goes n b x g) (word-fine w n (is_word x) (omega arith) h.1 (suc at))

clauses-fine : (c : ℕ) (bs : List ℕ) → Clauses c bs → Fine (clauses_left c) bs
unfolding bad_from
clauses-fine c bs G.none at = refl
clauses-fine c bs (clause n rule name more l w k cs) at =
    let q : suc (length name - 1) ≡ length name = omega (arith, w.long) in
    rw (low-known rule l, bad_from, le-leb 1 (length name) w.long, le-leb (length name) 64 k)
    (word-fine 95 (λ k w. ClauseName k n) (clauses_left n) (clause-reads n) more (λ at. clauses-fine n more cs at) name (length name - 1) false (sym q) w.all (suc (suc at)))

module _ (d c : ℕ) where
  -- a word that goes on to a tail
  on_fine : (tail w : List ℕ) (m n : ℕ) → m ≡ length w + n → leading is_word w ≡ length w → Fine (DirectiveName n true d c) tail → Fine (DirectiveName m true d c) (w ++ tail)
  unfolding bad_from
  on_fine tail [] m n l e f at = let q : m ≡ n = omega arith in rw q (f at)
  on_fine tail (x ∷ w) zero n l e f at = absurd (omega arith)
  on_fine tail (x ∷ w) (suc m) n l e f at =
      let h = word-head x w e in
      rw (bad_from, h.0) (on_fine tail w m n (omega arith) h.1 f (suc at))

  then-fine : (tail w : List ℕ) (m n : ℕ) (b : Bool) → m ≡ length w + n → IsWord w → Fine (DirectiveName n true d c) tail → Fine (DirectiveName m b d c) (w ++ tail)
  unfolding bad_from
  then-fine tail [] m n b l w f at = absurd (omega (arith, w.long))
  then-fine tail (x ∷ v) zero n b l w f at = absurd (omega arith)
  then-fine tail (x ∷ v) (suc m) n b l w f at =
      let h = word-head x v w.all in
      rw (bad_from, h.0) (on_fine tail v m n (omega arith) h.1 f (suc at))

  words-some : (name : List ℕ) → IsWords name → 1 ≤ length name
  words-some name (last w i) = i.long
  words-some name (then w rest i is) = simp length-append (omega (arith, i.long))

  words-fine : (rest name : List ℕ) (n : ℕ) (b : Bool) → IsWords name → length name ≡ suc n → Fine (directives_left d c) rest → Fine (DirectiveName n b d c) (name ++ rest)
  unfolding bad_from
  words-fine rest name n b (last w i) l f at = word-fine 32 (λ k w. DirectiveName k w d c) (directives_left d c) (directive-reads d c) rest f w n b l i.all at
  words-fine rest name n b (then w v i is) l f at =
      let q : length v ≡ suc (length v - 1) = omega (arith, words-some v is) in
      let g : Fine (DirectiveName (length v) true d c) (32 ∷ v ++ rest) =
      λ at. rw (bad_from, q) (words-fine rest v (length v - 1) false is q f (suc at)) in
      rw append_assoc (then-fine (32 ∷ v ++ rest) w n (length v) b (omega (arith, simp length-append at l)) i g at)

entries-fine : (d c : ℕ) (bs : List ℕ) → Entries d c bs → Fine (directives_left d c) bs
unfolding bad_from
entries-fine d c bs (clauses c' bs' cs) at = clauses-fine c' bs' cs at
entries-fine d c bs (directive d' c' name more w k es) at =
    let o = words-some d' c' name w in
    let q : length name ≡ suc (length name - 1) = omega arith in
    rw (bad_from, le-leb 1 (length name) o, le-leb (length name) 64 k)
    (words-fine d' c' more name (length name - 1) false w q (λ at. entries-fine d' c' more es at) (suc at))

pub book-fine : (bs : List ℕ) → IsBook bs → HasForm bs
unfolding bad_from
book-fine bs b =
    rw (b.is, bad_from, lt-ltb b.flags 4 b.low_flags, bad_from, low-known b.rule b.low_rule, bad_from, le-leb 1 b.d b.some_directive) (entries-fine b.d b.c b.entries b.follow 9)
