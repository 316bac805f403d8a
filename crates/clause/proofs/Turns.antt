-- Under default Unsupported: a clause that is read has an entry, and a sequence that is read goes on by turns, each of which reads a clause.
-- Each step of a turn is taken apart by what it gives. Assumes nothing.
use Prim.Native.Nat.{ℕ, zero, suc, ◌+◌, ◌-◌}
use mathlib.Core.Bool.{Bool, true, false, cond, ◌&&◌}
use Rattle.std.specs.Prelude.{Option, Some, None, Result, Ok, Err}
use mathlib.Core.Path.{◌≡◌, refl}
use mathlib.Core.List.{List, ◌∷◌}
use lib.ListN.{length, drop}
use lib.Dec.{eqb}
use Rattle.ascii.specs.Text.{starts}
use Rattle.refusal.specs.declared.Reason.{Reason}
use Rattle.refusal.specs.declared.Refusal.{Refusal}
use Rattle.refusal.specs.Table.{number_of}
use Rattle.refusal.specs.Answer.{Answer, given, refused}
use Rattle.refusal.proofs.Answers.{never}
use Rattle.code.specs.declared.NoMatch.TheVariants.{Unmatched, DeepAt}
use Rattle.code.specs.Matching.{Match, matching}
use Rattle.lexer.specs.Trivia.{skip}
use Rattle.bookform.specs.declared.ClauseRule.{ClauseRule}
use Rattle.bookform.specs.declared.ClauseRule.TheVariants.{Bare, Parenthesized, Flexible, Unsupported}
use Rattle.rulebook.specs.Book.{Book}
use Rattle.rulebook.specs.Lookup.{rule_at, rule_or}
use Rattle.clause.specs.declared.ClauseRead.{ClauseRead}
use Rattle.clause.specs.declared.ClauseError.TheVariants.{Failed, Deep}
use Rattle.clause.specs.declared.Separation.{Separation}
use Rattle.clause.specs.Clause.{index_or, Read, failed, style, closing, argument, word_length, found, clause_at}
use Rattle.clause.specs.Sequence.{separated, Sequence, flagged, sequence_from}

-- what is read has entry i
abbrev HasEntry : Option ℕ → Read → Type 0
HasEntry i (Ok c) = c.clause.entry ≡ index_or i
HasEntry i (Err e) = Unit {0}

cond-entry : (i : Option ℕ) (t : Bool) (x y : Read) → HasEntry i x → HasEntry i y → HasEntry i (cond t x y)
cond-entry i true x y h k = h
cond-entry i false x y h k = k

module _ (f : Bool) (text : List ℕ) (start end : ℕ) (i : Option ℕ) where
  closing-entry : (p : ℕ) (m : Match) → HasEntry i (closing f text start end i p m)
  closing-entry p (Ok q) = refl
  closing-entry p (Err Unmatched) = tt
  closing-entry p (Err (DeepAt q)) = tt

  argument-entry : (rule : ClauseRule) (s : Result ℕ Refusal) → HasEntry i (argument f text start end i rule s)
  argument-entry Bare s = refl
  argument-entry Parenthesized (Ok p) =
      cond-entry i (starts 40 (drop p text)) _ (failed Reason.NoParenthesis p) (closing-entry p (matching (style f) (suc p) (drop (suc p) text))) tt
  argument-entry Parenthesized (Err r) = tt
  argument-entry Flexible (Ok p) =
      cond-entry i (starts 40 (drop p text)) _ (argument f text start end i Bare (Ok p)) (closing-entry p (matching (style f) (suc p) (drop (suc p) text))) refl
  argument-entry Flexible (Err r) = tt
  argument-entry Unsupported s = tt

-- under default Unsupported a clause that is read has an entry in the book
pub clause-found : (book : Book) (text : List ℕ) (at : ℕ) (c : ClauseRead) → book.default ≡ Unsupported → clause_at book text at ≡ Ok c
    → (i : ℕ) × (found book text at ≡ Some i) × (c.clause.entry ≡ i)
unfolding clause_at
clause-found book text at c strict h = go (eqb (word_length book text at) 0) (found book text at) refl (rw strict at h)
  where
    go : (b : Bool) (o : Option ℕ) → found book text at ≡ o
        → cond b (failed Reason.NoClause at)
        (argument book.ignores_case text at (at + word_length book text at) o (rule_or Unsupported o book.clauses) (skip book.ignores_case text (at + word_length book text at)))
        ≡ Ok c
        → (i : ℕ) × (found book text at ≡ Some i) × (c.clause.entry ≡ i)
    go true o e h = absurd (cc)
    go false None e h = absurd (cc)
    go false (Some i) e h =
        (i, e, rw h at (argument-entry book.ignores_case text at (at + word_length book text at) (Some i) (rule_at Unsupported i book.clauses) (skip book.ignores_case text (at + word_length book text at))))

-- A turn of the sequence: a clause is read, there is a slot for it, and what follows it is no open comment.
pub record Turn (book : Book) (text : List ℕ) (room : ℕ) (comma : Bool) (at : ℕ) (xs : List ℕ) (s : Sequence) : Type 0 where
  pub read : ClauseRead
  pub after : Separation
  pub later : Sequence
  pub reads : clause_at book text at ≡ Ok read
  pub has_room : eqb room 0 ≡ false
  pub separates : separated book.ignores_case text read.end ≡ Ok after
  pub goes_on : sequence_from book text (room - 1) after.comma (after.next - suc at) (suc at) xs ≡ given later
  pub gives : s ≡ record { clauses = flagged read.clause comma (after.comma && eqb after.next (length text)) ∷ later.clauses; rest = later.rest }

pub turn-of : (book : Book) (text : List ℕ) (room : ℕ) (comma : Bool) (at x : ℕ) (xs : List ℕ) (s : Sequence) → book.default ≡ Unsupported
    → sequence_from book text room comma zero at (x ∷ xs) ≡ given s → Turn book text room comma at xs s
unfolding sequence_from
turn-of book text room comma at x xs s strict h = go-read (clause_at book text at) refl
  where
    go-later : (c : ClauseRead) (n : Separation) (l : Answer Sequence) → clause_at book text at ≡ Ok c → eqb room 0 ≡ false
        → separated book.ignores_case text c.end ≡ Ok n → sequence_from book text (room - 1) n.comma (n.next - suc at) (suc at) xs ≡ l → Turn book text room comma at xs s
    go-later c n (given l) e f g k =
        let q = rw (sequence_from, e, f, g, k) at h in
        record { read = c; after = n; later = l; reads = e; has_room = f; separates = g; goes_on = k; gives = cc }
    go-later c n (refused m p) e f g k = never _ m p s (rw (sequence_from, e, f, g, k) at h)

    go-next : (c : ClauseRead) (n : Result Separation Refusal) → clause_at book text at ≡ Ok c → eqb room 0 ≡ false → separated book.ignores_case text c.end ≡ n → Turn book text room comma at xs s
    go-next c (Ok n) e f g = go-later c n (sequence_from book text (room - 1) n.comma (n.next - suc at) (suc at) xs) e f g refl
    go-next c (Err r) e f g = never _ (number_of r.reason) r.place s (rw (sequence_from, e, f, g) at h)

    go-room : (c : ClauseRead) (b : Bool) → clause_at book text at ≡ Ok c → eqb room 0 ≡ b → Turn book text room comma at xs s
    go-room c true e f = never _ 14 at s (rw (sequence_from, e, f) at h)
    go-room c false e f = go-next c (separated book.ignores_case text c.end) e f refl

    go-read : (r : Read) → clause_at book text at ≡ r → Turn book text room comma at xs s
    go-read (Ok c) e = go-room c (eqb room 0) e refl
    go-read (Err (Failed r)) e = never _ (number_of r.reason) r.place s (rw (sequence_from, e, strict) at h)
    go-read (Err (Deep p)) e = never _ 13 p s (rw (sequence_from, e) at h)
