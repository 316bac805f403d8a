-- Laws of one clause and of one step over the code's terms: what each branch of the code gives is what the definitions give there.
-- Each is its definition, rewritten by what the branch has learnt.
use Prim.Native.Nat.{ℕ, ◌+◌, ◌-◌, ◌≤◌}
use mathlib.Core.Bool.{Bool, true, false, cond, true≢false}
use Rattle.std.specs.Prelude.{Result, Ok}
use mathlib.Core.Path.{◌≡◌, refl, sym, ap, ◌∙◌}
use mathlib.Core.List.{List}
use native.Mathlib.Nat.{add-zero}
use native.Mathlib.Omega.{arith}
use lib.ListN.{length, take, drop, get_or}
use lib.Seq.{get_or-drop}
use lib.Dec.{eqb}
use borrow.Author.Tests.{eq-eqb, ne_eqb}
use Rattle.ascii.specs.Ascii.{is_word}
use Rattle.ascii.specs.Text.{starts, leading}
use Rattle.refusal.specs.declared.Reason.{Reason}
use Rattle.refusal.specs.declared.Reason.TheVariants.{NoSlot}
use Rattle.refusal.specs.declared.Refusal.{Refusal}
use Rattle.refusal.specs.Verdict.{refusal_at}
use Rattle.lexer.specs.Trivia.{skip}
use Rattle.lexer.proofs.Bounds.{skip-again}
use Rattle.bookform.specs.declared.ClauseRule.{ClauseRule}
use Rattle.bookform.specs.declared.ClauseRule.TheVariants.{Bare, Parenthesized, Flexible, Unsupported}
use Rattle.rulebook.specs.declared.ClauseEntry.{ClauseEntry}
use Rattle.rulebook.specs.declared.Header.{Header}
use Rattle.rulebook.specs.Book.{Book, book_of, header_of}
use Rattle.rulebook.specs.Lookup.{clause_entry}
use Rattle.rulebook.proofs.Finding.{book-case, book-default}
use Rattle.clause.specs.declared.ClauseRead.{ClauseRead}
use Rattle.clause.specs.declared.Progress.{Progress}
use Rattle.clause.specs.declared.Progress.TheVariants.{Going, Ended, Refused}
use Rattle.clause.specs.declared.Separation.{Separation}
use Rattle.clause.specs.declared.SequenceState.{SequenceState}
use Rattle.clause.specs.Clause.{failed, argument, word_length, clause_at}
use Rattle.clause.specs.Sequence.{separated, is_unsupported}
use Rattle.clause.specs.Steps.{Ready, still, stopped, behind, onward, is_going, next_state, begun_at, start_at}
use Rattle.clause.proofs.Extents.{clause-ends}

-- the byte at a place, as what is left of the text begins with it
pub starts-not : (b p : ℕ) (t : List ℕ) → (get_or t p 0 ≡ b → ⊥) → starts b (drop p t) ≡ false
starts-not b p t n = ne_eqb (get_or (drop p t) 0 0) b (λ e. n (sym (rw add-zero at (get_or-drop p t 0 0)) ∙ e))

-- the clause at a place
pub no_word : (book : Book) (t : List ℕ) (at end : ℕ) → end ≡ at + leading is_word (drop at t) → end ≡ at → failed Reason.NoClause at ≡ clause_at book t at
unfolding clause_at
no_word book t at end e g =
    let z : word_length book t at ≡ 0 = omega arith in
    rw (eq-eqb _ _ z) refl

pub clause-by : (bk t : List ℕ) (at end : ℕ) (f : Bool) (c : ClauseEntry) → f ≡ (book_of bk).ignores_case → end ≡ at + leading is_word (drop at t) → (end ≡ at → ⊥)
    → c ≡ clause_entry (book_of bk) (take (end - at) (drop at t))
    → argument f t at end c.index c.rule (skip f t end) ≡ clause_at (book_of bk) t at
unfolding clause_at clause_entry
clause-by bk t at end f c e g n q =
    let w = word_length (book_of bk) t at in
    let some_bytes : w ≡ 0 → ⊥ = λ z. n (omega arith) in
    let m : at + w - at ≡ w = omega arith in
    let k : c ≡ clause_entry (book_of bk) (take w (drop at t)) = q ∙ rw (g, m) refl in
    rw (ne_eqb _ _ some_bytes, k, g, e) refl

-- what follows a clause where there is no comma
pub no-comma-is : (f : Bool) (t : List ℕ) (at p : ℕ) → Ok p ≡ skip f t at → starts 44 (drop p t) ≡ false
    → ◌≡◌ {A = Result Separation Refusal} (Ok (record { comma = false; next = p })) (separated f t at)
no-comma-is f t at p e b = let again = skip-again f t at p (sym e) in rw (← e, b, again) refl

-- under a book that was checked its header tells what the book does
module _ (bk : List ℕ) (h : Header) (e : h ≡ header_of bk) where
  pub start_is : (t : List ℕ) (left at : ℕ) (k : Result ℕ Refusal) → k ≡ skip h.ignores_case t at → begun_at left k ≡ start_at bk t left at
  unfolding start_at
  start_is t left at k q = rw (book-case bk h e) (ap (begun_at left) q)

  pub judged-by : (b : Bool) (x y : SequenceState) → is_unsupported h.default_rule ≡ b → cond b x y ≡ cond (is_unsupported (book_of bk).default) x y
  judged-by b x y u = rw (book-default bk h e, u)

  pub took-by : (t : List ℕ) (s : SequenceState) (c : ClauseRead) (n : Result Separation Refusal) → n ≡ separated h.ignores_case t c.end → (s.left ≡ 0 → ⊥)
      → behind (length t) s c n ≡ cond (eqb s.left 0) (stopped s (refusal_at NoSlot s.at)) (behind (length t) s c (separated (book_of bk).ignores_case t c.end))
  took-by t s c n q some = rw (ne_eqb _ _ some, book-case bk h e) (ap (behind (length t) s c) q)

-- no rule but one refuses a clause that fails
pub supported : (d : ClauseRule) → (d ≡ Unsupported → ⊥) → is_unsupported d ≡ false
supported Bare n = refl
supported Parenthesized n = refl
supported Flexible n = refl
supported Unsupported n = absurd (n refl)

-- one step, where the sequence goes on and where it does not
module _ (bk t : List ℕ) (s : SequenceState) where
  pub clause-inside : Ready t s → (c : ClauseRead) → Ok c ≡ clause_at (book_of bk) t s.at → c.end ≤ length t
  clause-inside ready c e = (rw (sym e) at (clause-ends (book_of bk) t s.at ready.inside)).1

  pub goes : is_going s.progress ≡ true → onward (book_of bk) t s Going ≡ next_state bk t s
  unfolding next_state
  goes e = go s.progress e
    where
      go : (p : Progress) → is_going p ≡ true → onward (book_of bk) t s Going ≡ onward (book_of bk) t s p
      go Going e = refl
      go Ended e = absurd (true≢false (sym e))
      go (Refused r) e = absurd (true≢false (sym e))

  pub rests : is_going s.progress ≡ false → still s s.progress ≡ next_state bk t s
  unfolding next_state
  rests e = go s.progress e
    where
      go : (p : Progress) → is_going p ≡ false → still s p ≡ onward (book_of bk) t s p
      go Going e = absurd (true≢false e)
      go Ended e = refl
      go (Refused r) e = refl
