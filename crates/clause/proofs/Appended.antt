-- Clause names that are appended to a book change no accepted sequence under default Unsupported.
-- A clause that is read has an entry of the shorter book, and that entry is found in the longer one too; so turn by turn. Assumes nothing.
use Prim.Native.Nat.{ℕ, zero, suc, ◌-◌, ◌<◌}
use mathlib.Core.Bool.{Bool, false}
use Rattle.std.specs.Prelude.{Some, Result, Ok, Err}
use mathlib.Core.Path.{◌≡◌, refl, ap, sym}
use mathlib.Core.List.{List, [], ◌∷◌}
use native.Mathlib.Omega.{arith}
use lib.ListN.{length, drop}
use Rattle.refusal.specs.declared.Refusal.{Refusal}
use Rattle.refusal.specs.Table.{number_of}
use Rattle.refusal.specs.Answer.{given, admitted}
use Rattle.refusal.proofs.Answers.{never, Keeps, keeps-admitted, keeps_then}
use Rattle.lexer.specs.Trivia.{skip}
use Rattle.bookform.specs.declared.ClauseRule.TheVariants.{Unsupported}
use Rattle.rulebook.specs.Book.{Book, book_of}
use Rattle.rulebook.specs.Lookup.{IsAppended}
use Rattle.rulebook.proofs.Appended.{entry_from-below, entry_from-appended, rule_at-appended}
use Rattle.clause.specs.declared.ClauseRead.{ClauseRead}
use Rattle.clause.specs.Clause.{found, clause_at}
use Rattle.clause.specs.Sequence.{separated, Sequence, sequence_from, sequence_at}
use Rattle.clause.specs.Calls.{counted, sequence_call}
use Rattle.clause.specs.Laws.{AppendedNamesKeepSequences}
use Rattle.clause.proofs.Turns.{clause-found, turn-of}

-- a clause and a sequence are read alike with names appended
module _ (short long : Book) (a : IsAppended short long) (strict : short.default ≡ Unsupported) (text : List ℕ) where
  found-kept : (at i : ℕ) → found short text at ≡ Some i → found long text at ≡ Some i
  found-kept at i h = rw a.same_case (entry_from-appended short.clauses long.clauses a.more a.same_names _ _ _ _ h)

  clause-kept : (at : ℕ) (c : ClauseRead) → clause_at short text at ≡ Ok c → clause_at long text at ≡ Ok c
  unfolding clause_at
  clause-kept at c h =
      let (i, fs, _) = clause-found short text at c strict h in
      let fl = found-kept at i fs in
      let b = entry_from-below _ 0 i _ short.clauses fs in
      let below : i < length short.clauses = omega arith in
      let rules = rule_at-appended short.clauses long.clauses a.more a.same_rules short.default i below in
      rw (fl, a.same_default, rules, a.same_case) (rw fs at h)

  sequence-kept : (room : ℕ) (comma : Bool) (k at : ℕ) (xs : List ℕ) (s : Sequence)
      → sequence_from short text room comma k at xs ≡ given s → sequence_from long text room comma k at xs ≡ given s
  unfolding sequence_from
  sequence-kept room comma zero at [] s h = h
  sequence-kept room comma (suc k) at [] s h = h
  sequence-kept room comma (suc k) at (x ∷ xs) s h = sequence-kept room comma k (suc at) xs s h
  sequence-kept room comma zero at (x ∷ xs) s h =
      let t = turn-of short text room comma at x xs s strict h in
      let e = clause-kept at t.read t.reads in
      let n : separated long.ignores_case text t.read.end ≡ Ok t.after = rw a.same_case t.separates in
      let g = sequence-kept (room - 1) t.after.comma (t.after.next - suc at) (suc at) xs t.later t.goes_on in
      rw (sequence_from, e, t.has_room, n, g) (ap given (sym t.gives))

  pub sequence_at-kept : (room at : ℕ) → Keeps (sequence_at short text room at) (sequence_at long text room at)
  unfolding sequence_at
  sequence_at-kept room at s h = go (skip short.ignores_case text at) refl
    where
      go : (p : Result ℕ Refusal) → skip short.ignores_case text at ≡ p → sequence_at long text room at ≡ given s
      go (Ok p) e = rw (sequence_at, a.same_case, e) (sequence-kept room false zero p (drop p text) s (rw (sequence_at, e) at h))
      go (Err r) e = never _ (number_of r.reason) r.place s (rw (sequence_at, e) at h)

-- the same of the call
pub appended-names-keep-sequences : AppendedNamesKeepSequences
unfolding sequence_call
appended-names-keep-sequences short long text size end fs fl a strict h =
    let x = sequence_at (book_of short) text size 0 in
    let y = sequence_at (book_of long) text size 0 in
    let k = keeps-admitted text x y (sequence_at-kept (book_of short) (book_of long) a strict text size 0) in
    rw (fl, fs, keeps_then (admitted text x) (admitted text y) (λ s. given (counted s)) end k (rw fs at h))
