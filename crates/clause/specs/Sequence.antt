-- The sequence of clauses (`parse_sequence`).
use Prim.Native.Nat.{ℕ, zero, suc, ◌-◌}
use Rattle.std.specs.Prelude.{Bool, true, ◌&&◌, length, drop, Result, Ok, Err}
use Rattle.std.proofs.Math.Bool.{false, cond}
use mathlib.Core.List.{List, [], ◌∷◌}
use Rattle.std.proofs.Math.Dec.{eqb}
use Rattle.ascii.specs.Text.{starts}
use Rattle.refusal.specs.declared.Refusal.{Refusal}
use Rattle.refusal.specs.Answer.{Answer, given, refused, refused_by}
use Rattle.lexer.specs.Trivia.{skip}
use Rattle.bookform.specs.declared.ClauseRule.{ClauseRule}
use Rattle.bookform.specs.declared.ClauseRule.TheVariants.{Bare, Parenthesized, Flexible, Unsupported}
use Rattle.rulebook.specs.Book.{Book}
use Rattle.clause.specs.declared.ClauseRecord.{ClauseRecord}
use Rattle.clause.specs.declared.ClauseError.TheVariants.{Failed, Deep}
use Rattle.clause.specs.declared.Separation.{Separation}
use Rattle.clause.specs.Clause.{clause_at}

-- what follows a clause: a place, with or without a comma on the way, or an open comment
abbrev pub after_comma : Bool → Result ℕ Refusal → Result Separation Refusal
after_comma comma (Ok p) = Ok (record { comma = comma; next = p })
after_comma comma (Err r) = Err r

module _ (fortran : Bool) (text : List ℕ) where
  -- trivia, perhaps a comma, trivia
  abbrev pub at_comma : Result ℕ Refusal → Result Separation Refusal
  at_comma (Ok p) = cond (starts 44 (drop p text)) (after_comma true (skip fortran text (suc p))) (after_comma false (skip fortran text p))
  at_comma (Err r) = Err r

  abbrev pub separated : ℕ → Result Separation Refusal
  separated at = at_comma (skip fortran text at)

-- the clauses that were read, and the place of the unread rest
pub record Sequence : Type 0 where
  pub clauses : List ClauseRecord
  pub rest : ℕ

abbrev pub consed : ClauseRecord → Answer Sequence → Answer Sequence
consed r (given s) = given (record { clauses = r ∷ s.clauses; rest = s.rest })
consed r (refused n p) = refused n p

-- a record with its comma flags: "preceded-by-comma, trailing comma"
abbrev pub flagged : ClauseRecord → Bool → Bool → ClauseRecord
flagged r before after = record {
  name_start = r.name_start;
  name_end = r.name_end;
  entry = r.entry;
  parenthesized = r.parenthesized;
  content_start = r.content_start;
  content_end = r.content_end;
  preceded = before;
  trailing = after;
}

abbrev pub is_unsupported : ClauseRule → Bool
is_unsupported Bare = false
is_unsupported Parenthesized = false
is_unsupported Flexible = false
is_unsupported Unsupported = true

module _ (book : Book) (text : List ℕ) where
  -- clauses from place at on, where xs is what is left of the text there, once k bytes are passed over. "With default Unsupported a clause that
  -- fails is refused; otherwise the list ends before it and the place of the unread rest is returned." Row 13 "under every default rule";
  -- row 14, "a clause .. read, no slot for it; its start", before what follows the clause; "8 before, between and after clauses is refused".
  unfoldable pub sequence_from : ℕ → Bool → ℕ → ℕ → List ℕ → Answer Sequence
  unfolding clause_at skip
  sequence_from room comma zero at [] = given (record { clauses = []; rest = at })
  sequence_from room comma (suc k) at [] = given (record { clauses = []; rest = at })
  sequence_from room comma (suc k) at (x ∷ xs) = sequence_from room comma k (suc at) xs
  sequence_from room comma zero at (x ∷ xs) =
      elim (clause_at book text at) [
        | Err e ↦ elim e [
          | Failed r ↦ cond (is_unsupported book.default) (refused_by r) (given (record { clauses = []; rest = at }))
          | Deep p ↦ refused 13 p
        ]
        | Ok c ↦ cond (eqb room 0) (refused 14 at)
            (elim (separated book.ignores_case text c.end) [
              | Err r ↦ refused_by r
              | Ok n ↦ consed (flagged c.clause comma (n.comma && eqb n.next (length text))) (sequence_from (room - 1) n.comma (n.next - suc at) (suc at) xs)
            ])
      ]

  -- clauses from a place of the text, behind trivia, into so many slots
  unfoldable pub sequence_at : ℕ → ℕ → Answer Sequence
  unfolding sequence_from skip
  sequence_at room at =
      elim (skip book.ignores_case text at) [
        | Err r ↦ refused_by r
        | Ok p ↦ sequence_from room false zero p (drop p text)
      ]
