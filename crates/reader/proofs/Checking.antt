-- Laws of the checks before a line is joined: each decides in its turn, and what holds once none has found anything. By cases of what they find.
-- Assumes nothing.
use Rattle.std.proofs.Common.{ℕ, ◌≡◌, refl, sym, ◌∙◌, Bool, true, false, cond, List}
use Rattle.std.specs.Prelude.{Option, Some, None, Err}
use Rattle.refusal.specs.declared.Refusal.{Refusal}
use Rattle.refusal.specs.declared.Reason.TheVariants.{WrongLanguage, InvalidLine}
use Rattle.refusal.specs.Answer.{Answer, refused, refused_by, unless_fault}
use Rattle.refusal.specs.Verdict.{fine, refusal_at, fault_by, or_refused}
use Rattle.lexer.specs.declared.Language.{Language}
use Rattle.lexer.specs.declared.Language.TheVariants.{C, FortranFree, FortranFixed}
use Rattle.lexer.specs.declared.Prefix.{Prefix}
use Rattle.validation.specs.Validation.{fault}
use Rattle.source.specs.Joining.{joined_text}
use Rattle.rulebook.specs.Book.{Book, book_of}
use Rattle.rulebook.specs.Check.{book_fault}
use Rattle.reader.specs.Line.{Parsed, parsed, suits, line_answer}
use Rattle.source.specs.Verdicts.{fit_verdict}
use Rattle.source.proofs.Judging.{fit-refused}
use Rattle.reader.specs.Steps.{suited, line_verdict}

suits-is : (l : Language) (b : Book) → suits l b ≡ suited l b.ignores_case
suits-is C b = refl
suits-is FortranFree b = refl
suits-is FortranFixed b = refl

line-then : {A : Type 0} (b : Bool) (o : Option ℕ) (x : Answer A)
    → cond b (unless_fault 6 o x) (refused 5 0) ≡ or_refused (cond b (fault_by InvalidLine o) (Err (refusal_at WrongLanguage 0))) x
line-then false o x = refl
line-then true None x = refl
line-then true (Some q) x = refl

module _ (l : Language) (p : Prefix) (bk line : List ℕ) (ts ms room : ℕ) where
  -- rows 1 to 3, then 4, then 5 and 6, then the steps after joining
  line-is : line_answer l p bk line ts ms room
      ≡ or_refused (fit_verdict line ts ms)
      (unless_fault 4 (book_fault bk) (or_refused (line_verdict l p (book_of bk).ignores_case line) (parsed (book_of bk) l p room (joined_text l line))))
  unfolding line_answer line_verdict
  line-is =
      let x : Answer Parsed = parsed (book_of bk) l p room (joined_text l line) in
      rw (suits-is l (book_of bk), line-then (suited l (book_of bk).ignores_case) (fault l p line) x)
      (sym (fit-refused line ts ms (unless_fault 4 (book_fault bk) (or_refused (line_verdict l p (book_of bk).ignores_case line) x))))

  pub line-call : (why : Refusal) → fit_verdict line ts ms ≡ Err why → line_answer l p bk line ts ms room ≡ refused_by why
  line-call why e = line-is ∙ rw e

  pub line-book : (why : Refusal) (q : ℕ) → fit_verdict line ts ms ≡ fine → book_fault bk ≡ Some q → refused 4 q ≡ refused_by {A = Parsed} why
      → line_answer l p bk line ts ms room ≡ refused_by why
  line-book why q e f g = line-is ∙ rw (e, f) g

  pub line-physical : (why : Refusal) → fit_verdict line ts ms ≡ fine → book_fault bk ≡ None → line_verdict l p (book_of bk).ignores_case line ≡ Err why
      → line_answer l p bk line ts ms room ≡ refused_by why
  line-physical why e f d = line-is ∙ rw (e, f, d)

  pub line_read : fit_verdict line ts ms ≡ fine → book_fault bk ≡ None → line_verdict l p (book_of bk).ignores_case line ≡ fine
      → line_answer l p bk line ts ms room ≡ parsed (book_of bk) l p room (joined_text l line)
  line_read e f d = line-is ∙ rw (e, f, d)
