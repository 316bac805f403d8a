-- Of a line no more clauses are read than there are slots for them, so a call that uses a part of its slots leaves zeros in the others.
-- By the steps of the answer. Assumes nothing.
use Rattle.std.proofs.Common.{ℕ, ◌≡◌, ◌-◌, ◌≤◌, refl, ap, List, ◌++◌, replicate}
use Rattle.refusal.specs.Answer.{Answer, slots}
use Rattle.refusal.proofs.Answers.{Sure, sure-cond, sure-fault, sure-admitted, sure-then, sure-past}
use Rattle.lexer.specs.declared.Language.{Language}
use Rattle.lexer.specs.declared.Prefix.{Prefix}
use Rattle.validation.specs.Validation.{fault}
use Rattle.source.specs.Joining.{joined_text}
use Rattle.source.specs.Calls.{is_short}
use Rattle.rulebook.specs.Book.{Book, book_of}
use Rattle.rulebook.specs.Check.{book_fault}
use Rattle.clause.specs.declared.ClauseRecord.{ClauseRecord}
use Rattle.clause.specs.Clause.{zero_record}
use Rattle.clause.specs.Sequence.{sequence_at}
use Rattle.clause.proofs.Few.{Few, sequence_at-few, slots-more}
use Rattle.directive.specs.Name.{name_at}
use Rattle.reader.specs.declared.Reading.{Reading}
use Rattle.reader.specs.Line.{Parsed, opening, parsed, suits, line_answer}
use Rattle.reader.specs.Calls.{LineCall, line_call, line_within}

abbrev FewParsed : ℕ → Parsed → Type 0
FewParsed room p = Few room p.sequence

parsed-few : (book : Book) (l : Language) (p : Prefix) (room : ℕ) (text : List ℕ) → Sure (FewParsed room) (parsed book l p room text)
unfolding parsed
parsed-few book l p room text =
    sure-past (FewParsed room) (opening l p text) _ (λ at.
    sure-past (FewParsed room) (name_at book text at) _ (λ name.
    sure-then (Few room) (FewParsed room) (sequence_at book text room name.end) _ (sequence_at-few book text room name.end) (λ s h. h)))

module _ (l : Language) (p : Prefix) (bk line : List ℕ) (ts ms room : ℕ) where
  line-few : Sure (FewParsed room) (line_answer l p bk line ts ms room)
  unfolding line_answer
  line-few =
      sure-admitted (FewParsed room) line _
      (sure-cond (FewParsed room) (is_short line ts ms) _ _ tt
      (sure-fault (FewParsed room) 4 (book_fault bk) _
      (sure-cond (FewParsed room) (suits l (book_of bk)) _ _
      (sure-fault (FewParsed room) 6 (fault l p line) _ (parsed-few (book_of bk) l p room (joined_text l line))) tt)))

  -- a call that is lent more slots than it uses
  pub within-more : (n : ℕ) (a : Answer Reading) (t m : List ℕ) (rs : List ClauseRecord) → room ≤ n
      → record { answer = a; text = t; map = m; records = rs } ≡ line_call l p bk line ts ms room
      → record { answer = a; text = t; map = m; records = rs ++ replicate (n - room) zero_record } ≡ line_within l p bk line ts ms room n
  unfolding line_within
  within-more n a t m rs h e =
      let x = line_answer l p bk line ts ms room in
      let answer = ap (λ (c : LineCall). c.answer) e in
      let text = ap (λ (c : LineCall). c.text) e in
      let map = ap (λ (c : LineCall). c.map) e in
      let records : rs ≡ slots zero_record room (λ (q : Parsed). q.sequence.clauses) x = ap (λ (c : LineCall). c.records) e in
      rw (answer, text, map, records, slots-more (λ (q : Parsed). q.sequence.clauses) room n x h line-few) refl
