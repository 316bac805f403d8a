-- Demand 3 over the code: whatever two calls of `read_line` give by its contract, breaks change nothing but the map, and appended names change no accepted reading.
-- From the contract's equation and the laws of the definitions. Assumes nothing.
use Prim.Native.Nat.{ℕ, ◌≤◌, ◌<◌}
use Rattle.std.specs.Prelude.{None, Result, Ok}
use mathlib.Core.Path.{◌≡◌, sym, ap, ◌∙◌}
use mathlib.Core.List.{List}
use lib.ListN.{length}
use Rattle.refusal.specs.declared.Refusal.{Refusal}
use Rattle.refusal.specs.Answer.{given, told, max_length}
use Rattle.lexer.specs.declared.Language.{Language}
use Rattle.lexer.specs.declared.Language.TheVariants.{C}
use Rattle.lexer.specs.declared.Prefix.{Prefix}
use Rattle.source.specs.Laws.{Break, broken, IsPlain}
use Rattle.bookform.specs.declared.ClauseRule.TheVariants.{Unsupported}
use Rattle.rulebook.specs.Book.{book_of}
use Rattle.rulebook.specs.Check.{book_fault}
use Rattle.rulebook.specs.Lookup.{IsAppended}
use Rattle.clause.specs.declared.ClauseRecord.{ClauseRecord}
use Rattle.reader.specs.declared.Reading.{Reading}
use Rattle.reader.specs.Calls.{LineCall, line_call}
use Rattle.reader.proofs.Breaks.{breaks-change-nothing}
use Rattle.reader.proofs.Appended.{appended-names-keep-readings}

-- what a call of `read_line` leaves: its answer, and the lent slots
pub record Left : Type 0 where
  pub answer : Result Reading Refusal
  pub text : List ℕ
  pub map : List ℕ
  pub records : List ClauseRecord

abbrev pub left_call : Left → LineCall
left_call c = record { answer = told c.answer; text = c.text; map = c.map; records = c.records }

-- it meets the contract of `read_line`, with so many slots lent
abbrev pub Meets : Language → Prefix → List ℕ → List ℕ → ℕ → ℕ → ℕ → Left → Type 0
Meets l p book line text_slots map_slots record_slots c = left_call c ≡ line_call l p book line text_slots map_slots record_slots

-- the broken line and its text: the same answer, text and records
pub broken-alike : (t : List ℕ) → IsPlain t → (gap : ℕ → List Break) (p : Prefix) (book : List ℕ) (text_slots map_slots record_slots : ℕ) (a b : Left)
    → length (broken t gap) ≤ max_length → length (broken t gap) ≤ text_slots → length (broken t gap) < map_slots
    → Meets C p book (broken t gap) text_slots map_slots record_slots a → Meets C p book t text_slots map_slots record_slots b
    → (told a.answer ≡ told b.answer) × (a.text ≡ b.text) × (a.records ≡ b.records)
broken-alike t plain gap p book text_slots map_slots record_slots a b h k m e d =
    let law = breaks-change-nothing t plain gap p book text_slots map_slots record_slots h k m in (
      ap (λ (c : LineCall). c.answer) e ∙ law.0 ∙ sym (ap (λ (c : LineCall). c.answer) d),
      ap (λ (c : LineCall). c.text) e ∙ law.1 ∙ sym (ap (λ (c : LineCall). c.text) d),
      ap (λ (c : LineCall). c.records) e ∙ law.2 ∙ sym (ap (λ (c : LineCall). c.records) d),
    )

-- a reading under a book, and under one with clause names appended to it: the same reading, and every slot
pub appended-alike : (l : Language) (p : Prefix) (short long line : List ℕ) (text_slots map_slots record_slots : ℕ) (reading : Reading) (a b : Left)
    → book_fault short ≡ None → book_fault long ≡ None → IsAppended (book_of short) (book_of long) → (book_of short).default ≡ Unsupported
    → Meets l p short line text_slots map_slots record_slots a → Meets l p long line text_slots map_slots record_slots b
    → a.answer ≡ Ok reading → left_call b ≡ left_call a
appended-alike l p short long line text_slots map_slots record_slots reading a b v w more strict e d r =
    let read : (line_call l p short line text_slots map_slots record_slots).answer ≡ given reading = sym (ap (λ (c : LineCall). c.answer) e) ∙ ap told r in
    d ∙ appended-names-keep-readings l p short long line text_slots map_slots record_slots reading v w more strict read ∙ sym e
