-- Laws of the head of a line: the name that is read, where the clauses start behind it, and what joining has left of text and map.
-- By cases of the answers on the way. Assumes nothing.
use Rattle.std.proofs.Common.{ℕ, ◌≡◌, ◌+◌, ◌≤◌, ◌<◌, refl, sym, ap, subst, ◌∙◌, List, length, take}
use Rattle.std.specs.Prelude.{Result, Ok, Err}
use lib.Seq.{length-take-le}
use Rattle.refusal.specs.declared.Refusal.{Refusal}
use Rattle.refusal.specs.Answer.{Answer, given, refused, refused_by, and_then, max_length}
use Rattle.refusal.proofs.Answers.{and_then-given, sure-of}
use Rattle.lexer.specs.declared.Language.{Language}
use Rattle.lexer.specs.declared.Prefix.{Prefix}
use Rattle.source.specs.Joining.{joined_text, joined_map}
use Rattle.rulebook.specs.Book.{Book, book_of}
use Rattle.clause.specs.Sequence.{sequence_at}
use Rattle.clause.specs.Steps.{start_at}
use Rattle.clause.proofs.Starting.{started-at, reads_at}
use Rattle.directive.specs.declared.DirectiveName.{DirectiveName}
use Rattle.directive.specs.Name.{name_at}
use Rattle.directive.proofs.Ends.{name_at-end}
use Rattle.reader.specs.declared.heading.Head.{Head}
use Rattle.reader.specs.Line.{opening, parsed, line_answer}
use Rattle.reader.specs.Steps.{behind, Heading, Heads, HeadGives}
use Rattle.reader.proofs.Rest.{opening-end}

then-then : {A B D : Type 0} (x : Answer A) (f : A → Answer B) (g : B → Answer D) → and_then (and_then x f) g ≡ and_then x (λ a. and_then (f a) g)
then-then (given a) f g = refl
then-then (refused n p) f g = refl

module _ (book : Book) (l : Language) (p : Prefix) (room : ℕ) (text : List ℕ) where
  abbrev name_of : Answer DirectiveName
  name_of = and_then (opening l p text) (name_at book text)

  -- the name, and then the clauses
  parsed-is : parsed book l p room text ≡ and_then name_of (λ name. behind name (sequence_at book text room name.end))
  unfolding parsed
  parsed-is = sym (then-then (opening l p text) (name_at book text) _)

  pub name-ends : (name : DirectiveName) → name_of ≡ given name → name.end ≤ length text
  name-ends name e =
      let (at, o, h) = and_then-given (opening l p text) (name_at book text) name e in
      sure-of (λ m. m.end ≤ length text) (name_at book text at) name (name_at-end book text at (sure-of (λ k. k ≤ length text) (opening l p text) at (opening-end l p text) o)) h

module _ (bk text : List ℕ) (l : Language) (p : Prefix) (room : ℕ) where
  pub heads-refused : (why : Refusal) → refused_by why ≡ and_then (opening l p text) (name_at (book_of bk) text)
      → parsed (book_of bk) l p room text ≡ refused_by why
  heads-refused why e = parsed-is (book_of bk) l p room text ∙ rw (sym e)

  pub heads-found : (name : DirectiveName) → given name ≡ and_then (opening l p text) (name_at (book_of bk) text) → length text ≤ max_length
      → Heading bk text room (parsed (book_of bk) l p room text) (record { name = name; length = length text; start = start_at bk text room name.end })
  heads-found name e s =
      let a : parsed (book_of bk) l p room text ≡ behind name (sequence_at (book_of bk) text room name.end) = parsed-is (book_of bk) l p room text ∙ rw (sym e) in
      record {
        short = s;
        started = started-at bk text room name.end s (name-ends (book_of bk) l p room text name (sym e));
        reads = rw a (ap (behind name) (reads_at bk text room name.end));
      }

-- once a line is joined: n bytes of the text and n + 1 entries of the map were written
module _ (l : Language) (p : Prefix) (bk line : List ℕ) (room : ℕ) (text map : List ℕ) (n : ℕ)
    (read : line_answer l p bk line (length text) (length map) room ≡ parsed (book_of bk) l p room (joined_text l line)) (fits : n ≤ length text) (room-left : n < length map)
    (texts : take n text ≡ joined_text l line) (maps : take (n + 1) map ≡ joined_map l line) where
  pub gives-joined : (h : Result Head Refusal) → Heads bk (take n text) room (parsed (book_of bk) l p room (take n text)) h → HeadGives l p bk line room text map h
  gives-joined (Ok h) k =
      let size : h.length ≡ n = k.0 ∙ length-take-le n text fits in
      let a : parsed (book_of bk) l p room (take n text) ≡ line_answer l p bk line (length text) (length map) room = rw texts (sym read) in
      record {
        within = rw size (fits, room-left);
        texts = rw size texts;
        maps = rw size maps;
        heads = subst (λ (n : ℕ). Heading bk (take n text) room (line_answer l p bk line (length text) (length map) room) h) (sym size) (rw a at k.1);
      }
  gives-joined (Err r) k = read ∙ rw texts at k
