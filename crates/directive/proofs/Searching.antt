-- One turn of the search for a name, with the candidate in its buffer: it is too long, or what follows it decides. Assumes nothing.
use Rattle.std.proofs.Common.{ℕ, ◌≡◌, ◌+◌, ◌-◌, ◌<◌, ◌≤◌, refl, sym, ◌∙◌, true, false, List, [], length, take, drop, get_or, arith}
use lib.ListN.{length-take}
use Rattle.std.specs.Prelude.{Option, Some, None, Result, Ok, is_err}
use Rattle.ascii.specs.Ascii.{is_word}
use Rattle.ascii.specs.Text.{leading}
use Rattle.ascii.proofs.Texts.{leading_le}
use Rattle.refusal.specs.declared.Refusal.{Refusal}
use Rattle.lexer.specs.Trivia.{skip, Inside}
use Rattle.bookform.specs.Format.{HasForm}
use Rattle.rulebook.specs.Book.{book_of}
use Rattle.directive.specs.declared.Named.{Named}
use Rattle.directive.specs.Name.{entry_of, latest, extended, name_from}
use Rattle.directive.specs.declared.candidate.Full.{Full}
use Rattle.directive.specs.Steps.{AreBytes, kept_if, fitting, behind, next_of, Ahead, Good}
use Rattle.directive.specs.declared.foreseen.Foreseen.{Foreseen}
use Rattle.directive.specs.declared.outlook.Outlook.{Outlook}
use Rattle.directive.specs.Kept.{Within, IfForeseen, KeptFor}
use Rattle.directive.proofs.Long.{Spaced, spaced-grown, short-book, entry-long, grows-long, fits-none, fits-some}
use Rattle.directive.proofs.Beginning.{extended-some}
use Rattle.directive.proofs.Naming.{turned, turn, long-turn, word-ahead}
use Rattle.directive.proofs.Placing.{good-latest}

-- The search came to a place with a candidate before it and a last name: it gives what it gives from the first word on.
pub record Searched (bs text : List ℕ) (from start place : ℕ) (c : List ℕ) (o : Outlook) (found : Option Named) : Type 0 where
  pub within : (start ≤ place) × (place ≤ length text)
  pub spaced : Spaced c
  pub alike : name_from (book_of bs) text from c found 0 place (drop place text) ≡ name_from (book_of bs) text from [] None 0 start (drop start text)
  pub ready : KeptFor (book_of bs) c o
  pub good : Good start (length text) found

module _ {bs text : List ℕ} {from start place end : ℕ} {c : List ℕ} {o : Outlook} {found : Option Named} (fit : AreBytes bs) (form : HasForm bs) (here : Searched bs text from start place c o found)
    (word : is_word (get_or text place 0) ≡ true) (ends : end ≡ place + leading is_word (drop place text)) where
  abbrev grown : List ℕ
  grown = extended c (take (end - place) (drop place text))

  pub ahead : place < end
  ahead = word-ahead text place end word ends

  pub within : Within o.foreseen
  within = go o.foreseen here.ready.foreseen
    where
      go : (f : Option Foreseen) → IfForeseen (book_of bs) c f → Within f
      go None t = tt
      go (Some f) t = t.within

  pub word-some : 0 < length (take (end - place) (drop place text))
  word-some =
      let s = drop place text in
      let n = leading_le is_word s in
      simp length-take (omega (arith, ahead, ends, n))

  spaced-on : Spaced grown
  spaced-on =
      let s = drop place text in
      let q : end - place ≡ leading is_word s = omega (arith, ends) in
      rw q (spaced-grown c s here.spaced (omega (arith, ahead, ends)))

  -- too long
  pub long-end : (kept : List ℕ) (r : Result (Unit {0}) Full) → is_err r ≡ true → kept_if r kept ≡ fitting grown
      → (k : Result ℕ Refusal) → skip (book_of bs).ignores_case text end ≡ k → Inside end (length text) k
      → turned (book_of bs) text from grown found (behind (λ p. None) k) ≡ name_from (book_of bs) text from [] None 0 start (drop start text)
  long-end kept r long push k e i =
      let l = fits-none kept grown r long push in
      sym (long-turn (book_of bs) text from c found place end grown word ends refl (entry-long (book_of bs) grown (short-book bs form) spaced-on l)
      (grows-long (book_of bs) grown (short-book bs form) spaced-on l) k e i) ∙ here.alike

  -- the candidate has a byte, and what is kept is right for it
  module _ (kept : List ℕ) (r : Result (Unit {0}) Full) (fits : is_err r ≡ false) (push : kept_if r kept ≡ fitting grown) where
    pub kept-some : 0 < length kept
    kept-some = rw (fits-some kept grown r fits push) (extended-some c (take (end - place) (drop place text)) word-some)

    pub kept-ready : (after : Outlook) → KeptFor (book_of bs) grown after → KeptFor (book_of bs) kept after
    kept-ready after g = rw (fits-some kept grown r fits push) g

  -- kept
  module _ (kept : List ℕ) {entry : Option ℕ} (r : Result (Unit {0}) Full) (fits : is_err r ≡ false) (push : kept_if r kept ≡ fitting grown)
      (e : entry ≡ entry_of (book_of bs) kept) where
    pub next-turn : (n : Result (Option ℕ) Refusal) → n ≡ next_of (book_of bs) text end kept → Ahead end (length text) n
        → turned (book_of bs) text from kept (latest entry end found) n ≡ name_from (book_of bs) text from [] None 0 start (drop start text)
    next-turn n q a =
        let g = fits-some kept grown r fits push in
        rw (e, q) (sym (turn (book_of bs) text from c found place end kept word ends g (rw (← q) a)) ∙ here.alike)

    pub kept-good : end ≤ length text → Good start (length text) (latest entry end found)
    kept-good m = rw e (good-latest bs kept (fit 7) start (length text) end found (omega (arith, here.within, ahead)) m here.good)

    -- the search goes on at the next word
    pub searched-on : (p : ℕ) (after : Outlook) → KeptFor (book_of bs) kept after → end ≤ length text → Ok (Some p) ≡ next_of (book_of bs) text end kept → (end ≤ p) × (p ≤ length text)
        → Searched bs text from start p kept after (latest entry end found)
    searched-on p after k m q a = record {
      within = (omega (arith, here.within, ahead, a), a.1);
      spaced = rw (fits-some kept grown r fits push) spaced-on;
      alike = next-turn (Ok (Some p)) q a;
      ready = k;
      good = kept-good m;
    }
