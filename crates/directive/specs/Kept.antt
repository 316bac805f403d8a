-- What is kept from word to word of a line: the names that are left, and what was foreseen without blanks.
use Rattle.std.specs.Prelude.{ℕ, ◌≤◌, ◌≡◌, Bool, true, List, length, take, Option, Some, None, is_some}
use Rattle.rulebook.specs.Book.{Book}
use Rattle.directive.specs.declared.foreseen.Foreseen.{Foreseen}
use Rattle.directive.specs.declared.outlook.Outlook.{Outlook}
use Rattle.directive.specs.Name.{compact, extended}
use Rattle.directive.specs.Steps.{Left, Counted}

-- what was foreseen tells of a candidate: its letters are the first of those that were gathered
pub record Foretells (book : Book) (c : List ℕ) (f : Foreseen) : Type 0 where
  pub fits : length f.letters ≤ 128
  pub within : f.reached ≤ length f.letters
  pub same : compact c ≡ take f.reached f.letters
  pub counted : Counted book f.letters f.heads f.ends

-- a word was passed, if it is the next of the letters
abbrev pub Passes : Foreseen → Foreseen → List ℕ → Bool → Type 0
Passes old new word passed = passed ≡ true → (book : Book) (c : List ℕ) → Foretells book c old → Foretells book (extended c word) new

-- what is foreseen for a candidate, if anything is
abbrev pub IfForeseen : Book → List ℕ → Option Foreseen → Type 0
IfForeseen book c None = Unit {0}
IfForeseen book c (Some f) = Foretells book c f

-- the candidate's own letters, if anything is foreseen for it, are among those that were gathered
abbrev pub Within : Option Foreseen → Type 0
Within None = Unit {0}
Within (Some f) = f.reached ≤ length f.letters

-- what is kept from word to word is that of a candidate
pub record KeptFor (book : Book) (c : List ℕ) (o : Outlook) : Type 0 where
  pub left : Left book c o.left
  pub foreseen : IfForeseen book c o.foreseen

-- Where blanks are optional, something is foreseen once a candidate was asked for that has no entry.
abbrev pub Asked : Book → Option ℕ → Outlook → Type 0
Asked book entry o = entry ≡ None → book.optional_blanks ≡ true → is_some o.foreseen ≡ true
