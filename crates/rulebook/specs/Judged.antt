-- A book as its check leaves it: valid, or refused by row 4.
use Rattle.std.specs.Prelude.{ℕ, ◌≡◌, List, Some, Result, Ok, Err, MatchResult}
use denote.Struct.Props as logic
use Rattle.refusal.specs.declared.Reason.TheVariants.{WrongBook}
use Rattle.refusal.specs.declared.Refusal.{Refusal}
use Rattle.refusal.specs.Verdict.{refusal_at}
use Rattle.rulebook.specs.Check.{book_fault}
use Rattle.rulebook.specs.declared.CheckedBook.{CheckedBook}

abbrev pub Judged : List ℕ → Result CheckedBook Refusal → Type 0
Judged book result = MatchResult result (λ b. b.bytes.now ≡ book) (λ r. (r ≡ refusal_at WrongBook r.place) × (book_fault book ≡ Some r.place))

-- that has one proof at most, so it may be a ghost field
pub Judged-prop : (book : List ℕ) (r : Result CheckedBook Refusal) → IsProp (Judged book r)
Judged-prop book (Ok b) = Prim.hlevel logic.props
Judged-prop book (Err r) = Prim.hlevel logic.props
