-- The book check: the first fault of a book, row 4 of the table.
use Rattle.std.specs.Prelude.{ℕ, Bool, false, cond, ◌||◌, List, [], ◌∷◌, ◌++◌}
use Rattle.std.specs.Prelude.{Option, Some, None}
use Rattle.ascii.specs.Ascii.{fold}
use Rattle.ascii.specs.Text.{same_by}
use Rattle.refusal.specs.Answer.{Answer, given, unless_fault}
use Rattle.refusal.specs.declared.Reason.TheVariants.{WrongBook}
use Rattle.refusal.specs.Verdict.{Verdict, fault_by}
use Rattle.bookform.specs.declared.Expect.TheVariants.{HeaderByte}
use Rattle.bookform.specs.Format.{bad_from}
use Rattle.rulebook.specs.Book.{Entry, book_of}

-- an entry has the name, by a comparison
unfoldable pub is_named : (ℕ → ℕ) → List ℕ → List Entry → Bool
unfolding same_by
is_named f name [] = false
is_named f name (e ∷ es) = same_by f e.name name || is_named f name es

-- "the first byte of the first entry that repeats an earlier name", "equal ignoring case"
unfoldable pub repeat_from : List Entry → List Entry → Option ℕ
unfolding is_named
repeat_from earlier [] = None
repeat_from earlier (e ∷ es) = cond (is_named fold e.name earlier) (Some e.at) (repeat_from (earlier ++ (e ∷ [])) es)

abbrev pub or_else : Option ℕ → Option ℕ → Option ℕ
or_else None b = b
or_else (Some p) b = Some p

-- row 4: "first bad byte, its end if cut; with no such fault, the first byte of the first entry that repeats an earlier name".
-- "No two directive names, and no two clause names, are equal": the two kinds apart. "A book is valid if row 4 of the table finds nothing in it."
unfoldable pub book_fault : List ℕ → Option ℕ
unfolding bad_from book_of repeat_from
book_fault bs = or_else (bad_from (HeaderByte 0) 0 bs) (or_else (repeat_from [] (book_of bs).directives) (repeat_from [] (book_of bs).clauses))

-- the check: valid, or refusal 4 at the fault
unfoldable pub book_verdict : List ℕ → Verdict
unfolding book_fault
book_verdict bs = fault_by WrongBook (book_fault bs)

-- the call
unfoldable pub book_call : List ℕ → Answer (Unit {0})
unfolding book_fault
book_call bs = unless_fault 4 (book_fault bs) (given tt)
