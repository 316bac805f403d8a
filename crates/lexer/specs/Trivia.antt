-- Trivia: white space, continuations and comments between words (`skip_language_trivia`).
use Rattle.std.specs.Prelude.{ℕ, zero, suc, ◌+◌, ◌<◌, ◌≤◌, Bool, true, false, cond, not, ◌&&◌, ◌||◌, List, [], ◌∷◌, ◌≡◌, drop, get_or, eqb, ltb, Option, Some, None, Result, Ok, Err}
use Rattle.ascii.specs.Ascii.{is_space}
use Rattle.ascii.specs.Text.{up_to}
use Rattle.code.specs.Code.{block_end, more}
use Rattle.refusal.specs.declared.Reason.TheVariants.{UnclosedComment}
use Rattle.refusal.specs.declared.Refusal.{Refusal}
use Rattle.refusal.specs.Verdict.{refusal_at}
use Rattle.lexer.specs.declared.trivia.NoEnd.{NoEnd}
use Rattle.lexer.specs.Continuation.{break_c, break_f}

abbrev pub is_line_feed : ℕ → Bool
is_line_feed b = eqb b 10

-- `skip_space_and_comments`: the bytes of trivia of C that a text begins with, 0 for none at all, and none where it is a comment without an end.
-- A `//` comment ends at LF only.
unfoldable pub trivia_c : List ℕ → Option ℕ
trivia_c xs =
    cond (ltb 0 (break_c xs)) (Some (break_c xs))
    (cond (is_space (get_or xs 0 0)) (Some 1)
    (cond (eqb (get_or xs 0 0) 47 && eqb (get_or xs 1 0) 42) (more 2 (block_end (drop 2 xs)))
    (cond (eqb (get_or xs 0 0) 47 && eqb (get_or xs 1 0) 47) (Some (2 + up_to is_line_feed (drop 2 xs)))
    (Some 0))))

-- `skip_fortran_space_and_comments`: the same of Fortran. Every `!` begins a comment, `!$` too; it ends at LF only, so that none is without an end.
unfoldable pub trivia_f : List ℕ → ℕ
trivia_f xs =
    cond (ltb 0 (break_f xs)) (break_f xs)
    (cond (is_space (get_or xs 0 0)) 1
    (cond (eqb (get_or xs 0 0) 33) (1 + up_to is_line_feed (drop 1 xs))
    0))

-- "bit 0 ignore case and use Fortran trivia"
abbrev pub trivia_of : Bool → List ℕ → Option ℕ
trivia_of false xs = trivia_c xs
trivia_of true xs = Some (trivia_f xs)

-- the place after all trivia of a text that stands at place at, once k bytes are passed over; row 8, "comment unclosed in trivia", at the comment
unfoldable pub skip_from : Bool → ℕ → ℕ → List ℕ → Result ℕ Refusal
skip_from f zero at [] = Ok at
skip_from f (suc k) at [] = Ok at
skip_from f (suc k) at (x ∷ xs) = skip_from f k (suc at) xs
skip_from f zero at (x ∷ xs) =
    elim (trivia_of f (x ∷ xs)) [ None ↦ Err (refusal_at UnclosedComment at) | Some n ↦ elim n [ zero ↦ Ok at | suc k ↦ skip_from f k (suc at) xs ] ]

-- trivia from a place of a text
unfoldable pub skip : Bool → List ℕ → ℕ → Result ℕ Refusal
skip f text at = skip_from f zero at (drop at text)

-- the place of either answer is not before at, and not past n bytes
abbrev pub Inside : ℕ → ℕ → Result ℕ Refusal → Type 0
Inside at n (Ok p) = (at ≤ p) × (p ≤ n)
Inside at n (Err r) = (at ≤ r.place) × (r.place ≤ n)

-- trivia of a text as the code answers with it: nothing where there is none, and an error where a comment has no end
abbrev pub Stretch : Option ℕ → Result (Option ℕ) NoEnd → Type 0
Stretch t (Ok o) = t ≡ Some (elim o [ None ↦ 0 | Some n ↦ n ])
Stretch t (Err e) = t ≡ None

-- trivia that there is has a byte at least, and does not reach past the n bytes of its text
abbrev pub Fits : ℕ → Result (Option ℕ) NoEnd → Type 0
Fits n (Ok (Some k)) = (0 < k) × (k ≤ n)
Fits n (Ok None) = Unit {0}
Fits n (Err e) = Unit {0}

-- a byte with which no trivia of either language begins, and no control: a matter of speed
abbrev pub no_trivia : ℕ → Bool
no_trivia b = ltb 32 b && not (eqb b 33 || eqb b 38 || eqb b 47 || eqb b 92)
