-- Continuations of a physical line, and the sentinels of Fortran.
use Rattle.std.specs.Prelude.{ℕ, zero, suc, ◌+◌, ◌≤◌, max, Bool, false, cond, not, ◌&&◌, ◌||◌, ◌≡◌, List, length, drop, get_or, eqb, ltb, Option, None, Some}
use Rattle.ascii.specs.Ascii.{is_blank, is_eol, fold}
use Rattle.ascii.specs.Text.{bytes, starts, leading, begins}
use Rattle.lexer.specs.declared.Language.{Language}
use Rattle.lexer.specs.declared.Language.TheVariants.{C, FortranFree, FortranFixed}
use Rattle.lexer.specs.declared.Prefix.{Prefix}
use Rattle.lexer.specs.declared.Prefix.TheVariants.{Omp, Acc}

-- a number of bytes as the code answers with it: nothing for 0, where what the number is of is absent
abbrev pub if_any : ℕ → Option ℕ
if_any zero = None
if_any (suc n) = Some (suc n)

-- "prefix `omp` or `acc`"
abbrev pub prefix_bytes : Prefix → List ℕ
prefix_bytes Omp = bytes "omp"
prefix_bytes Acc = bytes "acc"

-- "A break is `\` LF or `\` CR LF": the bytes of the one that a text begins with, or 0 (`skip_c_line_continuation`)
unfoldable pub break_c : List ℕ → ℕ
break_c xs =
    cond (eqb (get_or xs 0 0) 92 && eqb (get_or xs 1 0) 10) 2
    (cond (eqb (get_or xs 0 0) 92 && eqb (get_or xs 1 0) 13 && eqb (get_or xs 2 0) 10) 3 0)

-- a text begins with `!$`, `c$` or `*$`, case ignored
abbrev pub marked : List ℕ → Bool
marked xs = (eqb (get_or xs 0 0) 33 || eqb (fold (get_or xs 0 0)) 99 || eqb (get_or xs 0 0) 42) && eqb (get_or xs 1 0) 36

-- `match_fortran_sentinel_with_prefix`: the bytes of the sentinel that a text begins with, case ignored, or 0:
-- `!$`, `c$` or `*$` with the prefix behind it, or alone
unfoldable pub sentinel : Prefix → List ℕ → ℕ
sentinel p xs = cond (marked xs) (cond (begins fold (prefix_bytes p) (drop 2 xs)) 5 2) 0

-- the first sentinel of a line: `!$` alone in free form (`lex_fortran_free_sentinel_with_prefix`), all three in fixed form; C has none
abbrev pub opening_sentinel : Language → Prefix → List ℕ → ℕ
opening_sentinel C p xs = 0
opening_sentinel FortranFree p xs = cond (starts 33 xs) (sentinel p xs) 0
opening_sentinel FortranFixed p xs = sentinel p xs

-- the text is over, or goes on with a blank, `&` or an end of line
abbrev pub is_boundary : List ℕ → Bool
is_boundary xs = eqb (length xs) 0 || is_blank (get_or xs 0 0) || eqb (get_or xs 0 0) 38 || is_eol (get_or xs 0 0)

-- `match_fortran_continuation_sentinel_with_prefix`: a sentinel counts only before a boundary
unfoldable pub sentinel_ended : Prefix → List ℕ → ℕ
sentinel_ended p xs = cond (is_boundary (drop (sentinel p xs) xs)) (sentinel p xs) 0

-- `match_fortran_continuation_sentinel`: of either prefix, the longer
unfoldable pub sentinel_any : List ℕ → ℕ
sentinel_any xs = max (sentinel_ended Omp xs) (sentinel_ended Acc xs)

-- the bytes of the end of line that a text begins with, or 0: LF, CR LF, or a lone CR
unfoldable pub eol : List ℕ → ℕ
eol xs = cond (starts 10 xs) 1 (cond (starts 13 xs) (cond (eqb (get_or xs 1 0) 10) 2 1) 0)

-- the bytes of a comment up to the end of line, or 0
unfoldable pub comment_f : List ℕ → ℕ
comment_f xs = cond (starts 33 xs) (leading (λ b. not (is_eol b)) xs) 0

-- the bytes of blanks and an `&` behind them, or 0
unfoldable pub marker : List ℕ → ℕ
marker xs = cond (starts 38 (drop (leading is_blank xs) xs)) (leading is_blank xs + 1) 0

-- `skip_fortran_continuation`, the next line: its indentation and sentinel go, and a leading `&` with the blanks before it; or that `&` alone
unfoldable pub lead : List ℕ → ℕ
lead xs =
    let k = leading is_blank xs in
    let n = sentinel_any (drop k xs) in
    cond (ltb 0 n) (k + n + marker (drop (k + n) xs)) (marker xs)

-- up to the end of the n bytes that stand after `&` nothing goes unless an end of line stands there
abbrev pub ended : List ℕ → ℕ → ℕ
ended xs n = cond (ltb 0 (eol (drop n xs))) (n + eol (drop n xs) + lead (drop (n + eol (drop n xs)) xs)) 0

-- the bytes of `&` and the blanks behind it
abbrev pub tailed : List ℕ → ℕ
tailed xs = 1 + leading is_blank (drop 1 xs)

-- "Fortran: `skip_fortran_continuation`": the bytes of the continuation that a text begins with, or 0:
-- `&`, blanks, a comment, the end of line, and what goes of the next line
unfoldable pub break_f : List ℕ → ℕ
break_f xs = cond (starts 38 xs) (ended xs (tailed xs + comment_f (drop (tailed xs) xs))) 0

-- from a place on no byte ends a line, which is a matter of speed
pub record Unended (xs : List ℕ) (from : ℕ) : Type 0 where
  pub none : (j : ℕ) → from ≤ j → is_eol (get_or xs j 0) ≡ false
