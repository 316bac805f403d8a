-- The parenthesis that matches an open one.
use Rattle.std.specs.Prelude.{ℕ, zero, ◌≤◌, ◌<◌, cond, List, [], ◌∷◌, Option, Some, None, Result, Ok, Err}
use Rattle.code.specs.declared.CommentStyle.{CommentStyle}
use Rattle.code.specs.declared.Unclosed.{Unclosed}
use Rattle.code.specs.declared.Unclosed.TheVariants.{Quote, Comment}
use Rattle.code.specs.declared.NoMatch.{NoMatch}
use Rattle.code.specs.declared.NoMatch.TheVariants.{Unmatched, DeepAt}
use Rattle.code.specs.Code.{CodeByte, Scan, scan_from}
use Rattle.code.specs.Bracket.{is_empty, Brackets, held, deep, wrong, taken}

-- where an open parenthesis is closed, or why nowhere
abbrev pub Match : Type 0
Match = Result ℕ NoMatch

-- the match once the byte at a place has done this to the open brackets; more gives it where some are left
abbrev pub matched : Brackets → ℕ → (List ℕ → Match) → Match
matched (held stack) place more = cond (is_empty stack) (Ok place) (more stack)
matched deep place more = Err (DeepAt place)
matched wrong place more = Err Unmatched

-- "brackets left to right with 13": the match of the outermost of the open brackets among the code bytes that follow
unfoldable pub match_from : List ℕ → List CodeByte → Match
unfolding taken
match_from stack [] = Err Unmatched
match_from stack (c ∷ cs) = matched (taken stack c.byte) c.place (λ left. match_from left cs)

-- "An order inside 12: scan errors, then brackets": a scan error anywhere in the rest leaves the parenthesis unmatched
abbrev pub unless_open : Option Unclosed → Match → Match
unless_open None m = m
unless_open (Some (Quote p)) m = Err Unmatched
unless_open (Some (Comment p)) m = Err Unmatched

abbrev pub match_in : Scan → Match
match_in s = unless_open s.fault (match_from (41 ∷ []) s.codes)

-- `find_matching_parenthesis`: the match of an opening parenthesis just before a text that stands at place at; "a clause's own counts"
unfoldable pub matching : CommentStyle → ℕ → List ℕ → Match
unfolding scan_from match_from
matching style at xs = match_in (scan_from style zero at xs)

-- a match lies behind the open parenthesis, within a text of n bytes
abbrev pub Closes : ℕ → ℕ → Match → Type 0
Closes at n (Ok p) = (at ≤ p) × (p < n)
Closes at n (Err Unmatched) = Unit {0}
Closes at n (Err (DeepAt p)) = (at ≤ p) × (p < n)
