-- From which places of a text on nothing is unclosed, told from the back of the text: a matter of speed, no rule of document 01.
use Rattle.std.specs.Prelude.{ℕ, zero, suc, ◌+◌, ◌*◌, ◌/◌, ◌≤◌, ◌<◌, ◌≡◌, Bool, true, false, cond, not, ◌&&◌, List, eqb, length, drop, get_or}
use Rattle.std.specs.Prelude.{Option, Some, None, is_none, take}
use Rattle.std.specs.List.{list_all}
use Rattle.ascii.specs.Ascii.{is_eol}
use Rattle.ascii.specs.Text.{up_to}
use Rattle.code.specs.declared.CommentStyle.{CommentStyle}
use Rattle.code.specs.declared.Flags.{Flags}
use Rattle.code.specs.declared.Near.{Near}
use Rattle.code.specs.declared.MarkBits.{MarkBits}
use Rattle.code.specs.Code.{more, literal, block_end, is_plain, scan_at}

-- behind a text nothing is unclosed but what is open already
abbrev pub past_end : Flags
past_end = record { code = true; single = false; double = false; block = false; line = true }

module _ (style : CommentStyle) (text : List ℕ) where
  -- from a place on nothing is unclosed, where the place stands in code
  unfoldable pub clean : ℕ → Bool
  clean at = is_none (scan_at style text at).fault

  -- from where something ends on; what has no end is unclosed itself
  abbrev pub ends_clean : Option ℕ → Bool
  ends_clean None = false
  ends_clean (Some p) = clean p

  -- the same where the place stands inside a literal in q, a block comment, a line comment
  abbrev pub quote_clean : ℕ → ℕ → Bool
  quote_clean q at = ends_clean (more at (literal style q 0 (drop at text)))

  abbrev pub block_clean : ℕ → Bool
  block_clean at = ends_clean (more at (block_end (drop at text)))

  abbrev pub line_clean : ℕ → Bool
  line_clean at = clean (at + up_to is_eol (drop at text))

  -- all five
  unfoldable pub flags_at : ℕ → Flags
  unfolding clean
  flags_at at = record { code = clean at; single = quote_clean 39 at; double = quote_clean 34 at; block = block_clean at; line = line_clean at }

  -- the marks of n places from a place on as one number, the first in the lowest bit: 1 where nothing is unclosed
  abbrev pub marks_from : ℕ → ℕ → ℕ
  marks_from at zero = 0
  marks_from at (suc n) = cond (clean at) 1 0 + 2 * marks_from (suc at) n

  -- the flags of a place and of the one behind it
  abbrev pub near_at : ℕ → Near
  near_at at = record { one = flags_at at; two = flags_at (at + 1) }

  -- the marks of n places from a place on, with the flags there
  abbrev pub marked_from : ℕ → ℕ → MarkBits
  marked_from at n = record { bits = marks_from at n; near = near_at at }

  -- a number for each 32 places, up to the text's end
  pub record Marked (marks : List ℕ) : Type 0 where
    pub size : length text / 32 < length marks
    pub cells : (k : ℕ) → k ≤ length text / 32 → get_or marks k 0 ≡ marks_from (32 * k) 32

-- a byte that begins, ends and hides nothing: before it and behind it the same is unclosed, wherever it stands
abbrev pub is_dull : ℕ → Bool
is_dull b = is_plain b && not (eqb b 92) && not (eqb b 42) && not (is_eol b)

-- n bytes from a place on are dull
abbrev pub dulls : List ℕ → ℕ → ℕ → Bool
dulls text at n = list_all is_dull (take n (drop at text))
