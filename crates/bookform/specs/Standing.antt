-- Entries whose form is right, as they are passed at once: what the quick steps of the check tell. What the form is, Format says.
use Rattle.std.specs.Prelude.{ℕ, suc, ◌+◌, ◌-◌, ◌<◌, ◌≤◌, Bool, true, not, ◌&&◌, ◌||◌, ◌≡◌, List, length, drop, get_or, eqb}
use Rattle.ascii.specs.Ascii.{is_word}
use Rattle.bookform.specs.declared.EntryKind.{EntryKind}
use Rattle.bookform.specs.declared.EntryKind.TheVariants.{Directive, Clause}
use Rattle.bookform.specs.declared.Expect.{Expect}
use Rattle.bookform.specs.Format.{is_length, clauses_left, directives_left, bad_from}

-- a byte may stand in a name behind another: it is of a word, or it is the one that stands between words, and the other is of a word
abbrev pub stands : ℕ → ℕ → ℕ → Bool
stands between before b = is_word b || eqb b between && is_word before

-- a byte of a name: of a word, or the one that stands between words
abbrev pub is_of_name : ℕ → ℕ → Bool
is_of_name between b = is_word b || eqb b between

-- a byte may stand behind one of a name: it is of a word, or it is the one between words and the other is not
abbrev pub stands_behind : ℕ → ℕ → ℕ → Bool
stands_behind between before b = is_word b || eqb b between && not (eqb before between)

-- each byte from a place up to another may stand behind the one before it
abbrev pub Standing : ℕ → List ℕ → ℕ → ℕ → Type 0
Standing between bs from to = (i : ℕ) → from ≤ i → i < to → stands between (get_or bs (i - 1) 0) (get_or bs i 0) ≡ true

-- the same as it is asked: where the byte before the first of them is of a name, so is each, and each may stand
abbrev pub Behind : ℕ → List ℕ → ℕ → ℕ → Type 0
Behind between bs from to = (i : ℕ) → from ≤ i → i < to → stands_behind between (get_or bs (i - 1) 0) (get_or bs i 0) ≡ true

-- a name between two places: it begins and ends with a byte of a word
pub record IsName (between start end : ℕ) (bs : List ℕ) : Type 0 where
  pub first : is_word (get_or bs start 0) ≡ true
  pub inner : Standing between bs (start + 1) end
  pub last : is_word (get_or bs (end - 1) 0) ≡ true

-- a length byte at a place, and behind it a name that ends with the book at the latest
pub record NameEnds (between place end : ℕ) (bs : List ℕ) : Type 0 where
  pub sized : is_length (get_or bs place 0) ≡ true
  pub ends : end ≡ place + 1 + get_or bs place 0
  pub within : end ≤ length bs
  pub name : IsName between (place + 1) end bs

-- what is waited for where n entries of a kind are to come, directives with c clauses behind them, or clauses
abbrev pub waits : EntryKind → ℕ → ℕ → Expect
waits Directive n c = directives_left n c
waits Clause n c = clauses_left n

-- an entry from a place up to another is passed: the first bad byte is that of what comes behind
pub record Passed (kind : EntryKind) (at end : ℕ) (bs : List ℕ) : Type 0 where
  pub within : end ≤ length bs
  pub same : (n c : ℕ) → bad_from (waits kind (suc n) c) at (drop at bs) ≡ bad_from (waits kind n c) end (drop end bs)
