-- Texts as lists of bytes: leading runs, trimming, comparing, and what is left in lent slots.
use Rattle.std.specs.Prelude.{ℕ, zero, suc, ◌+◌, ◌-◌, Bool, true, false, cond, not, ◌&&◌, List, [], ◌∷◌, ◌++◌, reverse, length, take, drop, get_or, replicate, eqb, ltb}
use Prim.Native.Char.{code}
use Prim.Native.String as S
use Rattle.std.specs.Prelude.{Option, Some, None}
use Rattle.ascii.specs.declared.Range.{Range}
use Rattle.ascii.specs.Ascii.{is_trimmed, is_eol, fold, exactly}

-- the bytes of a quoted text
abbrev pub bytes : S.String → List ℕ
bytes S.String.[] = []
bytes (S.String.◌∷◌ c s) = code c ∷ bytes s

-- a text begins with byte b, which is not 0: past the end a look-ahead reads 0
abbrev pub starts : ℕ → List ℕ → Bool
starts b xs = eqb (get_or xs 0 0) b

-- the number of leading bytes with the property
unfoldable pub leading : (ℕ → Bool) → List ℕ → ℕ
leading p [] = zero
leading p (x ∷ xs) = cond (p x) (suc (leading p xs)) zero

-- the same with the byte behind them, if there is one
abbrev pub past : (ℕ → Bool) → List ℕ → ℕ
past p xs = leading p xs + cond (ltb (leading p xs) (length xs)) 1 0

-- the byte at a place and the n behind it have the property
abbrev pub all_from : (ℕ → Bool) → List ℕ → ℕ → ℕ → Bool
all_from p xs at zero = p (get_or xs at 0)
all_from p xs at (suc n) = all_from p xs at n && p (get_or xs (at + suc n) 0)

-- the number of bytes up to and with the first that has the property, or all
unfoldable pub up_to : (ℕ → Bool) → List ℕ → ℕ
up_to p [] = zero
up_to p (x ∷ xs) = cond (p x) 1 (suc (up_to p xs))

-- the bytes of a range: "handed back as a part of the caller's own text"
abbrev pub part : List ℕ → Range → List ℕ
part xs r = take (r.end - r.start) (drop r.start xs)

-- nothing but bytes that trimming takes
abbrev pub is_blank_text : List ℕ → Bool
is_blank_text xs = eqb (leading is_trimmed xs) (length xs)

-- "Trim takes 9 to 13 and 32 and refuses nothing": the range that is left of a text whose first byte stands at place at.
-- Of a blank text it is the empty one at the start ("blank content starts and ends just after `(`").
unfoldable pub trimmed : ℕ → List ℕ → Range
unfolding leading
trimmed at xs =
    cond (is_blank_text xs)
    (record { start = at; end = at })
    (record { start = at + leading is_trimmed xs; end = at + length xs - leading is_trimmed (reverse xs) })

-- a part of a lent text: where its first byte stands, by the block of memory and the place in it, and its bytes
pub record LentPart : Type 0 where
  pub at : ℕ × ℕ
  pub bytes : List ℕ

-- the call on a text that stands at a place: "handed back as a part of the caller's own text", of a blank text too
abbrev pub trim_call : ℕ × ℕ → List ℕ → LentPart
trim_call p text = record { at = (p.0, (trimmed 0 text).start + p.1); bytes = part text (trimmed 0 text) }

-- two texts agree, byte for byte, once each byte is passed through f (fold ignores case)
unfoldable pub same_by : (ℕ → ℕ) → List ℕ → List ℕ → Bool
same_by f [] [] = true
same_by f [] (y ∷ ys) = false
same_by f (x ∷ xs) [] = false
same_by f (x ∷ xs) (y ∷ ys) = eqb (f x) (f y) && same_by f xs ys

-- xs begins with p once each byte is passed through f: nom's `tag`, "match exactly those bytes"
unfoldable pub begins : (ℕ → ℕ) → List ℕ → List ℕ → Bool
begins f [] xs = true
begins f (p ∷ ps) [] = false
begins f (p ∷ ps) (x ∷ xs) = eqb (f p) (f x) && begins f ps xs

-- "byte above 127, the first": its place in a text whose first byte stands at place at
unfoldable pub first_high : ℕ → List ℕ → Option ℕ
first_high at [] = None
first_high at (x ∷ xs) = cond (ltb 127 x) (Some at) (first_high (suc at) xs)

-- lent slots after a call: what is given first, the zero of their kind in all others
abbrev pub padded : {A : Type 0} → A → ℕ → List A → List A
padded z size xs = xs ++ replicate (size - length xs) z

-- how bytes compare: with case ignored or not
abbrev pub comparing : Bool → ℕ → ℕ
comparing ignore_case = cond ignore_case fold exactly

-- any byte but LF and CR
abbrev pub is_in_line : ℕ → Bool
is_in_line b = not (is_eol b)
