-- Brackets: the bytes of their kinds, and what a byte of code does to the open ones, given by their closing bytes, the innermost first.
use Rattle.std.specs.Prelude.{ℕ, Bool, true, false, cond, ◌||◌, List, [], ◌∷◌, length, drop, eqb, ltb, Result, Ok, Err}
use Rattle.code.specs.declared.Bracket.{Bracket}
use Rattle.code.specs.declared.Bracket.TheVariants.{Round, Square, Curly, Angle}
use Rattle.code.specs.declared.BracketError.{BracketError}
use Rattle.code.specs.declared.BracketError.TheVariants.{Wrong, Deep}

-- "The bracket kinds carry their own opening and closing bytes."
abbrev pub opening_of : Bracket → ℕ
opening_of Round = 40
opening_of Square = 91
opening_of Curly = 123
opening_of Angle = 60

abbrev pub closing_of : Bracket → ℕ
closing_of Round = 41
closing_of Square = 93
closing_of Curly = 125
closing_of Angle = 62

-- "three bracket pairs": ( [ {
abbrev pub is_opening : ℕ → Bool
is_opening b = eqb b 40 || eqb b 91 || eqb b 123

-- ) ] }
abbrev pub is_closing : ℕ → Bool
is_closing b = eqb b 41 || eqb b 93 || eqb b 125

-- any of the six
abbrev pub is_bracket : ℕ → Bool
is_bracket b = is_opening b || is_closing b

-- the kind of an opening bracket
abbrev pub kind_of : ℕ → Bracket
kind_of b = cond (eqb b 40) Round (cond (eqb b 91) Square (cond (eqb b 123) Curly Angle))

-- the closing bracket of an opening one
abbrev pub closer : ℕ → ℕ
closer b = closing_of (kind_of b)

-- "nesting at most 256"
abbrev pub max_depth : ℕ
max_depth = 256

abbrev pub is_empty : List ℕ → Bool
is_empty [] = true
is_empty (s ∷ r) = false

-- the innermost open bracket is closed by b
abbrev pub top_is : ℕ → List ℕ → Bool
top_is b [] = false
top_is b (s ∷ r) = eqb s b

-- what a byte of code does to the open brackets: they are now these, it is the 257th, or it closes none
pub data Brackets : Type 0 where
  held : List ℕ → Brackets
  deep : Brackets
  wrong : Brackets

-- row 13, "257th bracket open"
abbrev pub push : ℕ → List ℕ → Brackets
push b stack = cond (ltb (length stack) max_depth) (held (b ∷ stack)) deep

-- row 17, "closing bracket unmatched or wrong"
abbrev pub close : ℕ → List ℕ → Brackets
close b stack = cond (top_is b stack) (held (drop 1 stack)) wrong

-- `pop_delimiter` and its partner: a byte of code among the three pairs
unfoldable pub taken : List ℕ → ℕ → Brackets
taken stack b = cond (is_opening b) (push (closer b) stack) (cond (is_closing b) (close b stack) (held stack))

-- what a declared outcome tells, with the brackets that are open after it
abbrev pub outcome : Result (Unit {0}) BracketError → List ℕ → Brackets
outcome (Ok u) stack = held stack
outcome (Err Wrong) stack = wrong
outcome (Err Deep) stack = deep
