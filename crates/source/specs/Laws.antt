-- What is to hold of joining in C: it is translation phase 2, and breaks change nothing but the map. These are statements; their proofs are theorems of these types.
use Rattle.std.specs.Prelude.{ℕ, zero, suc, ◌+◌, ◌≤◌, ◌<◌, Bool, cond, ◌&&◌, ◌||◌, ◌≡◌, List, [], ◌∷◌, ◌++◌, map, length, get_or, eqb}
use Rattle.ascii.specs.Text.{padded}
use Rattle.refusal.specs.Answer.{given, max_length}
use Rattle.lexer.specs.declared.Language.TheVariants.{C}
use Rattle.lexer.specs.declared.Prefix.{Prefix}
use Rattle.source.specs.Joining.{joined_text, joined_map}
use Rattle.source.specs.Calls.{join_call}

-- Translation phase 2 by places, the joiner left aside: a byte goes exactly if it stands in a break, a backslash with the new-line right after it.

-- place i begins a break
abbrev pub breaks_at : List ℕ → ℕ → Bool
breaks_at line i = eqb (get_or line i 0) 92 && (eqb (get_or line (i + 1) 0) 10 || (eqb (get_or line (i + 1) 0) 13 && eqb (get_or line (i + 2) 0) 10))

-- place j stands in a break: its backslash, the byte after it, or the LF of a CR LF
abbrev pub is_deleted : List ℕ → ℕ → Bool
is_deleted line zero = breaks_at line zero
is_deleted line (suc zero) = breaks_at line 1 || breaks_at line 0
is_deleted line (suc (suc j)) = breaks_at line (suc (suc j)) || breaks_at line (suc j) || (breaks_at line j && eqb (get_or line (suc j) 0) 13)

-- the places from i on, n of them, that stay
unfoldable pub stays : List ℕ → ℕ → ℕ → List ℕ
stays line i zero = []
stays line i (suc n) = cond (is_deleted line i) (stays line (suc i) n) (i ∷ stays line (suc i) n)

abbrev pub JoinIsPhase2 : Type 0
JoinIsPhase2 = (line : List ℕ)
    → (joined_map C line ≡ stays line 0 (length line) ++ (length line ∷ []))
    × (joined_text C line ≡ map (λ i. get_or line i 0) (stays line 0 (length line)))

-- "A break is `\` LF or `\` CR LF."
pub data Break : Type 0 where
  lf crlf : Break

abbrev pub break_bytes : Break → List ℕ
break_bytes lf = 92 ∷ 10 ∷ []
break_bytes crlf = 92 ∷ 13 ∷ 10 ∷ []

-- a gap's list of breaks, "perhaps empty"
unfoldable pub gap_bytes : List Break → List ℕ
gap_bytes [] = []
gap_bytes (b ∷ bs) = break_bytes b ++ gap_bytes bs

-- "A text of n bytes has gaps 0 to n, before each byte and at the end": the text with the breaks of all its gaps
unfoldable pub broken : List ℕ → (ℕ → List Break) → List ℕ
unfolding gap_bytes
broken [] gap = gap_bytes (gap 0)
broken (x ∷ xs) gap = gap_bytes (gap 0) ++ (x ∷ broken xs (λ i. gap (suc i)))

-- "the bytes of all breaks in gaps 0 to i"
unfoldable pub broken_bytes : (ℕ → List Break) → ℕ → ℕ
unfolding gap_bytes
broken_bytes gap zero = length (gap_bytes (gap 0))
broken_bytes gap (suc i) = broken_bytes gap i + length (gap_bytes (gap (suc i)))

-- "Map entry i, 0 to n, is i plus the bytes of all breaks in gaps 0 to i": n entries from i on
unfoldable pub broken_map : (ℕ → List Break) → ℕ → ℕ → List ℕ
unfolding broken_bytes
broken_map gap i zero = []
broken_map gap i (suc n) = (i + broken_bytes gap i) ∷ broken_map gap (suc i) n

-- a C text of 7-bit bytes without CR and LF
abbrev pub IsPlain : List ℕ → Type 0
IsPlain t = (i : ℕ) → i < length t → (get_or t i 0 < 128) × ((get_or t i 0 ≡ 10 → ⊥) × (get_or t i 0 ≡ 13 → ⊥))

-- Demand 3 for join alone: whatever the breaks in all gaps together, joining gives the text, and the map where each byte now stands;
-- its last entry is the line's length. "Text and map must suffice for the broken line."
abbrev pub BreaksKeepText : Type 0
BreaksKeepText = (t : List ℕ) → IsPlain t → (gap : ℕ → List Break) (p : Prefix) (text_slots map_slots : ℕ)
    → length (broken t gap) ≤ max_length → length (broken t gap) ≤ text_slots → length (broken t gap) < map_slots
    → (join_call C p (broken t gap) text_slots map_slots
    ≡ record { answer = given (length t); text = padded 0 text_slots t; map = padded 0 map_slots (broken_map gap 0 (suc (length t))) })
    × (get_or (broken_map gap 0 (suc (length t))) (length t) 0 ≡ length (broken t gap))
