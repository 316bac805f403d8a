-- Each question of a byte is answered by its class: one statement, evaluated over all 256 bytes, and what it says of each question.
-- Assumes nothing.
use mathlib.Core.Path.{◌≡◌, refl, sym, ap, ◌∙◌}
use mathlib.Core.Bool.{Bool, true, false, ◌&&◌, true≢false}
use mathlib.Core.List.{List, [], ◌∷◌}
use Prim.Native.Nat.{ℕ, ◌<◌, ◌≤◌}
use native.Mathlib.Omega.{arith}
use lib.ListN.{get_or}
use lib.Dec.{eqb, leb, ltb}
use borrow.Author.Tests.{lt-ltb, le-leb, leb-true}
use Rattle.ascii.specs.Ascii.{within, class_of, is_trimmed, is_space, is_blank, is_eol, is_digit, is_word}
use Rattle.ascii.proofs.Table.{agree, values}

-- the questions by class k
abbrev by_class : ℕ → List Bool
by_class k = within 1 4 k ∷ within 1 3 k ∷ within 1 1 k ∷ eqb k 2 ∷ eqb k 5 ∷ leb 5 k ∷ []

-- the questions as document 01 puts them
abbrev by_byte : ℕ → List Bool
by_byte b = is_trimmed b ∷ is_space b ∷ is_blank b ∷ is_eol b ∷ is_digit b ∷ is_word b ∷ []

evaluated : values (λ b. by_class (class_of b)) 0 256 ≡ values by_byte 0 256
unfolding class_of
evaluated = refl

-- question q of a byte
pub told : (q b : ℕ) → b < 256 → get_or (by_class (class_of b)) q false ≡ get_or (by_byte b) q false
told q b h = ap (λ l. get_or l q false) (agree (λ b. by_class (class_of b)) by_byte 256 evaluated b h)

-- no byte above the blank is of a class of white space
none-above : values (λ b. ltb 32 b && within 1 4 (class_of b)) 0 256 ≡ values (λ b. false) 0 256
unfolding class_of
none-above = refl

pub white-none : (last b : ℕ) → b < 256 → 32 < b → last ≤ 4 → within 1 last (class_of b) ≡ false
white-none last b h above l = go (leb 1 (class_of b)) refl (leb (class_of b) last) refl
  where
    none : within 1 4 (class_of b) ≡ false
    none = rw (lt-ltb 32 b above) at (agree (λ b. ltb 32 b && within 1 4 (class_of b)) (λ b. false) 256 none-above b h)

    go : (m : Bool) → leb 1 (class_of b) ≡ m → (n : Bool) → leb (class_of b) last ≡ n → within 1 last (class_of b) ≡ false
    go false e n f = rw e
    go true e false f = rw (e, f)
    go true e true f =
        let k = leb-true (class_of b) last f in
        absurd (true≢false (sym (rw (e, le-leb (class_of b) 4 (omega arith))) ∙ none))
