-- Laws of the list of open brackets as an array and a depth hold it, and of bytes that are no brackets.
-- Assumes nothing.
use mathlib.Core.Path.{◌≡◌, refl, ap, sym, ◌∙◌}
use mathlib.Core.List.{List, [], ◌∷◌}
use mathlib.Core.Bool.{false}
use Prim.Native.Nat.{ℕ, zero, suc, ◌+◌, ◌-◌, ◌≤◌, ◌<◌}
use native.Mathlib.Omega.{arith}
use native.Mathlib.Numerals.{add-one}
use lib.ListN.{length, set, get_or, replicate, drop}
use lib.Seq.{get_or-set_same, get_or-set_other}
use Rattle.std.proofs.lemmas.List.{set-get_or, set-set}
use Rattle.ascii.proofs.Flags.{or-none}
use Rattle.code.specs.Bracket.{is_opening, is_closing, is_bracket, max_depth, held, taken}
use Rattle.code.specs.Stack.{stacked, array_of, length-stacked}

-- a store above leaves the stack
stacked-set : (ks : List ℕ) (i v d : ℕ) → d ≤ i → stacked (set ks i v) d ≡ stacked ks d
stacked-set ks i v zero h = refl
stacked-set ks i v (suc d) h = rw (get_or-set_other ks i d v 0 (omega arith), stacked-set ks i v d (omega arith))

-- a store at the depth, counted in, is a push
pub stacked-push : (ks : List ℕ) (d v : ℕ) → d < length ks → stacked (set ks d v) (d + 1) ≡ v ∷ stacked ks d
stacked-push ks d v h = rw (add-one d, get_or-set_same ks d v 0 h, stacked-set ks d v d (omega arith))

-- zeros are zero, also past the end
get_or-zeros : (n i : ℕ) → ◌≡◌ {A = ℕ} (get_or (replicate n 0) i 0) 0
get_or-zeros zero i = refl
get_or-zeros (suc n) zero = refl
get_or-zeros (suc n) (suc i) = get_or-zeros n i

-- past the open brackets the array is zero
array-past : (stack : List ℕ) (i : ℕ) → length stack ≤ i → get_or (array_of stack) i 0 ≡ 0
array-past [] i h = get_or-zeros max_depth i
array-past (b ∷ r) i h = rw (get_or-set_other (array_of r) (length r) i b 0 (omega arith), array-past r i (omega arith)) refl

-- a push leaves zeros past the depth
pub array-push : (ks : List ℕ) (d v : ℕ) → d < length ks → ks ≡ array_of (stacked ks d) → set ks d v ≡ array_of (stacked (set ks d v) (d + 1))
array-push ks d v h e = rw (stacked-push ks d v h, length-stacked ks d) (ap (λ (l : List ℕ). set l d v) e)

-- a zero in the place below the depth, which is counted out, is a pop
pub stacked-pop : (ks : List ℕ) (d : ℕ) → 0 < d → stacked (set ks (d - 1) 0) (d - 1) ≡ drop 1 (stacked ks d)
stacked-pop ks zero h = absurd (omega arith)
stacked-pop ks (suc d) h = let one : suc d - 1 ≡ d = omega arith in rw one (stacked-set ks d 0 d (omega arith))

-- it leaves zeros past the depth
pub array-pop : (ks : List ℕ) (d : ℕ) → 0 < d → ks ≡ array_of (stacked ks d) → set ks (d - 1) 0 ≡ array_of (stacked (set ks (d - 1) 0) (d - 1))
array-pop ks zero h e = absurd (omega arith)
array-pop ks (suc d) h e =
    let one : suc d - 1 ≡ d = omega arith in
    let below : List ℕ = array_of (stacked ks d) in
    let clear : get_or below d 0 ≡ 0 = array-past (stacked ks d) d (omega (arith, length-stacked ks d)) in
    let was : ks ≡ set below d (get_or ks d 0) = e ∙ ap (λ (n : ℕ). set below n (get_or ks d 0)) (length-stacked ks d) in
    let back : set below d 0 ≡ below = ap (λ (n : ℕ). set below d n) (sym clear) ∙ set-get_or below d 0 in
    rw one (ap (λ (l : List ℕ). set l d 0) was ∙ set-set below d (get_or ks d 0) 0 ∙ back ∙ ap array_of (sym (stacked-set ks d 0 d (omega arith))))

-- a byte of none of the three pairs leaves the open brackets
pub taken-plain : (stack : List ℕ) (b : ℕ) → is_bracket b ≡ false → taken stack b ≡ held stack
unfolding taken
taken-plain stack b e = let n = or-none (is_opening b) (is_closing b) e in rw (n.0, n.1) refl
