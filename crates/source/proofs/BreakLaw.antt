-- Line breaks in a C text do not change what is joined, and the map says where each byte stands: a broken text is woven, and its
-- places follow gap by gap. Assumes nothing.
use Prim.Native.Nat.{ℕ, zero, suc, ◌+◌}
use native.Mathlib.Nat.{add-zero, zero-add}
use native.Mathlib.Omega.{arith}
use mathlib.Core.Path.{◌≡◌, refl, ◌∙◌}
use mathlib.Core.List.{List, [], ◌∷◌, ◌++◌, map, map-map, map-id, append-nil}
use lib.ListN.{length, length-append}
use Rattle.lexer.specs.declared.Language.TheVariants.{C}
use Rattle.lexer.specs.Continuation.{break_c}
use Rattle.source.specs.Joining.{kept_from, place_of, joined_map}
use Rattle.source.specs.Laws.{Break, lf, crlf, gap_bytes, broken, broken_bytes, broken_map, IsPlain, BreaksKeepText}
use Rattle.source.proofs.Kept.{kept-first}
use Rattle.source.proofs.Woven.{Woven, bare, byte, short, long, no_cut, last_entry, woven-join}

woven-gap : {t xs : List ℕ} (bs : List Break) → Woven t xs → Woven t (gap_bytes bs ++ xs)
unfolding gap_bytes
woven-gap [] w = w
woven-gap (lf ∷ bs) w = short (woven-gap bs w)
woven-gap (crlf ∷ bs) w = long (woven-gap bs w)

-- a text is woven of itself, and with breaks
pub woven-text : (t : List ℕ) → IsPlain t → Woven t t
woven-text [] p = bare
woven-text (x ∷ t) p =
    byte (p 0 (omega arith)).0 (p 0 (omega arith)).1.0 (p 0 (omega arith)).1.1 (woven-text t (λ i h. p (suc i) (omega arith)))

pub woven-broken : (t : List ℕ) (gap : ℕ → List Break) → IsPlain t → Woven t (broken t gap)
unfolding broken
woven-broken [] gap p = rw append-nil at (woven-gap (gap 0) bare)
woven-broken (x ∷ t) gap p =
    woven-gap (gap 0)
    (byte (p 0 (omega arith)).0 (p 0 (omega arith)).1.0 (p 0 (omega arith)).1.1 (woven-broken t (λ i. gap (suc i)) (λ i h. p (suc i) (omega arith))))

-- breaks in the gaps of a text: the places of what is kept
kept-gap : (at : ℕ) (bs : List Break) (xs : List ℕ) → kept_from break_c 0 at (gap_bytes bs ++ xs) ≡ kept_from break_c 0 (at + length (gap_bytes bs)) xs
unfolding kept_from break_c gap_bytes
kept-gap at [] xs = rw add-zero
kept-gap at (lf ∷ bs) xs =
    let e : at + suc (suc (length (gap_bytes bs))) ≡ suc (suc at) + length (gap_bytes bs) = omega arith in
    rw e (kept-gap (suc (suc at)) bs xs)
kept-gap at (crlf ∷ bs) xs =
    let e : at + suc (suc (suc (length (gap_bytes bs)))) ≡ suc (suc (suc at)) + length (gap_bytes bs) = omega arith in
    rw e (kept-gap (suc (suc (suc at))) bs xs)

bytes-shift : (gap : ℕ → List Break) (i : ℕ) → broken_bytes gap (suc i) ≡ length (gap_bytes (gap 0)) + broken_bytes (λ j. gap (suc j)) i
unfolding broken_bytes
bytes-shift gap zero = refl
bytes-shift gap (suc i) = omega (arith, bytes-shift gap i)

cons-path : {a b : ℕ} {l m : List ℕ} → a ≡ b → l ≡ m → a ∷ l ≡ b ∷ m
cons-path e f = cc

map-shift : (gap : ℕ → List Break) (i n : ℕ)
    → broken_map gap (suc i) n ≡ map (λ m. suc (length (gap_bytes (gap 0)) + m)) (broken_map (λ j. gap (suc j)) i n)
unfolding broken_map
map-shift gap i zero = refl
map-shift gap i (suc n) = cons-path (omega (arith, bytes-shift gap i)) (map-shift gap (suc i) n)

map_more : (gap : ℕ → List Break) (n : ℕ)
    → broken_map gap 0 (suc n) ≡ length (gap_bytes (gap 0)) ∷ map (λ m. suc (length (gap_bytes (gap 0)) + m)) (broken_map (λ j. gap (suc j)) 0 n)
unfolding broken_map
map_more gap n = cons-path (zero-add _) (map-shift gap 0 n)

map-none : (gap : ℕ → List Break) → broken_map gap 0 0 ≡ []
unfolding broken_map
map-none gap = refl

kept_more : (at x : ℕ) (bs : List Break) {t xs : List ℕ} → Woven t xs
    → kept_from break_c 0 at (gap_bytes bs ++ x ∷ xs) ≡ record { byte = x; place = at + length (gap_bytes bs) } ∷ kept_from break_c 0 (suc (at + length (gap_bytes bs))) xs
kept_more at x bs {xs = xs} w = kept-gap at bs (x ∷ xs) ∙ kept-first break_c (at + length (gap_bytes bs)) x xs (no_cut x w)

regroup : (at g m : ℕ) → at + suc (g + m) ≡ suc (at + g) + m
regroup at g m = omega arith

places : (at : ℕ) (t : List ℕ) (gap : ℕ → List Break) → IsPlain t
    → map place_of (kept_from break_c 0 at (broken t gap)) ++ ((at + length (broken t gap)) ∷ []) ≡ map (λ m. at + m) (broken_map gap 0 (suc (length t)))
unfolding broken kept_from
places at [] gap p = rw (map_more gap 0, map-none (λ i. gap (suc i)), rw append-nil at (kept-gap at (gap 0) []))
places at (x ∷ t) gap p =
    let tail : IsPlain t = λ i h. p (suc i) (omega arith) in
    let g = length (gap_bytes (gap 0)) in
    let q : at + (g + suc (length (broken t (λ i. gap (suc i))))) ≡ suc (at + g) + length (broken t (λ i. gap (suc i))) = omega arith in
    rw (kept_more at x (gap 0) (woven-broken t (λ i. gap (suc i)) tail), map_more gap (suc (length t)), map-map (λ m. at + m) (λ m. suc (g + m)), length-append, q)
    (simp (regroup at g) (cons-path refl (places (suc (at + g)) t (λ i. gap (suc i)) tail)))

pub broken-map : (t : List ℕ) (gap : ℕ → List Break) → IsPlain t → joined_map C (broken t gap) ≡ broken_map gap 0 (suc (length t))
unfolding joined_map
broken-map t gap p = simp (zero-add, map-id) at (places 0 t gap p)

pub breaks-keep-text : BreaksKeepText
breaks-keep-text t plain gap p text_slots map_slots a b d =
    let w = woven-broken t gap plain in
    let e = broken-map t gap plain in
    (rw (← e) (woven-join text_slots map_slots w a b d p), rw (← e) (last_entry w))
