-- A C text with breaks in it as a relation, and by induction over it what joining, validation and the call make of such a line.
-- Assumes nothing.
use Prim.Native.Nat.{ℕ, zero, suc, ◌+◌, ◌≤◌, ◌<◌}
use native.Mathlib.Omega.{arith}
use mathlib.Core.Bool.{Bool, true, false, cond, not, and-false}
use Rattle.std.specs.Prelude.{Some, None}
use mathlib.Core.Path.{◌≡◌, refl, sym, ap, ◌∙◌}
use mathlib.Core.List.{List, [], ◌∷◌, ◌++◌, map, reverse, reverse-append}
use lib.ListN.{length, take, drop, get_or, length-map}
use lib.Seq.{drop-drop, get_or_at}
use lib.Dec.{ltb}
use borrow.Author.Tests.{ne_eqb, le-ltb}
use Rattle.ascii.specs.Ascii.{is_eol}
use Rattle.ascii.specs.Text.{starts, leading, is_blank_text, first_high, padded}
use Rattle.refusal.specs.Answer.{Answer, given, refused, admitted, max_length}
use Rattle.lexer.specs.declared.Language.TheVariants.{C}
use Rattle.lexer.specs.declared.Prefix.{Prefix}
use Rattle.lexer.specs.Continuation.{break_c}
use Rattle.validation.specs.declared.Checked.TheVariants.{Fine, Next}
use Rattle.validation.specs.Validation.{line_length, eol_bytes, is_over, check_line, fault_from, fault}
use Rattle.validation.proofs.Checking.{length-leading, fault-nil, fault-fine, fault-next}
use Rattle.source.specs.Joining.{kept_from, byte_of, place_of, joined_text, joined_map}
use Rattle.source.specs.Calls.{is_short, join_answer, join_call}
use Rattle.source.proofs.Kept.{kept-first}

-- xs is the text t with breaks put into it
pub data Woven : List ℕ → List ℕ → Type 0 where
  bare : Woven [] []
  byte : {x : ℕ} {t xs : List ℕ} → x < 128 → (x ≡ 10 → ⊥) → (x ≡ 13 → ⊥) → Woven t xs → Woven (x ∷ t) (x ∷ xs)
  short : {t xs : List ℕ} → Woven t xs → Woven t (92 ∷ 10 ∷ xs)
  long : {t xs : List ℕ} → Woven t xs → Woven t (92 ∷ 13 ∷ 10 ∷ xs)

abbrev pub Any : List ℕ → Type 0
Any xs = (t : List ℕ) × Woven t xs

-- what a woven line is: not shorter than its text, of 7-bit bytes
pub fits : {t xs : List ℕ} → Woven t xs → length t ≤ length xs
fits bare = omega arith
fits (byte b n r w) = omega (arith, fits w)
fits (short w) = omega (arith, fits w)
fits (long w) = omega (arith, fits w)

pub low : {t xs : List ℕ} (at : ℕ) → Woven t xs → first_high at xs ≡ None
unfolding first_high
low at bare = refl
low at (byte {x = x} b n r w) = rw (le-ltb 127 x (omega arith)) (low (suc at) w)
low at (short w) = low (suc (suc at)) w
low at (long w) = low (suc (suc (suc at))) w

-- what is kept of it
front : {t xs : List ℕ} → Woven t xs → (get_or xs 0 0 ≡ 10 → ⊥) × (get_or xs 0 0 ≡ 13 → ⊥)
front bare = omega arith
front (byte b n r w) = (n, r)
front (short w) = omega arith
front (long w) = omega arith

pub no_cut : {t xs : List ℕ} (x : ℕ) → Woven t xs → break_c (x ∷ xs) ≡ 0
unfolding break_c
no_cut x w = simp (ne_eqb _ _ (front w).0, ne_eqb _ _ (front w).1, and-false)

pub joined : {t xs : List ℕ} (at : ℕ) → Woven t xs → map byte_of (kept_from break_c 0 at xs) ≡ t
unfolding kept_from break_c
joined at bare = refl
joined at (byte {x = x} {xs = xs} b n r w) = rw (kept-first break_c at x xs (no_cut x w)) (ap (λ (l : List ℕ). x ∷ l) (joined (suc at) w))
joined at (short w) = joined (suc (suc at)) w
joined at (long w) = joined (suc (suc (suc at))) w

-- validation: the first physical line of a woven line ends it, or ends in a backslash with an end of line after it, and then comes a woven line
abbrev line_of : List ℕ → List ℕ
line_of xs = take (line_length xs) xs

abbrev rest_of : List ℕ → List ℕ
rest_of xs = drop (line_length xs) xs

data First (xs : List ℕ) : Type 0 where
  last : rest_of xs ≡ [] → First xs
  more : (pre : List ℕ) (e : ℕ) → line_of xs ≡ pre ++ (92 ∷ []) → is_over (rest_of xs) ≡ false → eol_bytes (rest_of xs) ≡ Some (suc e)
      → Any (drop (suc e) (rest_of xs)) → First xs

first_more : (x : ℕ) (xs : List ℕ) → (x ≡ 10 → ⊥) → (x ≡ 13 → ⊥) → First xs → First (x ∷ xs)
unfolding leading
first_more x xs n r f = go f
  where
    size : line_length (x ∷ xs) ≡ suc (line_length xs)
    size = rw (ne_eqb x 10 n, ne_eqb x 13 r)

    go : First xs → First (x ∷ xs)
    go (last e) = last (rw size e)
    go (more pre e a d g h) = more (x ∷ pre) e (rw size (ap (λ (l : List ℕ). x ∷ l) a)) (rw size d) (rw size g) (rw size h)

first : {t xs : List ℕ} → Woven t xs → First xs
unfolding leading
first bare = last refl
first (byte {x = x} {xs = xs} b n r w) = first_more x xs n r (first w)
first (short {t = t} w) = more [] 0 refl refl refl (t, w)
first (long {t = t} w) = more [] 1 refl refl refl (t, w)

-- what the check of a physical line says of a woven line
data Good (p : Prefix) (later : Bool) (at : ℕ) (xs : List ℕ) : Type 0 where
  well : check_line C p later at xs ≡ Fine → Good p later at xs
  onward : (n : ℕ) → check_line C p later at xs ≡ Next (suc n) → Any (drop (suc n) xs) → Good p later at xs

ends : (pre : List ℕ) {line : List ℕ} → line ≡ pre ++ (92 ∷ []) → starts 92 (reverse line) ≡ true
ends pre e = rw (e, reverse-append pre (92 ∷ []))

module _ (p : Prefix) (later : Bool) (at : ℕ) (xs : List ℕ) where
  good-end : (b : Bool) (n : ℕ) → check_line C p later at xs ≡ cond b Fine (Next (suc n)) → Any (drop (suc n) xs) → Good p later at xs
  good-end true n e w = well e
  good-end false n e w = onward n e w

  good : First xs → Good p later at xs
  unfolding check_line
  good (last e) = well (rw (and-false later, e))
  good (more pre e a d g h) =
      let q : line_length xs + suc e ≡ suc (line_length xs + e) = omega arith in
      good-end (is_blank_text (drop (suc e) (rest_of xs))) (line_length xs + e)
      (rw (and-false later, d, g, ends pre a, length-leading (λ b. not (is_eol b)) xs, q))
      (rw (drop-drop, q) at h)

fault-good : (p : Prefix) (at x : ℕ) (xs : List ℕ) → Good p (ltb 0 at) at (x ∷ xs) → ((k : ℕ) → Any (drop k xs) → fault_from C p k (suc at) xs ≡ None)
    → fault_from C p 0 at (x ∷ xs) ≡ None
fault-good p at x xs (well e) ih = fault-fine C p at x xs e
fault-good p at x xs (onward n e w) ih = fault-next C p at x xs n e ∙ ih n w

-- the rest of a line, once k bytes are passed over, is in order if it is woven
pub no-fault : (p : Prefix) (xs : List ℕ) (k at : ℕ) → Any (drop k xs) → fault_from C p k at xs ≡ None
unfolding fault_from
no-fault p [] k at w = fault-nil C p k at
no-fault p (x ∷ xs) (suc k) at w = no-fault p xs k (suc at) w
no-fault p (x ∷ xs) zero at w = fault-good p at x xs (good p (ltb 0 at) at (x ∷ xs) (first w.1)) (λ k v. no-fault p xs k (suc at) v)

-- the joined text, and the map's last entry
pub woven-joined : {t xs : List ℕ} → Woven t xs → joined_text C xs ≡ t
unfolding joined_text
woven-joined w = joined 0 w

pub last_entry : {t xs : List ℕ} → Woven t xs → get_or (joined_map C xs) (length t) 0 ≡ length xs
unfolding joined_map
last_entry {t} {xs} w =
    let k = kept_from break_c 0 0 xs in
    get_or_at (map place_of k) (length xs) [] 0 (length t) (length-map k place_of ∙ sym (length-map k byte_of) ∙ ap length (joined 0 w))

-- a woven line that fits passes rows 1 to 3, and what join alone makes of it
module _ (text_slots map_slots : ℕ) {t xs : List ℕ} (w : Woven t xs)
    (short-enough : length xs ≤ max_length) (text-fits : length xs ≤ text_slots) (map-fits : length xs < map_slots) where
  pub woven-admitted : {A : Type 0} (a : Answer A) → admitted xs (cond (is_short xs text_slots map_slots) (refused 3 0) a) ≡ a
  woven-admitted a =
      rw (le-ltb max_length (length xs) short-enough, low 0 w, le-ltb text_slots (length xs) text-fits, le-ltb map_slots (suc (length xs)) map-fits)

  pub woven-join : (p : Prefix) → join_call C p xs text_slots map_slots ≡ record { answer = given (length t); text = padded 0 text_slots t; map = padded 0 map_slots (joined_map C xs) }
  unfolding join_call join_answer fault
  woven-join p = rw (woven-admitted, no-fault p xs 0 0 (t, w), woven-joined w)
