-- Laws of a candidate that begins a name, by structure: byte by byte through the name, as the definition has it; the byte behind it asked first; a longer
-- candidate begins no other name. Assumes nothing.
use mathlib.Core.Path.{◌≡◌, refl, sym, ◌∙◌}
use mathlib.Core.Bool.{Bool, true, false, cond, ◌&&◌, ◌||◌, true≢false, and-true, or-false}
use mathlib.Core.List.{List, [], ◌∷◌, ◌++◌}
use Prim.Native.Nat.{ℕ, suc, ◌+◌, ◌<◌}
use native.Mathlib.Omega.{arith}
use lib.ListN.{length, take, get_or}
use lib.Dec.{eqb, leb}
use borrow.Author.Tests.{eqb-true, ne_eqb, leb-true}
use Rattle.std.proofs.Math.Dec.{eqb-suc-suc}
use Rattle.std.specs.List.{list_any}
use Rattle.ascii.specs.Ascii.{is_space, is_upper, fold}
use Rattle.ascii.specs.Text.{same_by, comparing}
use Rattle.ascii.proofs.Flags.{by_cases, and_left, and_right, or-none}
use Rattle.directive.specs.Name.{head_from, extended}
use Rattle.directive.specs.Steps.{Unbegun}
use Rattle.directive.proofs.Agreeing.{squeezed, squeezed-whole, headed, headed-heads, plain, first-blank, first-solid, first_alone}

-- A name agrees with a candidate, or the words of the name before one of its blanks do if heads serve; blanks of the name are passed over if they do not count.
unfoldable pub follows : Bool → Bool → (ℕ → ℕ) → List ℕ → List ℕ → Bool
follows h k f [] [] = true
follows h k f [] (y ∷ ys) = false
follows h k f (x ∷ xs) [] = (h && eqb x 32) || ((k && is_space x) && follows h k f xs [])
follows h k f (x ∷ xs) (y ∷ ys) = cond (k && is_space x) (follows h k f xs (y ∷ ys)) (eqb (f x) (f y) && follows h k f xs ys)

pub headed-follows : (h k : Bool) (f : ℕ → ℕ) (name c : List ℕ) → headed h (plain k f) [] name c ≡ follows h k f name c
unfolding headed follows squeezed same_by
headed-follows h k f [] [] = refl
headed-follows h k f [] (y ∷ ys) = refl
headed-follows h k f (x ∷ xs) [] =
    by_cases (k && is_space x)
    (λ e. rw (first-blank h k f x [] xs [] e, headed-follows h k f xs [], e, and-true))
    (λ e. rw (first_alone h k f x [] xs e, e, and-true))
headed-follows h k f (x ∷ xs) (y ∷ ys) =
    by_cases (k && is_space x)
    (λ e. rw (first-blank h k f x [] xs (y ∷ ys) e, headed-follows h k f xs (y ∷ ys), e) (none h (eqb x 32) (follows h k f xs (y ∷ ys))))
    (λ e. rw (first-solid h k f x [] xs y ys e, headed-follows h k f xs ys, e) (none h (eqb x 32) (eqb (f x) (f y) && follows h k f xs ys)))
  where
    none : (a b r : Bool) → ((a && (b && false)) || r) ≡ r
    none true true r = refl
    none true false r = refl
    none false b r = refl

-- a comparison by which a blank is like a blank alone
abbrev Blanks : (ℕ → ℕ) → Type 0
Blanks f = (x : ℕ) → eqb (f x) (f 32) ≡ true → eqb x 32 ≡ true

fold-blanks : (x : ℕ) → eqb (fold x) (fold 32) ≡ true → eqb x 32 ≡ true
fold-blanks x e = by_cases (is_upper x)
    (λ u. let q : fold x ≡ x + 32 = rw u in
    let l = leb-true 65 x (and_left (leb 65 x) (leb x 90) u) in
    let w : fold x ≡ 32 = eqb-true (fold x) 32 e in absurd (omega arith))
    (λ u. rw u at e)

pub comparing-blanks : (b : Bool) → Blanks (comparing b)
comparing-blanks true x e = fold-blanks x e
comparing-blanks false x e = e

module _ (f : ℕ → ℕ) where
  pub head-follows : (name c : List ℕ) → head_from (same_by f) [] name c ≡ follows true false f name c
  head-follows name c =
      headed-heads (same_by f) (plain false f) c c [] name (λ a. rw (squeezed-whole a)) ∙ headed-follows true false f name c

  -- the byte behind the candidate, and the bytes before it
  pub follows-end : (name c : List ℕ) → follows true false f name c ≡ ((eqb (length c) (length name) || eqb (get_or name (length c) 0) 32) && same_by f (take (length c) name) c)
  unfolding follows same_by
  follows-end [] [] = refl
  follows-end [] (y ∷ ys) = rw (ne_eqb (suc (length ys)) 0 (omega arith))
  follows-end (x ∷ xs) [] = rw (or-false, and-true, ne_eqb 0 (suc (length xs)) (omega arith))
  follows-end (x ∷ xs) (y ∷ ys) = rw (follows-end xs ys, eqb-suc-suc) (go (eqb (f x) (f y)) (eqb (length ys) (length xs) || eqb (get_or xs (length ys) 0) 32) (same_by f (take (length ys) xs) ys))
    where
      go : (a b c : Bool) → (a && (b && c)) ≡ (b && (a && c))
      go true b c = refl
      go false true c = refl
      go false false c = refl

  -- a name that a longer candidate begins is one that the candidate begins
  module _ (blanks : Blanks f) (w : List ℕ) where
    shorter : (name c : List ℕ) → follows true false f name (c ++ (32 ∷ w)) ≡ true → follows true false f name c ≡ true
    unfolding follows
    shorter [] [] e = cc
    shorter [] (y ∷ ys) e = cc
    shorter (x ∷ xs) [] e = rw (blanks x (and_left (eqb (f x) (f 32)) (follows true false f xs w) e))
    shorter (x ∷ xs) (y ∷ ys) e =
        let a = and_left (eqb (f x) (f y)) (follows true false f xs (ys ++ (32 ∷ w))) e in
        let b = shorter xs ys (and_right (eqb (f x) (f y)) (follows true false f xs (ys ++ (32 ∷ w))) e) in
        rw (a, b)

    longer-none : (name c : List ℕ) → head_from (same_by f) [] name c ≡ false → head_from (same_by f) [] name (c ++ (32 ∷ w)) ≡ false
    longer-none name c e =
        by_cases (head_from (same_by f) [] name (c ++ (32 ∷ w)))
        (λ h. let s = shorter name c (sym (head-follows name (c ++ (32 ∷ w))) ∙ h) in absurd (true≢false (sym s ∙ sym (head-follows name c) ∙ e)))
        (λ h. h)

    pub longer-passed : (c : List ℕ) (names : List (List ℕ)) → list_any (λ n. head_from (same_by f) [] n c) names ≡ false
        → list_any (λ n. head_from (same_by f) [] n (c ++ (32 ∷ w))) names ≡ false
    longer-passed c [] e = refl
    longer-passed c (n ∷ ns) e =
        let p = or-none (head_from (same_by f) [] n c) (list_any (λ n. head_from (same_by f) [] n c) ns) e in
        rw (longer-none n c p.0, longer-passed c ns p.1)

-- names that are passed stay passed as the candidate grows by a word
pub passed-on : (b : Bool) (c w : List ℕ) (names : List (List ℕ)) → 0 < length w → Unbegun b c names → Unbegun b (extended c w) names
passed-on b [] [] names h p = absurd (omega arith)
passed-on b [] (y ∷ ys) names h p = rw p
passed-on b (x ∷ xs) w names h p = longer-passed (comparing b) (comparing-blanks b) w (x ∷ xs) names p

pub extended-some : (c w : List ℕ) → 0 < length w → 0 < length (extended c w)
extended-some [] w h = h
extended-some (x ∷ xs) w h = omega arith
