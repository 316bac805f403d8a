-- Laws of comparing a candidate with a name by the name's first byte: it does not count, it has a partner, or it has none. The candidate goes in with its
-- blanks taken out, where they do not count. By induction over the name. Assumes nothing.
use mathlib.Core.Path.{◌≡◌, refl}
use mathlib.Core.Bool.{Bool, true, false, cond, ◌&&◌, ◌||◌}
use mathlib.Core.List.{List, [], ◌∷◌, ◌++◌, append-nil, append_assoc}
use Prim.Native.Nat.{ℕ}
use lib.Dec.{eqb}
use Rattle.ascii.specs.Ascii.{is_space}
use Rattle.ascii.specs.Text.{same_by}
use Rattle.directive.specs.Name.{compact, head_from}

-- a text with its blanks taken out or not
unfoldable pub squeezed : Bool → List ℕ → List ℕ
squeezed k [] = []
squeezed k (x ∷ xs) = cond (k && is_space x) (squeezed k xs) (x ∷ squeezed k xs)

pub squeezed-compact : (xs : List ℕ) → squeezed true xs ≡ compact xs
unfolding squeezed compact
squeezed-compact [] = refl
squeezed-compact (x ∷ xs) = rw (squeezed-compact xs)

pub squeezed-whole : (xs : List ℕ) → squeezed false xs ≡ xs
unfolding squeezed
squeezed-whole [] = refl
squeezed-whole (x ∷ xs) = rw (squeezed-whole xs)

-- the beginnings of a name, if they serve, and the name itself; a candidate without its blanks
unfoldable pub headed : Bool → (List ℕ → List ℕ → Bool) → List ℕ → List ℕ → List ℕ → Bool
headed h same done [] c = same done c
headed h same done (x ∷ xs) c = (h && (eqb x 32 && same done c)) || headed h same (done ++ (x ∷ [])) xs c

abbrev pub plain : Bool → (ℕ → ℕ) → List ℕ → List ℕ → Bool
plain k f a c = same_by f (squeezed k a) c

pub headed-heads : (same other : List ℕ → List ℕ → Bool) (c d done name : List ℕ) → ((a : List ℕ) → same a c ≡ other a d)
    → head_from same done name c ≡ headed true other done name d
unfolding head_from headed
headed-heads same other c d done [] e = e done
headed-heads same other c d done (x ∷ xs) e = rw (e done, headed-heads same other c d (done ++ (x ∷ [])) xs e)

pub headed-whole : (same : List ℕ → List ℕ → Bool) (d done name : List ℕ) → headed false same done name d ≡ same (done ++ name) d
unfolding headed
headed-whole same d done [] = rw append-nil
headed-whole same d done (x ∷ xs) = rw (headed-whole same d (done ++ (x ∷ [])) xs, append_assoc)

gather : (h z e s r : Bool) → ((h && (z && (e && s))) || (e && r)) ≡ (e && ((h && (z && s)) || r))
gather true true true s r = refl
gather true false true s r = refl
gather false z true s r = refl
gather true true false s r = refl
gather true false false s r = refl
gather false z false s r = refl

module _ (h k : Bool) (f : ℕ → ℕ) where
  -- the first byte of what has been read of the name: it does not count, it has a partner, or it has none
  pub first-blank : (x : ℕ) (d name c : List ℕ) → (k && is_space x) ≡ true → headed h (plain k f) (x ∷ d) name c ≡ headed h (plain k f) d name c
  unfolding headed squeezed
  first-blank x d [] c e = rw e
  first-blank x d (y ∷ ys) c e = rw (e, first-blank x (d ++ (y ∷ [])) ys c e)

  pub first-solid : (x : ℕ) (d name : List ℕ) (y : ℕ) (c : List ℕ) → (k && is_space x) ≡ false
      → headed h (plain k f) (x ∷ d) name (y ∷ c) ≡ (eqb (f x) (f y) && headed h (plain k f) d name c)
  unfolding headed squeezed same_by
  first-solid x d [] y c e = rw e
  first-solid x d (z ∷ zs) y c e =
      rw (e, first-solid x (d ++ (z ∷ [])) zs y c e)
      (gather h (eqb z 32) (eqb (f x) (f y)) (same_by f (squeezed k d) c) (headed h (plain k f) (d ++ (z ∷ [])) zs c))

  pub first_alone : (x : ℕ) (d name : List ℕ) → (k && is_space x) ≡ false → headed h (plain k f) (x ∷ d) name [] ≡ false
  unfolding headed squeezed same_by
  first_alone x d [] e = rw e
  first_alone x d (z ∷ zs) e = rw (e, first_alone x (d ++ (z ∷ [])) zs e) (go h (eqb z 32))
    where
      go : (a b : Bool) → ((a && (b && false)) || false) ≡ false
      go true true = refl
      go true false = refl
      go false b = refl
