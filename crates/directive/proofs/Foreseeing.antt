-- What was foreseen tells of the candidate: the next word, if it is the next of the letters; the entry; whether a longer name may follow. Assumes nothing.
use mathlib.Core.Path.{◌≡◌, refl, sym, ap, ◌∙◌}
use mathlib.Core.Bool.{Bool, true, false, cond}
use mathlib.Core.List.{List, [], ◌∷◌, ◌++◌, append-nil, append_assoc}
use Prim.Native.Nat.{ℕ, ◌+◌, ◌<◌, ◌≤◌}
use native.Mathlib.Omega.{arith}
use lib.ListN.{length, take, drop, get_or, length-drop, length-append}
use lib.Seq.{take-add, take-append_seam}
use lib.Dec.{eqb}
use borrow.Author.Tests.{eqb-true}
use Rattle.std.specs.Prelude.{Option}
use Rattle.ascii.specs.Ascii.{is_space, exactly}
use Rattle.ascii.specs.Text.{begins}
use Rattle.ascii.proofs.Flags.{and_left, and_right}
use Rattle.rulebook.specs.Book.{Book}
use Rattle.directive.specs.declared.foreseen.Foreseen.{Foreseen}
use Rattle.directive.specs.declared.foreseen.Tally.TheVariants.{Zero}
use Rattle.directive.specs.Name.{compact, same_compact, entries_with, only, may_grow, extended}
use Rattle.directive.specs.Steps.{Extended, only_one}
use Rattle.directive.specs.declared.outlook.Outlook.{Outlook}
use Rattle.directive.specs.Kept.{Foretells, IfForeseen, KeptFor}
use Rattle.directive.proofs.Beginning.{passed-on}
use Rattle.directive.proofs.Long.{compact-append}
use Rattle.directive.proofs.Optional.{grow-compact}
use Rattle.directive.proofs.Tallying.{tally-only}

-- a text that begins with a word as it stands
begins-take : (w s : List ℕ) → begins exactly w s ≡ true → (length w ≤ length s) × (take (length w) s ≡ w)
unfolding begins
begins-take [] s e = (omega arith, refl)
begins-take (x ∷ xs) [] e = cc
begins-take (x ∷ xs) (y ∷ ys) e =
    let q : x ≡ y = eqb-true x y (and_left (eqb x y) (begins exactly xs ys) e) in
    let r = begins-take xs ys (and_right (eqb x y) (begins exactly xs ys) e) in
    (omega (arith, r.0), rw (q, r.1))

-- the candidate has a word more
pub compact-extended : (c w : List ℕ) → compact w ≡ w → compact (extended c w) ≡ compact c ++ w
unfolding compact
compact-extended [] w e = e
compact-extended (x ∷ xs) w e = compact-append (x ∷ xs) (32 ∷ w) ∙ rw e

pub foretells-on : (book : Book) (c w : List ℕ) (f : Foreseen) → compact w ≡ w → begins exactly w (drop f.reached f.letters) ≡ true → Foretells book c f
    → Foretells book (extended c w) (record { letters = f.letters; reached = f.reached + length w; heads = f.heads; ends = f.ends })
foretells-on book c w f e b t =
    let r = begins-take w (drop f.reached f.letters) b in
    let n = length-drop f.reached f.letters in
    record {
      fits = t.fits;
      within = omega (arith, r.0, t.within, n);
      same = compact-extended c w e ∙ rw (t.same, take-add) (ap (λ (l : List ℕ). take f.reached f.letters ++ l) (sym r.1));
      counted = t.counted;
    }

-- what is kept once the candidate has a word more: the names that are left, and what is foreseen from then on
pub ready-word : (book : Book) (c w : List ℕ) (o : Outlook) (f : Option Foreseen) → 0 < length w → KeptFor book c o → IfForeseen book (extended c w) f
    → KeptFor book (extended c w) (record { left = o.left; foreseen = f })
ready-word book c w o f some r g = record {
  left = (r.left.0, r.left.1, passed-on book.ignores_case c w r.left.0 some r.left.2);
  foreseen = g;
}

-- one word more is put behind letters
pub extended-none : (t : List ℕ) → Extended t t
unfolding compact
extended-none t = ([], sym (append-nil t), refl)

pub extended-word : (old now w : List ℕ) → Extended old now → compact w ≡ w → Extended old (now ++ w)
extended-word old now w (more, e, s) q = (more ++ w, rw e (append_assoc old more w), rw (compact-append more w, s, q))

-- what is foreseen tells whether a longer name may follow, and which entry there is
module _ (book : Book) (c : List ℕ) (f : Foreseen) (optional : book.optional_blanks ≡ true) (t : Foretells book c f) where
  pub foretold-grows : get_or f.heads f.reached false ≡ may_grow book c
  foretold-grows = t.counted.heads_of c f.reached t.within t.same ∙ sym (grow-compact book c optional)

  pub foretold-entry : only_one (get_or f.ends f.reached Zero) ≡ only (entries_with (λ n. same_compact n c) 0 book.directives)
  foretold-entry = ap only_one (t.counted.ends_of c f.reached t.within t.same) ∙ tally-only (entries_with (λ n. same_compact n c) 0 book.directives)

-- the letters are those of the candidate and of words behind it
compact-twice : (xs : List ℕ) → compact (compact xs) ≡ compact xs
unfolding compact
compact-twice [] = refl
compact-twice (x ∷ xs) = go (is_space x) refl (compact-twice xs)
  where
    go : (b : Bool) → is_space x ≡ b → compact (compact xs) ≡ compact xs → compact (cond b (compact xs) (x ∷ compact xs)) ≡ cond b (compact xs) (x ∷ compact xs)
    go true e h = h
    go false e h = rw (e, h)

module _ (c old new : List ℕ) (e : old ≡ compact c) (x : Extended old new) where
  pub letters-solid : compact new ≡ new
  letters-solid = rw (x.1, compact-append old x.0, x.2, e, compact-twice c)

  pub letters-begin : (length old ≤ length new) × (compact c ≡ take (length old) new)
  letters-begin = (rw x.1 (simp length-append (omega arith)), rw (x.1, ← e) (sym (take-append_seam old x.0)))
