-- The steps of the search for a name: a candidate in a buffer, the names that are left, what was foreseen without blanks, and what follows a word.
use Rattle.std.specs.Prelude.{ℕ, zero, suc, ◌+◌, ◌≤◌, ◌<◌, ◌≡◌, Bool, true, false, cond, ◌&&◌, ◌||◌, List, [], ◌∷◌, ◌++◌, map, length, take, drop, get_or, eqb, leb}
use Rattle.std.specs.List.{list_any}
use Rattle.std.specs.Prelude.{Option, Some, None, Result, Ok, Err}
use Rattle.ascii.specs.Text.{same_by, comparing}
use Rattle.refusal.specs.declared.Refusal.{Refusal}
use Rattle.lexer.specs.Trivia.{skip}
use Rattle.rulebook.specs.Book.{Book}
use Rattle.directive.specs.declared.foreseen.Tally.{Tally}
use Rattle.directive.specs.declared.foreseen.Tally.TheVariants.{Zero, One, Many}
use Rattle.directive.specs.declared.candidate.Full.{Full}
use Rattle.directive.specs.declared.DirectiveName.{DirectiveName}
use Rattle.directive.specs.declared.Named.{Named}
use Rattle.directive.specs.Name.{compact, same_compact, entries_with, head_from, may_grow, starts_word}

-- numbers that are bytes
abbrev pub AreBytes : List ℕ → Type 0
AreBytes bs = (i : ℕ) → get_or bs i 0 < 256

-- the bytes of two texts, from a place of each on and up to so many behind it, are equal once each is passed through f
abbrev pub alike_to : (ℕ → ℕ) → List ℕ → ℕ → List ℕ → ℕ → ℕ → Bool
alike_to f a i b j zero = eqb (f (get_or a i 0)) (f (get_or b j 0))
alike_to f a i b j (suc n) = alike_to f a i b j n && eqb (f (get_or a (i + suc n) 0)) (f (get_or b (j + suc n) 0))

-- two texts begin with so many bytes that are equal once each is passed through f
abbrev pub RunAlike : (ℕ → ℕ) → List ℕ → List ℕ → ℕ → Type 0
RunAlike f a b run = (run ≤ length a) × (run ≤ length b) × ((m : ℕ) → m < run → eqb (f (get_or a m 0)) (f (get_or b m 0)) ≡ true)

-- of names in order, so many were passed that have not a property, and the answer is whether one that is left has it
abbrev pub Sought : (List ℕ → Bool) → List (List ℕ) → List (List ℕ) → Bool → Type 0
Sought test before after found =
    (passed : List (List ℕ)) × (before ≡ passed ++ after) × (list_any test passed ≡ false) × (found ≡ list_any test after)

-- names that a candidate is a beginning of none of; before the first word there are none
abbrev pub Unbegun : Bool → List ℕ → List (List ℕ) → Type 0
Unbegun ignore_case [] names = names ≡ []
Unbegun ignore_case (x ∷ xs) names = list_any (λ n. head_from (same_by (comparing ignore_case)) [] n (x ∷ xs)) names ≡ false

-- what is left of an empty name and those of a book, once names are passed
abbrev pub Left : Book → List ℕ → List (List ℕ) → Type 0
Left book c left = (passed : List (List ℕ)) × ([] ∷ map (λ e. e.name) book.directives ≡ passed ++ left) × Unbegun book.ignores_case c passed

-- one name more that ends at a place
abbrev pub one_more : Tally → ℕ → Tally
one_more Zero number = One number
one_more (One first) number = Many
one_more Many number = Many

-- the entry, if just one ends there
abbrev pub only_one : Tally → Option ℕ
only_one Zero = None
only_one (One number) = Some number
only_one Many = None

-- the entries that end at a place, one after another
abbrev pub tally : Tally → List ℕ → Tally
tally before [] = before
tally before (i ∷ is) = tally (one_more before i) is

-- words without blanks were put behind letters
abbrev pub Extended : List ℕ → List ℕ → Type 0
Extended old new = (more : List ℕ) × (new ≡ old ++ more) × (compact more ≡ more)

-- of each candidate that has just the first n of some letters, but for blanks
abbrev pub OfEach : List ℕ → (List ℕ → ℕ → Type 0) → Type 0
OfEach letters P = (c : List ℕ) (n : ℕ) → n ≤ length letters → compact c ≡ take n letters → P c n

-- the places are marked up to which a name has these letters and then a blank or its end
abbrev pub HeadsMarked : List ℕ → List ℕ → List Bool → List Bool → Type 0
HeadsMarked name letters old new = OfEach letters (λ c n. get_or new n false ≡ (get_or old n false || head_from same_compact [] name c))

-- where a name ends that has these letters
abbrev pub EndTold : List ℕ → List ℕ → Option ℕ → Type 0
EndTold name letters None = OfEach letters (λ c n. same_compact name c ≡ false)
EndTold name letters (Some end) = (end ≤ length letters) × OfEach letters (λ c n. same_compact name c ≡ eqb n end)

-- the names of a book are counted by these letters
pub record Counted (book : Book) (letters : List ℕ) (heads : List Bool) (ends : List Tally) : Type 0 where
  pub heads_of : OfEach letters (λ c n. get_or heads n false ≡ list_any (λ name. head_from same_compact [] name c) (map (λ e. e.name) book.directives))
  pub ends_of : OfEach letters (λ c n. get_or ends n Zero ≡ tally Zero (entries_with (λ name. same_compact name c) 0 book.directives))

-- a candidate of at most 128 bytes
abbrev pub fitting : List ℕ → Option (List ℕ)
fitting c = cond (leb (length c) 128) (Some c) None

-- the candidate that is kept, if it fits
abbrev pub kept_if : Result (Unit {0}) Full → List ℕ → Option (List ℕ)
kept_if (Ok done) c = Some c
kept_if (Err full) c = None

-- what follows a word that ends at a place: trivia first, then another word that may belong to the name, or nothing that does
abbrev pub behind : (ℕ → Option ℕ) → Result ℕ Refusal → Result (Option ℕ) Refusal
behind f (Err r) = Err r
behind f (Ok p) = Ok (f p)

unfoldable pub next_of : Book → List ℕ → ℕ → List ℕ → Result (Option ℕ) Refusal
next_of book text end candidate =
    behind (λ p. cond (starts_word (drop p text) && may_grow book candidate) (Some p) None) (skip book.ignores_case text end)

-- the place of what follows is not before a place, and not past n bytes
abbrev pub Ahead : ℕ → ℕ → Result (Option ℕ) Refusal → Type 0
Ahead at n (Ok (Some p)) = (at ≤ p) × (p ≤ n)
Ahead at n (Ok None) = Unit {0}
Ahead at n (Err r) = (at ≤ r.place) × (r.place ≤ n)

-- the last name ends behind place start and not past n bytes, and its entry is one of at most 255
abbrev pub Good : ℕ → ℕ → Option Named → Type 0
Good start n None = Unit {0}
Good start n (Some f) = (start < f.end) × (f.end ≤ n) × (f.entry < 255)

-- the same of an answer of a search that began at place at; a refusal's place is not before that, and not past n bytes
abbrev pub Ends : ℕ → ℕ → ℕ → Result Named Refusal → Type 0
Ends at start n (Ok f) = (start < f.end) × (f.end ≤ n) × (f.entry < 255)
Ends at start n (Err r) = (at ≤ r.place) × (r.place ≤ n)

abbrev pub Placed : ℕ → ℕ → Result DirectiveName Refusal → Type 0
Placed at n (Ok d) = (at ≤ d.start) × (d.start < d.end) × (d.end ≤ n) × (d.entry < 255)
Placed at n (Err r) = (at ≤ r.place) × (r.place ≤ n)
