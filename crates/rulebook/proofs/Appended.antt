-- What is looked up among a book's entries goes by their names, and a rule by its index; names that are appended are found last.
-- Assumes nothing.
use Prim.Native.Nat.{ℕ, zero, suc, ◌+◌, ◌<◌}
use mathlib.Core.Bool.{Bool, true, false, cond}
use Rattle.std.specs.Prelude.{Some}
use mathlib.Core.Path.{◌≡◌, refl, sym, ◌∙◌}
use mathlib.Core.List.{List, [], ◌∷◌, ◌++◌, map, map-append}
use native.Mathlib.Omega.{arith}
use lib.ListN.{length, length-map}
use Rattle.ascii.specs.Text.{same_by}
use Rattle.bookform.specs.declared.ClauseRule.{ClauseRule}
use Rattle.bookform.specs.declared.ClauseRule.TheVariants.{Bare}
use Rattle.rulebook.specs.Book.{Entry, Book}
use Rattle.rulebook.specs.Lookup.{entry_from, rule_at, comparison, clause_entry, IsAppended}

-- entries of which only the names, or only the rules, are told
abbrev pub named : List (List ℕ) → List Entry
named ns = map (λ n. record { at = 0; rule = Bare; name = n }) ns

abbrev pub ruled : List ClauseRule → List Entry
ruled rs = map (λ r. record { at = 0; rule = r; name = [] }) rs

abbrev pub names_of : List Entry → List (List ℕ)
names_of es = map (λ e. e.name) es

abbrev pub rules_of : List Entry → List ClauseRule
rules_of es = map (λ e. e.rule) es

pub entry_from-named : (f : ℕ → ℕ) (i : ℕ) (name : List ℕ) (es : List Entry) → entry_from f i name es ≡ entry_from f i name (named (names_of es))
unfolding entry_from
entry_from-named f i name [] = refl
entry_from-named f i name (e ∷ es) = rw (entry_from-named f (suc i) name es)

-- so equal names give equal answers
pub entry_from-same : (es ds : List Entry) → names_of es ≡ names_of ds → (f : ℕ → ℕ) (i : ℕ) (name : List ℕ) → entry_from f i name es ≡ entry_from f i name ds
entry_from-same es ds same f i name = rw (entry_from-named f i name es, entry_from-named f i name ds, same)

pub rule_at-ruled : (d : ClauseRule) (i : ℕ) (es : List Entry) → rule_at d i es ≡ rule_at d i (ruled (rules_of es))
unfolding rule_at
rule_at-ruled d zero [] = refl
rule_at-ruled d (suc i) [] = refl
rule_at-ruled d zero (e ∷ es) = refl
rule_at-ruled d (suc i) (e ∷ es) = rule_at-ruled d i es

-- an entry that is found among the first is found among all
entry_from-append : (f : ℕ → ℕ) (i j : ℕ) (name : List ℕ) (es more : List Entry) → entry_from f i name es ≡ Some j → entry_from f i name (es ++ more) ≡ Some j
unfolding entry_from
entry_from-append f i j name [] more h = cc
entry_from-append f i j name (e ∷ es) more h = go (same_by f e.name name) (entry_from-append f (suc i) j name es more) h
  where
    go : (b : Bool) → (entry_from f (suc i) name es ≡ Some j → entry_from f (suc i) name (es ++ more) ≡ Some j)
        → cond b (Some i) (entry_from f (suc i) name es) ≡ Some j → cond b (Some i) (entry_from f (suc i) name (es ++ more)) ≡ Some j
    go true ih h = h
    go false ih h = ih h

-- an entry's index is below the number of entries
pub entry_from-below : (f : ℕ → ℕ) (i j : ℕ) (name : List ℕ) (es : List Entry) → entry_from f i name es ≡ Some j → j < i + length es
unfolding entry_from
entry_from-below f i j name [] h = cc
entry_from-below f i j name (e ∷ es) h = go (same_by f e.name name) (entry_from-below f (suc i) j name es) h
  where
    go : (b : Bool) → (entry_from f (suc i) name es ≡ Some j → j < suc i + length es)
        → cond b (Some i) (entry_from f (suc i) name es) ≡ Some j → j < i + suc (length es)
    go true ih h = let z : i ≡ j = cc in omega arith
    go false ih h = omega (arith, ih h)

rule_at-append : (d : ClauseRule) (i : ℕ) (es more : List Entry) → i < length es → rule_at d i (es ++ more) ≡ rule_at d i es
unfolding rule_at
rule_at-append d i [] more h = absurd (omega arith)
rule_at-append d zero (e ∷ es) more h = refl
rule_at-append d (suc i) (e ∷ es) more h = rule_at-append d i es more (omega arith)

-- the same of entries that begin with all of the others' names and rules
pub entry_from-appended : (short long more : List Entry) → names_of long ≡ names_of short ++ names_of more
    → (f : ℕ → ℕ) (i j : ℕ) (name : List ℕ) → entry_from f i name short ≡ Some j → entry_from f i name long ≡ Some j
entry_from-appended short long more same f i j name h =
    let k = entry_from-append f i j name (named (names_of short)) (named (names_of more)) (sym (entry_from-named f i name short) ∙ h) in
    rw (entry_from-named f i name long, same, map-append) k

pub rule_at-appended : (short long more : List Entry) → rules_of long ≡ rules_of short ++ rules_of more
    → (d : ClauseRule) (i : ℕ) → i < length short → rule_at d i long ≡ rule_at d i short
rule_at-appended short long more same d i h =
    let n : i < length (ruled (rules_of short)) = simp length-map h in
    rw (rule_at-ruled d i long, same, map-append, rule_at-append, n) (sym (rule_at-ruled d i short))

-- a name that is found in a book is found, at the same index with the same rule, in every book with clause names appended
pub clause_entry-appended : (short long : Book) → IsAppended short long → (i : ℕ) (name : List ℕ)
    → entry_from (comparison short) 0 name short.clauses ≡ Some i → clause_entry long name ≡ clause_entry short name
unfolding clause_entry
clause_entry-appended short long a i name h =
    let k = entry_from-appended short.clauses long.clauses a.more a.same_names (comparison short) 0 i name h in
    let below : i < length short.clauses = omega (arith, entry_from-below (comparison short) 0 i name short.clauses h) in
    rw (a.same_case, a.same_default, k, h, rule_at-appended short.clauses long.clauses a.more a.same_rules short.default i below)
