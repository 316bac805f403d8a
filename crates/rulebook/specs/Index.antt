-- The index of a book: for each kind of entries one in one of two forms. Mostly these are chains: for each signature the last entry that has it,
-- and for each entry the one before it with the same signature. Where a chain would be long, as in a book that is made for it, the entries stand
-- in the order of their names instead.
-- It is made with the check of the book, and look-ups under the book go by it. A slot is 0 if there is no such entry.
use Rattle.std.specs.Prelude.{ℕ, zero, suc, ◌+◌, ◌-◌, ◌*◌, ◌/◌, ◌%◌, ◌<◌, ◌≤◌, true, false, cond, List, [], ◌≡◌, get_or, eqb}
use Rattle.std.specs.Prelude.{Option, Some, None, Result, MatchResult}
use Rattle.ascii.specs.Ascii.{fold}
use Rattle.ascii.specs.Text.{part, same_by}
use Rattle.refusal.specs.declared.Refusal.{Refusal}
use Rattle.refusal.specs.declared.Reason.TheVariants.{WrongBook}
use Rattle.refusal.specs.Verdict.{refusal_at}
use Rattle.bookform.specs.declared.Entries.{Entries}
use Rattle.bookform.specs.Format.{lead_of}
use Rattle.rulebook.specs.declared.index.FoundEntry.{FoundEntry}
use Rattle.rulebook.specs.declared.index.NameIndex.{NameIndex}
use Rattle.rulebook.specs.declared.index.Index.{Index}
use Rattle.rulebook.specs.declared.repeats.Entered.{Entered}
use Rattle.rulebook.specs.declared.repeats.Entered.TheVariants.{New, Repeat, LongChain}
use Rattle.rulebook.specs.Book.{name_at, place_after, entries_in, header_of}
use Rattle.rulebook.specs.Check.{is_named, repeat_from}
use Rattle.rulebook.specs.Signature.{signature}
use Rattle.rulebook.specs.Order.{rank}

-- the name of entry m of those from a place on, counted from 0
abbrev pub name_of : ℕ → ℕ → List ℕ → ℕ → List ℕ
name_of lead first bs m = part bs (name_at lead (place_after lead m first bs) bs)

-- a slot tells how far behind the first an entry stands, and its number
abbrev pub slot_of : ℕ → ℕ → List ℕ → ℕ → ℕ
slot_of lead first bs m = (place_after lead m first bs - first) * 256 + m + 1

-- the last of the first n entries with a signature
unfoldable pub last_slot : ℕ → ℕ → List ℕ → ℕ → ℕ → ℕ
last_slot lead first bs q zero = 0
last_slot lead first bs q (suc m) = cond (eqb (signature (name_of lead first bs m)) q) (slot_of lead first bs m) (last_slot lead first bs q m)

-- the last of the first n entries with a name
unfoldable pub last_named : (ℕ → ℕ) → List ℕ → ℕ → ℕ → List ℕ → ℕ → Option FoundEntry
unfolding same_by
last_named f name lead first bs zero = None
last_named f name lead first bs (suc m) = cond (same_by f (name_of lead first bs m) name) (Some (record { index = m; at = place_after lead m first bs })) (last_named f name lead first bs m)

-- the number, the place and the name of the entry that a slot tells of
abbrev pub number_told : ℕ → ℕ
number_told slot = (slot - 1) % 256

abbrev pub place_told : ℕ → ℕ → ℕ
place_told first slot = first + (slot - 1) / 256

abbrev pub name_told : ℕ → ℕ → List ℕ → ℕ → List ℕ
name_told lead first bs slot = part bs (name_at lead (place_told first slot) bs)

-- a slot tells of one of the first n entries
pub record Told (lead first n : ℕ) (bs : List ℕ) (slot : ℕ) : Type 0 where
  pub within : number_told slot < n
  pub is : slot ≡ slot_of lead first bs (number_told slot)

-- the chains of the first n entries: the last entry with each signature, and for each entry the one before it
pub record Chained (lead first n : ℕ) (bs : List ℕ) (index : NameIndex) : Type 0 where
  pub heads : (q : ℕ) → q < 256 → get_or index.heads q 0 ≡ last_slot lead first bs q n
  pub links : (m : ℕ) → m < n → get_or index.slots m 0 ≡ last_slot lead first bs (signature (name_of lead first bs m)) m

-- the first n entries in the order of their names
pub record Sorted (lead first n : ℕ) (bs slots : List ℕ) : Type 0 where
  -- each slot tells of one of them
  pub told : (i : ℕ) → i < n → Told lead first n bs (get_or slots i 0)
  -- the name of each is before those of all behind it
  pub rising : (i j : ℕ) → i < j → j < n → rank (name_told lead first bs (get_or slots i 0)) < rank (name_told lead first bs (get_or slots j 0))
  -- none of them has no slot
  pub whole : (m : ℕ) → m < n → ((i : ℕ) → i < n → get_or slots i 0 ≡ slot_of lead first bs m → ⊥) → ⊥

-- what an index tells of the first n entries of a kind, in either form
pub record Indexed (lead first n : ℕ) (bs : List ℕ) (index : NameIndex) : Type 0 where
  pub low : lead ≤ 1
  pub few : n ≤ 255
  pub chains : index.sorted ≡ false → Chained lead first n bs index
  pub order : index.sorted ≡ true → Sorted lead first n bs index.slots

abbrev pub IndexedIn : Entries → List ℕ → NameIndex → Type 0
IndexedIn es bs index = Indexed (lead_of es.kind) es.first es.count bs index

-- the same of the order alone
abbrev pub SortedIn : Entries → List ℕ → NameIndex → Type 0
SortedIn es bs index = Sorted (lead_of es.kind) es.first es.count bs index.slots

-- where a name belongs in the order, which no entry has: those before the place come before it, the others behind it
pub record Belongs (lead first n : ℕ) (bs slots name : List ℕ) (place : ℕ) : Type 0 where
  pub within : place ≤ n
  pub before : (i : ℕ) → i < place → rank (name_told lead first bs (get_or slots i 0)) < rank name
  pub behind : (i : ℕ) → place ≤ i → i < n → rank name < rank (name_told lead first bs (get_or slots i 0))

-- what a search answers: the place of an entry that has the name, case ignored, or where it belongs
abbrev pub Searched : Entries → List ℕ → NameIndex → List ℕ → Result ℕ ℕ → Type 0
Searched es bs index name result = MatchResult result
    (λ i. (i < es.count) × (same_by fold (name_told (lead_of es.kind) es.first bs (get_or index.slots i 0)) name ≡ true))
    (Belongs (lead_of es.kind) es.first es.count bs index.slots name)

-- slots with one more at a place, and those behind it one further
pub record Inserted (old new : List ℕ) (n place slot : ℕ) : Type 0 where
  pub before : (i : ℕ) → i < place → get_or new i 0 ≡ get_or old i 0
  pub here : get_or new place 0 ≡ slot
  pub behind : (i : ℕ) → place ≤ i → i < n → get_or new (i + 1) 0 ≡ get_or old i 0

-- the entry behind others: its name and its slot
pub record Next (es : Entries) (bs name : List ℕ) (slot : ℕ) : Type 0 where
  pub few : es.count < 255
  pub named : name ≡ name_of (lead_of es.kind) es.first bs es.count
  pub is : slot ≡ slot_of (lead_of es.kind) es.first bs es.count

-- What came of entering it: the index tells of one entry more, or its name repeats an earlier one. That a chain is long says no more than that
-- there are chains.
abbrev pub Enters : Entries → List ℕ → List ℕ → NameIndex → NameIndex → Entered → Type 0
Enters es bs name old new New =
    (is_named fold name (entries_in es bs) ≡ false) × Indexed (lead_of es.kind) es.first (es.count + 1) bs new × (new.sorted ≡ old.sorted)
Enters es bs name old new Repeat = is_named fold name (entries_in es bs) ≡ true
Enters es bs name old new LongChain = old.sorted ≡ false

-- What came of entering all entries of a kind: none repeats an earlier name, the index tells of each, and there they end; or one does, and is refused.
abbrev pub AllEntered : Entries → List ℕ → NameIndex → ℕ → Type 0
AllEntered es bs index end = (repeat_from [] (entries_in es bs) ≡ None) × IndexedIn es bs index × (end ≡ place_after (lead_of es.kind) es.count es.first bs)

abbrev pub Refused : Entries → List ℕ → Refusal → Type 0
Refused es bs r = (r ≡ refusal_at WrongBook r.place) × (repeat_from [] (entries_in es bs) ≡ Some r.place)

-- an index with no entry yet
abbrev pub Blank : NameIndex → Type 0
Blank index = ((q : ℕ) → get_or index.heads q 0 ≡ 0) × (index.sorted ≡ false)

abbrev pub Fresh : Index → Type 0
Fresh index = Blank index.directives × Blank index.clauses

-- What a look-up among entries needs: the index tells of all of them, and no two of them have one name.
pub record Looked (es : Entries) (bs : List ℕ) (index : NameIndex) : Type 0 where
  pub told : IndexedIn es bs index
  pub single : repeat_from [] (entries_in es bs) ≡ None

-- An index of a book tells of the entries of both kinds.
pub record Indexes (bs : List ℕ) (index : Index) : Type 0 where
  pub directives : Looked (header_of bs).directives bs index.directives
  pub clauses : Looked (header_of bs).clauses bs index.clauses
