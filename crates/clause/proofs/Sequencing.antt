-- Iterating the step gives the sequence that the definitions give: its answer, and its records.
-- One step takes one clause off what is read from a state on; the whole is by induction on the number of slots.
use Prim.Native.Nat.{ℕ, zero, suc, ◌+◌, ◌-◌, ◌≤◌, ◌<◌}
use mathlib.Core.Bool.{Bool, true, false, cond, ◌&&◌, true≢false}
use mathlib.Core.Path.{◌≡◌, refl, sym, ap, subst, ◌∙◌}
use mathlib.Core.List.{List, [], ◌∷◌}
use native.Mathlib.Omega.{arith}
use lib.ListN.{length, drop, replicate, length-drop}
use lib.Seq.{drop-drop}
use lib.Dec.{eqb}
use borrow.Author.Tests.{eqb-true, eqb-false}
use Rattle.std.specs.Prelude.{Result, Ok, Err, is_err}
use Rattle.ascii.specs.Text.{padded}
use Rattle.refusal.specs.declared.Refusal.{Refusal}
use Rattle.refusal.specs.Table.{number_of}
use Rattle.refusal.specs.Answer.{Answer, given, refused, refused_by, told}
use Rattle.rulebook.specs.Book.{Book, book_of}
use Rattle.clause.specs.declared.ClauseRecord.{ClauseRecord}
use Rattle.clause.specs.declared.Progress.{Progress}
use Rattle.clause.specs.declared.Progress.TheVariants.{Going, Ended, Refused}
use Rattle.clause.specs.declared.SequenceState.{SequenceState}
use Rattle.clause.specs.declared.SequenceEnd.{SequenceEnd}
use Rattle.clause.specs.declared.ClauseRead.{ClauseRead}
use Rattle.clause.specs.declared.ClauseError.TheVariants.{Failed, Deep}
use Rattle.clause.specs.declared.Separation.{Separation}
use Rattle.clause.specs.Clause.{Read, clause_at, zero_record}
use Rattle.clause.specs.Sequence.{Sequence, separated, consed, flagged, is_unsupported, sequence_from}
use Rattle.clause.specs.Calls.{SequenceCall}
use Rattle.clause.specs.Steps.{Started, Ready, WhenGoing, Proper, still, taken, onward, next_state, state_at, records_from, answer_of, read_from, read_on, settled}
use Rattle.clause.proofs.Extents.{clause-ends, separator-follows}
use Rattle.clause.proofs.Properness.{proper-next}
use Rattle.clause.proofs.Filling.{length-records}

-- bytes that are passed over
pass : (book : Book) (t : List ℕ) (room : ℕ) (comma : Bool) (k at : ℕ) (xs : List ℕ) → k ≤ length xs
    → sequence_from book t room comma k at xs ≡ sequence_from book t room comma zero (at + k) (drop k xs)
unfolding sequence_from
pass book t room comma zero at xs h = let e : at + 0 ≡ at = omega arith in rw e refl
pass book t room comma (suc k) at [] h = absurd (omega arith)
pass book t room comma (suc k) at (x ∷ xs) h =
    let e : at + suc k ≡ suc at + k = omega arith in
    rw e (pass book t room comma k (suc at) xs (omega arith))

pass_on : (book : Book) (t : List ℕ) (room : ℕ) (comma : Bool) (at next x : ℕ) (xs : List ℕ) → drop at t ≡ x ∷ xs → at < next → next ≤ length t
    → sequence_from book t room comma (next - suc at) (suc at) xs ≡ sequence_from book t room comma zero next (drop next t)
pass_on book t room comma at next x xs d l h =
    let q : at + 1 ≡ suc at = omega arith in
    let f : xs ≡ drop (suc at) t = sym (ap (drop 1) d) ∙ drop-drop 1 at t ∙ ap (λ (k : ℕ). drop k t) q in
    let n : length xs ≡ length t - suc at = ap length f ∙ length-drop (suc at) t in
    let e : suc at + (next - suc at) ≡ next = omega arith in
    let g : drop (next - suc at) xs ≡ drop next t = ap (drop (next - suc at)) f ∙ drop-drop (next - suc at) (suc at) t ∙ ap (λ (k : ℕ). drop k t) e in
    pass book t room comma (next - suc at) (suc at) xs (omega arith) ∙ rw (e, g) refl

-- One step, from a state whose progress is p and from which a is read: it goes on with a clause less, the list is over, or it is refused.
data Stepped (bk t : List ℕ) (p : Progress) (a : Answer Sequence) (s s' : SequenceState) : Type 0 where
  went : p ≡ Going → s'.progress ≡ Going → s.left ≡ suc s'.left → s'.count ≡ s.count + 1 → a ≡ consed s'.clause (read_on bk t s') → Stepped bk t p a s s'
  over : s'.progress ≡ Ended → s'.clause ≡ zero_record → s'.count ≡ s.count → a ≡ given (record { clauses = []; rest = s'.at }) → Stepped bk t p a s s'
  shut : (r : Refusal) → s'.progress ≡ Refused r → a ≡ refused_by r → Stepped bk t p a s s'

module _ (bk t : List ℕ) (s : SequenceState) (ready : Ready t s) where
  abbrev book : Book
  book = book_of bk

  step-read : (x : ℕ) (xs : List ℕ) → drop s.at t ≡ x ∷ xs
      → Stepped bk t Going (sequence_from (book_of bk) t s.left s.comma zero s.at (x ∷ xs)) s (taken (book_of bk) t s (clause_at (book_of bk) t s.at))
  unfolding sequence_from
  step-read x xs d = go-read (clause_at (book_of bk) t s.at) refl
    where
      Goal : Type 0
      Goal = Stepped bk t Going (sequence_from (book_of bk) t s.left s.comma zero s.at (x ∷ xs)) s (taken (book_of bk) t s (clause_at (book_of bk) t s.at))

      go-default : (r : Refusal) (b : Bool) → clause_at (book_of bk) t s.at ≡ Err (Failed r) → is_unsupported (book_of bk).default ≡ b → Goal
      go-default r true e f = rw (sequence_from, e, f) (shut r refl refl)
      go-default r false e f = rw (sequence_from, e, f) (over refl refl refl refl)

      go-next : (c : ClauseRead) (n : Result Separation Refusal) → clause_at (book_of bk) t s.at ≡ Ok c → eqb s.left 0 ≡ false → separated (book_of bk).ignores_case t c.end ≡ n → Goal
      go-next c (Ok n) e f g =
          let b = rw e at (clause-ends (book_of bk) t s.at ready.inside) in
          let h = rw g at (separator-follows (book_of bk).ignores_case t c.end b.1) in
          let l : s.left ≡ suc (s.left - 1) = omega (arith, eqb-false s.left 0 f) in
          rw (sequence_from, e, f, g)
          (went refl refl l refl (ap (consed (flagged c.clause s.comma (n.comma && eqb n.next (length t)))) (pass_on (book_of bk) t (s.left - 1) n.comma s.at n.next x xs d (omega arith) h.1)))
      go-next c (Err r) e f g = rw (sequence_from, e, f, g) (shut r refl refl)

      go-room : (c : ClauseRead) (b : Bool) → clause_at (book_of bk) t s.at ≡ Ok c → eqb s.left 0 ≡ b → Goal
      go-room c true e f = rw (sequence_from, e, f) (shut _ refl refl)
      go-room c false e f = go-next c (separated (book_of bk).ignores_case t c.end) e f refl

      go-read : (c : Read) → clause_at (book_of bk) t s.at ≡ c → Goal
      go-read (Ok c) e = go-room c (eqb s.left 0) e refl
      go-read (Err (Failed r)) e = go-default r (is_unsupported (book_of bk).default) e refl
      go-read (Err (Deep p)) e = rw (sequence_from, e) (shut _ refl refl)

  step-at : (b : Bool) (xs : List ℕ) → eqb s.at (length t) ≡ b → drop s.at t ≡ xs
      → Stepped bk t Going (sequence_from (book_of bk) t s.left s.comma zero s.at xs) s (cond b (still s Ended) (taken (book_of bk) t s (clause_at (book_of bk) t s.at)))
  unfolding sequence_from
  step-at true [] e d = over refl refl refl refl
  step-at true (x ∷ xs) e d = let n = sym (length-drop s.at t) ∙ ap length d in absurd (omega (arith, eqb-true s.at (length t) e))
  step-at false [] e d = let n = sym (length-drop s.at t) ∙ ap length d in absurd (omega (arith, eqb-false s.at (length t) e, ready.inside))
  step-at false (x ∷ xs) e d = step-read x xs d

stepped_by : (bk t : List ℕ) (s : SequenceState) (p : Progress) → WhenGoing p (Ready t s) → Stepped bk t p (read_from bk t s p) s (onward (book_of bk) t s p)
stepped_by bk t s Going ready = step-at bk t s ready (eqb s.at (length t)) (drop s.at t) refl refl
stepped_by bk t s Ended h = over refl refl refl refl
stepped_by bk t s (Refused r) h = shut r refl refl

stepped : (bk t : List ℕ) (s : SequenceState) → Proper t s → Stepped bk t s.progress (read_on bk t s) s (next_state bk t s)
unfolding next_state
stepped bk t s h = stepped_by bk t s s.progress h

-- The last state and the records of n slots are those of what was read: c clauses were counted before.
abbrev Fulfils : SequenceState → List ClauseRecord → ℕ → ℕ → Answer Sequence → Type 0
Fulfils last rs n c (given q) = (answer_of last ≡ Ok (record { count = c + length q.clauses; rest = q.rest })) × (rs ≡ padded zero_record n q.clauses)
Fulfils last rs n c (refused m p) = (r : Refusal) × (answer_of last ≡ Err r) × (m ≡ number_of r.reason) × (p ≡ r.place)

grow : (last : SequenceState) (rs : List ClauseRecord) (n d c : ℕ) (r : ClauseRecord) (x : Answer Sequence) → d ≡ c + 1 → Fulfils last rs n d x → Fulfils last (r ∷ rs) (suc n) c (consed r x)
grow last rs n d c r (given q) e h =
    let k : d + length q.clauses ≡ c + suc (length q.clauses) = omega arith in
    let m : suc n - suc (length q.clauses) ≡ n - length q.clauses = omega arith in
    (rw k at h.0, rw m (ap (λ (l : List ClauseRecord). r ∷ l) h.1))
grow last rs n d c r (refused m p) e h = h

add_step : (bk t : List ℕ) (last : SequenceState) (rs : List ClauseRecord) (n : ℕ) (p : Progress) (a : Answer Sequence) (s s' : SequenceState) → Stepped bk t p a s s' → WhenGoing p (s.left ≤ suc n)
    → (WhenGoing s'.progress (s'.left ≤ n) → Fulfils last rs n s'.count (read_on bk t s')) → Fulfils last (s'.clause ∷ rs) (suc n) s.count a
add_step bk t last rs n p a s s' (went e f l c g) room later =
    let h : s.left ≤ suc n = rw e at room in
    let k : s'.left ≤ n = omega arith in
    rw g (grow last rs n s'.count s.count s'.clause (read_on bk t s') c (later (rw f k)))
add_step bk t last rs n p a s s' (over f z c g) room later =
    let h = rw f at (later (rw f tt)) in
    let m : suc n - 0 ≡ suc (n - 0) = omega arith in
    rw (g, z) (rw c at h.0, rw m (ap (λ (l : List ClauseRecord). zero_record ∷ l) h.1))
add_step bk t last rs n p a s s' (shut r f g) room later =
    let h = rw f at (later (rw f tt)) in
    rw g h

last_step : (bk t : List ℕ) (p : Progress) (a : Answer Sequence) (s s' : SequenceState) → Stepped bk t p a s s' → WhenGoing p (s.left ≤ 0) → Fulfils s' [] 0 s.count a
last_step bk t p a s s' (went e f l c g) room = let h : s.left ≤ 0 = rw e at room in absurd (omega arith)
last_step bk t p a s s' (over f z c g) room =
    let k : s.count + 0 ≡ s.count = omega arith in
    rw (g, f, k, c) (refl, refl)
last_step bk t p a s s' (shut r f g) room = rw (g, f) (r, refl, refl, refl)

module _ (bk t : List ℕ) where
  state-first : (s : SequenceState) (i : ℕ) → state_at bk t s (suc i) ≡ state_at bk t (next_state bk t s) i
  unfolding state_at
  state-first s zero = refl
  state-first s (suc i) = ap (next_state bk t) (state-first s i)

  records-first : (s : SequenceState) (i n : ℕ) → records_from bk t s (suc i) n ≡ records_from bk t (next_state bk t s) i n
  unfolding records_from
  records-first s i zero = refl
  records-first s i (suc n) = rw (state-first s (suc i), records-first s (suc i) n) refl

  fulfilled : (n : ℕ) (s : SequenceState) → Proper t s → WhenGoing s.progress (s.left ≤ n) → Fulfils (next_state bk t (state_at bk t s n)) (records_from bk t s 0 n) n s.count (read_on bk t s)
  unfolding state_at records_from
  fulfilled zero s h room = last_step bk t s.progress (read_on bk t s) s (next_state bk t s) (stepped bk t s h) room
  fulfilled (suc n) s h room =
      rw (state-first s n, records-first s 0 n)
      (add_step bk t (next_state bk t (state_at bk t (next_state bk t s) n)) (records_from bk t (next_state bk t s) 0 n) n s.progress (read_on bk t s) s (next_state bk t s) (stepped bk t s h) room
      (fulfilled n (next_state bk t s) (proper-next bk t s h)))

when-going : (p : Progress) (P : Type 0) → P → WhenGoing p P
when-going Going P h = h
when-going Ended P h = tt
when-going (Refused r) P h = tt

-- what the slots hold in the end: the records, or nothing after a refusal
abbrev pub left_by : Result SequenceEnd Refusal → List ClauseRecord → List ClauseRecord
left_by (Ok e) rs = rs
left_by (Err r) rs = replicate (length rs) zero_record

pub left-err : (r : Result SequenceEnd Refusal) (rs us : List ClauseRecord) → is_err r ≡ true → us ≡ replicate (length rs) zero_record → us ≡ left_by r rs
left-err (Ok e) rs us h g = absurd (true≢false (sym h))
left-err (Err r) rs us h g = g

pub left-ok : (r : Result SequenceEnd Refusal) (rs : List ClauseRecord) → is_err r ≡ false → rs ≡ left_by r rs
left-ok (Ok e) rs h = refl
left-ok (Err r) rs h = absurd (true≢false h)

settle : (last : SequenceState) (rs : List ClauseRecord) (n : ℕ) (x : Answer Sequence) → length rs ≡ n → Fulfils last rs n 0 x → (r : Result SequenceEnd Refusal) (us : List ClauseRecord)
    → r ≡ answer_of last → us ≡ left_by r rs → ◌≡◌ {A = SequenceCall} (record { answer = told r; records = us }) (settled n x)
settle last rs n (given q) l h r us e g =
    let i : 0 + length q.clauses ≡ length q.clauses = omega arith in
    let o : r ≡ Ok (record { count = length q.clauses; rest = q.rest }) = e ∙ rw i at h.0 in
    let u : us ≡ padded zero_record n q.clauses = rw o at g ∙ h.1 in
    rw (o, u) refl
settle last rs n (refused m p) l h r us e g =
    let o : r ≡ Err h.0 = e ∙ h.1 in
    let z : n - 0 ≡ n = omega arith in
    let u : us ≡ replicate (n - 0) zero_record = rw z (rw (o, l) at g) in
    rw (o, u, h.2, h.3) refl

pub settles : (bk t : List ℕ) (s : SequenceState) (n : ℕ) → Started t n s → (r : Result SequenceEnd Refusal) (rs us : List ClauseRecord)
    → r ≡ answer_of (next_state bk t (state_at bk t s n)) → rs ≡ records_from bk t s 0 n → us ≡ left_by r rs
    → ◌≡◌ {A = SequenceCall} (record { answer = told r; records = us }) (settled n (read_on bk t s))
settles bk t s n started r rs us e₁ e₂ e₃ =
    settle (next_state bk t (state_at bk t s n)) (records_from bk t s 0 n) n (read_on bk t s) (length-records bk t s 0 n)
    (subst (λ (c : ℕ). Fulfils (next_state bk t (state_at bk t s n)) (records_from bk t s 0 n) n c (read_on bk t s)) started.none_yet
    (fulfilled bk t n s started.proper (when-going s.progress (s.left ≤ n) started.room))) r us e₁ (rw e₂ at e₃)
