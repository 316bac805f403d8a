-- The whole line, once its head is read, its clauses are in their slots and text and map are zeroed behind what stands: all of it is what the definition
-- gives; and what is left of a refusal. By cases of what the clauses gave. Assumes nothing.
use Rattle.std.proofs.Common.{ℕ, ◌≡◌, ◌+◌, ◌-◌, ◌≤◌, refl, sym, ap, ◌∙◌, List, ◌++◌, length, take, replicate, arith}
use Rattle.std.specs.Prelude.{Result, Ok, Err, is_err, true}
use Rattle.ascii.specs.Text.{padded}
use Rattle.ascii.proofs.Slots.{padded-take}
use Rattle.refusal.specs.Table.{number_of}
use Rattle.refusal.specs.declared.Refusal.{Refusal}
use Rattle.refusal.specs.Answer.{Answer, given, refused, refused_by, told, and_then, slots}
use Rattle.refusal.proofs.Answers.{never}
use Rattle.lexer.specs.declared.Language.{Language}
use Rattle.lexer.specs.declared.Prefix.{Prefix}
use Rattle.source.specs.Joining.{joined_text, joined_map}
use Rattle.clause.specs.declared.ClauseRecord.{ClauseRecord}
use Rattle.clause.specs.declared.SequenceEnd.{SequenceEnd}
use Rattle.clause.specs.Clause.{zero_record}
use Rattle.clause.specs.Sequence.{Sequence}
use Rattle.clause.specs.Calls.{SequenceCall, counted}
use Rattle.clause.specs.Steps.{read_on, settled}
use Rattle.directive.specs.declared.DirectiveName.{DirectiveName}
use Rattle.reader.specs.declared.heading.Head.{Head}
use Rattle.reader.specs.declared.Reading.{Reading}
use Rattle.reader.specs.Line.{Parsed, line_answer}
use Rattle.reader.specs.Calls.{reading_of, line_call, line_within}
use Rattle.reader.specs.Steps.{behind, answered, Leaves, HeadLeaves}

-- the clauses that were read behind a name
refused-of : (r : Refusal) (x : Answer Sequence) → refused_by r ≡ and_then x (λ s. given (counted s)) → x ≡ refused_by r
refused-of r (given s) h = never _ _ _ _ h
refused-of r (refused n p) h =
    let a : number_of r.reason ≡ n = cc in
    let b : r.place ≡ p = cc in
    rw (a, b)

answer-given : (name : DirectiveName) (e : SequenceEnd) (x : Answer Sequence) → given e ≡ and_then x (λ s. given (counted s))
    → given (answered name e) ≡ and_then (behind name x) (λ p. given (reading_of p))
answer-given name e (given s) h =
    let q : e ≡ counted s = cc in
    rw q refl
answer-given name e (refused n p) h = never _ n p e (sym h)

kept-slots : (name : DirectiveName) (e : SequenceEnd) (x : Answer Sequence) (size : ℕ) (ys : List ℕ) → given e ≡ and_then x (λ s. given (counted s))
    → padded 0 size ys ≡ slots 0 size (λ (_ : Parsed). ys) (behind name x)
kept-slots name e (given s) size ys h = refl
kept-slots name e (refused n p) size ys h = never _ n p e (sym h)

record-slots : (size : ℕ) (name : DirectiveName) (x : Answer Sequence)
    → slots zero_record size (λ s. s.clauses) x ≡ slots zero_record size (λ (p : Parsed). p.sequence.clauses) (behind name x)
record-slots size name (given s) = refl
record-slots size name (refused n p) = refl

module _ (l : Language) (p : Prefix) (bk line : List ℕ) (room : ℕ) where
  pub within-refused : (ts ms size : ℕ) (r : Refusal) → line_answer l p bk line ts ms room ≡ refused_by r
      → (line_within l p bk line ts ms room size).answer ≡ refused_by r
  unfolding line_within
  within-refused ts ms size r e = rw e

  pub within-zeroed : (ts ms size : ℕ) (r : Refusal) → (line_within l p bk line ts ms room size).answer ≡ refused_by r
      → record { answer = refused_by r; text = replicate ts 0; map = replicate ms 0; records = replicate size zero_record } ≡ line_within l p bk line ts ms room size
  unfolding line_within
  within-zeroed ts ms size r e = go (line_answer l p bk line ts ms room) refl e
    where
      go : (x : Answer Parsed) → line_answer l p bk line ts ms room ≡ x → and_then x (λ a. given (reading_of a)) ≡ refused_by r
          → record { answer = refused_by r; text = replicate ts 0; map = replicate ms 0; records = replicate size zero_record } ≡ line_within l p bk line ts ms room size
      go (given a) q h = never _ _ _ _ (sym h)
      go (refused n k) q h =
          let a : ts - 0 ≡ ts = omega arith in
          let b : ms - 0 ≡ ms = omega arith in
          let d : size - 0 ≡ size = omega arith in
          rw (line_within, q, ← h, a, b, d)

  -- what is left of a refusal, once all is zeroed
  pub within-left : (ts ms size : ℕ) (t m t' m' : List ℕ) (rs rs' : List ClauseRecord) (r : Result Reading Refusal) → is_err r ≡ true
      → Leaves (line_within l p bk line ts ms room size) t m rs r → t' ≡ replicate ts 0 → m' ≡ replicate ms 0 → rs' ≡ replicate size zero_record
      → record { answer = told r; text = t'; map = m'; records = rs' } ≡ line_within l p bk line ts ms room size
  within-left ts ms size t m t' m' rs rs' (Ok r) e k a b d = cc
  within-left ts ms size t m t' m' rs rs' (Err r) e k a b d = rw (a, b, d) (within-zeroed ts ms size r k)

  module _ (text map : List ℕ) (h : Head) (g : HeadLeaves l p bk line room text map h) where
    -- the clauses are refused
    pub clauses-refused : (r : Refusal) → refused_by r ≡ and_then (read_on bk (take h.length text) h.start) (λ s. given (counted s))
        → line_answer l p bk line (length text) (length map) room ≡ refused_by r
    clauses-refused r e = sym g.heads.reads ∙ rw (refused-of r _ e)

    -- or counted
    pub clauses-counted : (e : SequenceEnd) → given e ≡ and_then (read_on bk (take h.length text) h.start) (λ s. given (counted s))
        → given (answered h.name e) ≡ (line_call l p bk line (length text) (length map) room).answer
    unfolding line_within
    clauses-counted e q =
        let x : Answer Sequence = read_on bk (take h.length text) h.start in
        let d : line_answer l p bk line (length text) (length map) room ≡ behind h.name x = sym g.heads.reads in
        rw d (answer-given h.name e x q)

    -- or in their slots, with zeros behind text and map
    pub line-settles : (size : ℕ) (text' map' : List ℕ) (rs : List ClauseRecord) (e : SequenceEnd)
        → record { answer = given e; records = rs } ≡ settled size (read_on bk (take h.length text) h.start)
        → text' ≡ take h.length text ++ replicate (length text - h.length) 0 → map' ≡ take (h.length + 1) map ++ replicate (length map - (h.length + 1)) 0
        → record { answer = given (answered h.name e); text = text'; map = map'; records = rs } ≡ line_within l p bk line (length text) (length map) room size
    unfolding line_within
    line-settles size text' map' rs e q t m =
        let x : Answer Sequence = read_on bk (take h.length text) h.start in
        let d : line_answer l p bk line (length text) (length map) room ≡ behind h.name x = sym g.heads.reads in
        let w : given e ≡ and_then x (λ s. given (counted s)) = ap (λ (k : SequenceCall). k.answer) q in
        let k : rs ≡ slots zero_record size (λ s. s.clauses) x = ap (λ (k : SequenceCall). k.records) q in
        let n : h.length + 1 ≤ length map = omega (arith, g.within.1) in
        let t' = padded-take 0 text h.length g.within.0 g.texts in
        let m' = padded-take 0 map (h.length + 1) n g.maps in
        rw (
          t,
          m,
          k,
          d,
          t',
          m',
          answer-given h.name e x w,
          kept-slots h.name e x (length text) (joined_text l line) w,
          kept-slots h.name e x (length map) (joined_map l line) w,
          record-slots size h.name x,
        ) refl

    -- the same of the slots as they were lent, and of the book as it was handed over
    pub line-done : (size ts ms : ℕ) (given-book text' map' : List ℕ) (rs : List ClauseRecord) (e : SequenceEnd) → bk ≡ given-book → length text ≡ ts → length map ≡ ms
        → record { answer = given e; records = rs } ≡ settled size (read_on bk (take h.length text) h.start)
        → text' ≡ take h.length text ++ replicate (length text - h.length) 0 → map' ≡ take (h.length + 1) map ++ replicate (length map - (h.length + 1)) 0
        → record { answer = given (answered h.name e); text = text'; map = map'; records = rs } ≡ line_within l p given-book line ts ms room size
    line-done size ts ms given-book text' map' rs e b u v q t m = rw (← b, ← u, ← v) (line-settles size text' map' rs e q t m)
