-- A book has no fault, repeats aside, exactly if it has the form that document 01 describes: what is put together so is read without a
-- fault (Composing), and here reading takes it apart byte by byte and entry by entry. Assumes nothing.
use mathlib.Core.Path.{◌≡◌, refl, sym, ap, ◌∙◌}
use mathlib.Core.Bool.{Bool, true, false, ◌&&◌, ◌||◌}
use Rattle.std.specs.Prelude.{Option, Some, None}
use mathlib.Core.List.{List, [], ◌∷◌, ◌++◌}
use Prim.Native.Nat.{ℕ, zero, suc, ◌+◌, ◌-◌, ◌<◌, ◌≤◌}
use native.Mathlib.Omega.{arith}
use lib.ListN.{length}
use lib.Dec.{eqb, ltb, leb}
use borrow.Author.Tests.{ne_eqb, eqb-true, ltb-true, ltb-false, leb-true}
use Rattle.ascii.specs.Ascii.{is_word}
use Rattle.ascii.specs.Text.{bytes, leading}
use Rattle.ascii.proofs.Flags.{by_cases, and_left, and_right}
use Rattle.bookform.specs.declared.Expect.{Expect}
use Rattle.bookform.specs.declared.Expect.TheVariants.{HeaderByte, ClauseCount, DirectiveLength, DirectiveName, Rule, ClauseLength, ClauseName}
use Rattle.bookform.specs.Format.{rule_for, is_known, is_header, is_length, clauses_left, directives_left, stepped, ended_at, bad_from, HasForm}
use Rattle.bookform.specs.Grammar.{IsWords, last, then, Clauses, clause, Entries, clauses, directive, IsBook, FormIsBook}
use Rattle.bookform.specs.Grammar as G
use Rattle.bookform.proofs.Steps.{never, when-next}
use Rattle.bookform.proofs.Composing.{book-fine}

-- rule bytes
known-low : (b : ℕ) → is_known (rule_for b) ≡ true → b < 4
known-low b h =
    by_cases (ltb b 4) (λ t. ltb-true b 4 t)
    (λ t. let l = ltb-false b 4 t in
    let z : ◌≡◌ {A = Bool} false true =
    rw (ne_eqb b 0 (omega arith), ne_eqb b 1 (omega arith), ne_eqb b 2 (omega arith), ne_eqb b 3 (omega arith)) at h in
    let y : ◌≡◌ {A = ℕ} 0 1 = cc in absurd (omega arith))

-- words
word-cons : (x : ℕ) (w : List ℕ) → is_word x ≡ true → leading is_word w ≡ length w → leading is_word (x ∷ w) ≡ suc (length w)
unfolding leading
word-cons x w h e = rw (leading, h, e)

-- the next byte, which leads on
record Byte (e : Expect) (at : ℕ) (bs : List ℕ) : Type 0 where
  b : ℕ
  more : List ℕ
  is : bs ≡ b ∷ more
  next : Expect
  leads : stepped e b ≡ Some next
  fine : bad_from next (suc at) more ≡ None

byte : (e : Expect) (at : ℕ) (bs : List ℕ) → ended_at e at ≡ Some at → bad_from e at bs ≡ None → Byte e at bs
unfolding bad_from
byte e at [] w h = never at (sym w ∙ h)
byte e at (b ∷ bs) w h = go (stepped e b) refl
  where
    go : (s : Option Expect) → stepped e b ≡ s → Byte e at (b ∷ bs)
    go (Some n) q = record { b = b; more = bs; is = refl; next = n; leads = q; fine = rw (bad_from, q) at h }
    go None q = never at (rw (bad_from, q) at h)

-- n bytes with a property, after which a state has no fault ahead
record Bytes (P : List ℕ → Type 0) (e : Expect) (n : ℕ) (bs : List ℕ) : Type 0 where
  name : List ℕ
  more : List ℕ
  is : bs ≡ name ++ more
  long : length name ≡ n
  shaped : P name
  at : ℕ
  fine : bad_from e at more ≡ None

-- a byte more before them
grown : {P Q : List ℕ → Type 0} {e : Expect} {n : ℕ} {bs more : List ℕ} (b : ℕ) → bs ≡ b ∷ more → (t : Bytes P e n more) → Q (b ∷ t.name) → Bytes Q e (suc n) bs
grown b q t s = record { name = b ∷ t.name; more = t.more; is = q ∙ ap (λ l. b ∷ l) t.is; long = ap suc t.long; shaped = s; at = t.at; fine = t.fine }

abbrev AllWord : List ℕ → Type 0
AllWord w = leading is_word w ≡ length w

word_read : (n c at : ℕ) (bs : List ℕ) → bad_from (ClauseName n c) at bs ≡ None → Bytes AllWord (clauses_left c) (suc n) bs
unfolding leading
word_read zero c at bs h =
    let r = byte (ClauseName zero c) at bs refl h in
    let k = when-next (is_word r.b) _ _ r.leads in
    record { name = r.b ∷ []; more = r.more; is = r.is; long = refl; shaped = word-cons r.b [] k.0 refl; at = suc at; fine = rw k.1 at r.fine }
word_read (suc n) c at bs h =
    let r = byte (ClauseName (suc n) c) at bs refl h in
    let k = when-next (is_word r.b) _ _ r.leads in
    let t = word_read n c (suc at) r.more (rw k.1 at r.fine) in
    grown r.b r.is t (word-cons r.b t.name k.0 t.shaped)

length-bounds : (b : ℕ) → is_length b ≡ true → (1 ≤ b) × (b ≤ 64)
length-bounds b h = (leb-true 1 b (and_left (leb 1 b) (leb b 64) h), leb-true b 64 (and_right (leb 1 b) (leb b 64) h))

-- an entry, put for the bytes that it was read from
put : (P : List ℕ → Type 0) (front : List ℕ) (b : ℕ) (name more bs : List ℕ) → bs ≡ front ++ b ∷ name ++ more → b ≡ length name
    → P (front ++ length name ∷ name ++ more) → P bs
put P front b name more bs e q p = rw (e, q) p

clauses-read : (c at : ℕ) (bs : List ℕ) → bad_from (clauses_left c) at bs ≡ None → Clauses c bs
unfolding bad_from
clauses-read zero at [] h = G.none
clauses-read zero at (b ∷ bs) h = never at h
clauses-read (suc c) at bs h =
    let r = byte (Rule c) at bs refl h in
    let k = when-next (is_known (rule_for r.b)) _ _ r.leads in
    let s = byte (ClauseLength c) (suc at) r.more refl (rw k.1 at r.fine) in
    let j = when-next (is_length s.b) _ _ s.leads in
    let l = length-bounds s.b j.0 in
    let t = word_read (s.b - 1) c (suc (suc at)) s.more (rw j.1 at s.fine) in
    let q : s.b ≡ length t.name = omega (arith, t.long) in
    put (λ l. Clauses (suc c) l) (r.b ∷ []) s.b t.name t.more bs (r.is ∙ ap (λ l. r.b ∷ l) (s.is ∙ ap (λ l. s.b ∷ l) t.is)) q
    (clause c r.b t.name t.more (known-low r.b k.0) (record { long = omega arith; all = t.shaped }) (omega arith) (clauses-read c t.at t.more t.fine))

-- what may come in a directive's name after a byte of a word
data Tail : List ℕ → Type 0 where
  full : (w : List ℕ) → AllWord w → Tail w
  parted : (w rest : List ℕ) → AllWord w → IsWords rest → Tail (w ++ 32 ∷ rest)

-- what may come in a directive's name, by whether the byte before is of a word
Shape : Bool → List ℕ → Type 0
Shape true name = Tail name
Shape false name = IsWords name

shape-cons : (w : Bool) (x : ℕ) (t : List ℕ) → is_word x ≡ true → Tail t → Shape w (x ∷ t)
unfolding Shape
shape-cons true x t h (full w a) = full (x ∷ w) (word-cons x w h a)
shape-cons true x t h (parted w rest a is) = parted (x ∷ w) rest (word-cons x w h a) is
shape-cons false x t h (full w a) = last (x ∷ w) (record { long = omega arith; all = word-cons x w h a })
shape-cons false x t h (parted w rest a is) = then (x ∷ w) rest (record { long = omega arith; all = word-cons x w h a }) is

-- a byte of a word, or a blank after one
shape-step : (v w : Bool) (x : ℕ) (t : List ℕ) → is_word x ≡ v → (v || eqb x 32 && w) ≡ true → Shape v t → Shape w (x ∷ t)
unfolding Shape leading
shape-step true w x t e g s = shape-cons w x t e s
shape-step false true x t e g s = let q : x ≡ 32 = eqb-true x 32 (and_left (eqb x 32) true g) in rw q (parted [] t refl s)
shape-step false false x t e g s =
    let z : ◌≡◌ {A = Bool} false true = and_right (eqb x 32) false g in
    let y : ◌≡◌ {A = ℕ} 0 1 = cc in
    absurd (omega arith)

words-read : (n : ℕ) (w : Bool) (d c at : ℕ) (bs : List ℕ) → bad_from (DirectiveName n w d c) at bs ≡ None → Bytes (Shape w) (directives_left d c) (suc n) bs
unfolding leading
words-read zero w d c at bs h =
    let r = byte (DirectiveName zero w d c) at bs refl h in
    let k = when-next (is_word r.b) _ _ r.leads in
    record { name = r.b ∷ []; more = r.more; is = r.is; long = refl; shaped = shape-cons w r.b [] k.0 (full [] refl); at = suc at; fine = rw k.1 at r.fine }
words-read (suc n) w d c at bs h =
    let r = byte (DirectiveName (suc n) w d c) at bs refl h in
    let k = when-next (is_word r.b || eqb r.b 32 && w) _ _ r.leads in
    let t = words-read n (is_word r.b) d c (suc at) r.more (rw k.1 at r.fine) in
    grown r.b r.is t (shape-step (is_word r.b) w r.b t.name refl k.0 t.shaped)

entries-read : (d c at : ℕ) (bs : List ℕ) → bad_from (directives_left d c) at bs ≡ None → Entries d c bs
unfolding Shape
entries-read zero c at bs h = clauses c bs (clauses-read c at bs h)
entries-read (suc d) c at bs h =
    let s = byte (DirectiveLength d c) at bs refl h in
    let j = when-next (is_length s.b) _ _ s.leads in
    let l = length-bounds s.b j.0 in
    let t = words-read (s.b - 1) false d c (suc at) s.more (rw j.1 at s.fine) in
    let q : s.b ≡ length t.name = omega (arith, t.long) in
    put (λ l. Entries (suc d) c l) [] s.b t.name t.more bs (s.is ∙ ap (λ l. s.b ∷ l) t.is) q
    (directive d c t.name t.more t.shaped (omega arith) (entries-read d c t.at t.more t.fine))

-- a byte of the header, with the next to come
record Head (i at : ℕ) (bs : List ℕ) : Type 0 where
  b : ℕ
  more : List ℕ
  is : bs ≡ b ∷ more
  good : is_header i b ≡ true
  fine : bad_from (HeaderByte (i + 1)) (suc at) more ≡ None

head : (i at : ℕ) (bs : List ℕ) → ltb i 7 ≡ true → bad_from (HeaderByte i) at bs ≡ None → Head i at bs
head i at bs t h =
    let r = byte (HeaderByte i) at bs refl h in
    let k = when-next (is_header i r.b) _ _ r.leads in
    record { b = r.b; more = r.more; is = r.is; good = k.0; fine = rw (k.1, t) at r.fine }

headed : (b0 b1 b2 b3 b4 : ℕ) (bs m0 m1 m2 m3 m4 : List ℕ) → bs ≡ b0 ∷ m0 → m0 ≡ b1 ∷ m1 → m1 ≡ b2 ∷ m2 → m2 ≡ b3 ∷ m3 → m3 ≡ b4 ∷ m4
    → 68 ≡ b0 → 82 ≡ b1 → 66 ≡ b2 → b3 ≡ 0 → b4 ≡ 1 → bs ≡ bytes "DRB" ++ (0 ∷ 1 ∷ m4)
headed b0 b1 b2 b3 b4 bs m0 m1 m2 m3 m4 e0 e1 e2 e3 e4 q0 q1 q2 q3 q4 = rw (e0, e1, e2, e3, e4, ← q0, ← q1, ← q2, q3, q4)

counted : (b5 b6 b7 b8 : ℕ) (m4 m5 m6 m7 m8 : List ℕ) → m4 ≡ b5 ∷ m5 → m5 ≡ b6 ∷ m6 → m6 ≡ b7 ∷ m7 → m7 ≡ b8 ∷ m8 → m4 ≡ b5 ∷ b6 ∷ b7 ∷ b8 ∷ m8
counted b5 b6 b7 b8 m4 m5 m6 m7 m8 e5 e6 e7 e8 = rw (e5, e6, e7, e8)

next-is : (e n : Expect) → Some e ≡ Some n → n ≡ e
next-is e n h = cc

book-read : (bs : List ℕ) → HasForm bs → IsBook bs
book-read bs h =
    let r0 = head 0 0 bs refl h in
    let r1 = head 1 1 r0.more refl r0.fine in
    let r2 = head 2 2 r1.more refl r1.fine in
    let r3 = head 3 3 r2.more refl r2.fine in
    let r4 = head 4 4 r3.more refl r3.fine in
    let r5 = head 5 5 r4.more refl r4.fine in
    let r6 = head 6 6 r5.more refl r5.fine in
    let r7 = byte (HeaderByte 7) 7 r6.more refl r6.fine in
    let k7 = when-next (is_header 7 r7.b) _ _ r7.leads in
    let r8 = byte (ClauseCount r7.b) 8 r7.more refl (rw k7.1 at r7.fine) in
    let q = next-is (directives_left r7.b r8.b) r8.next r8.leads in
    record {
      flags = r5.b;
      rule = r6.b;
      d = r7.b;
      c = r8.b;
      entries = r8.more;
      is =
          headed r0.b r1.b r2.b r3.b r4.b bs r0.more r1.more r2.more r3.more r4.more r0.is r1.is r2.is r3.is r4.is
          (eqb-true 68 r0.b r0.good) (eqb-true 82 r1.b r1.good) (eqb-true 66 r2.b r2.good) (eqb-true r3.b 0 r3.good) (eqb-true r4.b 1 r4.good)
          ∙ ap (λ l. bytes "DRB" ++ (0 ∷ 1 ∷ l)) (counted r5.b r6.b r7.b r8.b r4.more r5.more r6.more r7.more r8.more r5.is r6.is r7.is r8.is);
      low_flags = ltb-true r5.b 4 r5.good;
      low_rule = known-low r6.b r6.good;
      some_directive = leb-true 1 r7.b k7.0;
      follow = entries-read r7.b r8.b 9 r8.more (rw q at r8.fine);
    }

pub form-is-book : FormIsBook
form-is-book bs = (book-read bs, book-fine bs)
