-- What a verdict says of the call that it opens: its answer, its slots, and that what is written fits.
-- Assumes nothing.
use mathlib.Core.Path.{◌≡◌, refl, sym, ap, ◌∙◌}
use mathlib.Core.Bool.{Bool, true, false, cond}
use Rattle.std.specs.Prelude.{Err}
use mathlib.Core.List.{List}
use Prim.Native.Nat.{ℕ, suc, ◌+◌, ◌-◌, ◌≤◌, ◌<◌}
use native.Mathlib.Nat.{sub-zero}
use native.Mathlib.Omega.{arith}
use lib.ListN.{length, take, replicate}
use lib.Dec.{ltb}
use borrow.Rule.Slice.PartMut.{put_mid}
use borrow.Author.Tests.{ltb-false}
use Rattle.ascii.proofs.Slots.{padded-take, zeros-behind}
use Rattle.ascii.proofs.Flags.{or-none}
use Rattle.refusal.specs.declared.Reason.TheVariants.{InvalidLine}
use Rattle.refusal.specs.declared.Refusal.{Refusal}
use Rattle.refusal.specs.Answer.{Answer, given, refused, refused_by, admitted, max_length}
use Rattle.refusal.specs.Verdict.{fine, text_verdict, or_refused}
use Rattle.refusal.proofs.Admission.{fault-refused, and_check-refused, and_check-first, and_check-second, admits, admits-length}
use Rattle.lexer.specs.declared.Language.{Language}
use Rattle.lexer.specs.declared.Prefix.{Prefix}
use Rattle.validation.specs.Validation.{fault}
use Rattle.source.specs.Joining.{joined_text, joined_map, collapsed}
use Rattle.source.specs.Calls.{is_short, join_answer, join_call, copy_call}
use Rattle.source.specs.Verdicts.{short_buffer, fit_verdict, lines_verdict, join_verdict, copy_verdict}

room-refused : {A : Type 0} (b : Bool) (a : Answer A) → or_refused (cond b short_buffer fine) a ≡ cond b (refused 3 0) a
room-refused true a = refl
room-refused false a = refl

room-fine : (b : Bool) → cond b short_buffer fine ≡ fine → b ≡ false
room-fine false e = refl
room-fine true e = cc

-- a line that fits, for join alone and for a whole line
pub fit-refused : {A : Type 0} (line : List ℕ) (text_slots map_slots : ℕ) (a : Answer A)
    → or_refused (fit_verdict line text_slots map_slots) a ≡ admitted line (cond (is_short line text_slots map_slots) (refused 3 0) a)
unfolding fit_verdict
fit-refused line text_slots map_slots a =
    let w = cond (is_short line text_slots map_slots) short_buffer fine in
    and_check-refused (text_verdict line) w a ∙ admits line (or_refused w a) ∙ ap (admitted line) (room-refused (is_short line text_slots map_slots) a)

pub fit-bounds : (line : List ℕ) (text_slots map_slots : ℕ) → fit_verdict line text_slots map_slots ≡ fine
    → (length line ≤ max_length) × (length line ≤ text_slots) × (length line < map_slots)
unfolding fit_verdict
fit-bounds line text_slots map_slots e =
    let w = cond (is_short line text_slots map_slots) short_buffer fine in
    let b = room-fine (is_short line text_slots map_slots) (and_check-second (text_verdict line) w e) in
    let o = or-none (ltb text_slots (length line)) (ltb map_slots (suc (length line))) b in
    (admits-length line (and_check-first (text_verdict line) w e), ltb-false text_slots (length line) o.0, ltb-false map_slots (suc (length line)) o.1)

module _ (l : Language) (p : Prefix) (line : List ℕ) (text_slots map_slots : ℕ) where
  join-answer : join_answer l p line text_slots map_slots ≡ or_refused (join_verdict l p line text_slots map_slots) (given (length (joined_text l line)))
  unfolding join_answer join_verdict
  join-answer =
      let a : Answer ℕ = given (length (joined_text l line)) in
      let w = lines_verdict l p line in
      sym (
      and_check-refused (fit_verdict line text_slots map_slots) w a
      ∙ fit-refused line text_slots map_slots (or_refused w a)
      ∙ ap (λ x. admitted line (cond (is_short line text_slots map_slots) (refused 3 0) x)) (fault-refused InvalidLine (fault l p line) a)
      )

  -- what the slots hold after a refusal, and after the line is joined into them
  pub join-refused : (r : Refusal) (text map : List ℕ) → join_verdict l p line text_slots map_slots ≡ Err r → text ≡ replicate text_slots 0 → map ≡ replicate map_slots 0
      → record { answer = refused_by r; text = text; map = map } ≡ join_call l p line text_slots map_slots
  unfolding join_call
  join-refused r text map e t m = rw (join-answer, e, t, m, sub-zero, sub-zero)

  pub join-done : (n : ℕ) (t m text map : List ℕ) → join_verdict l p line text_slots map_slots ≡ fine → length t ≡ text_slots → length m ≡ map_slots → n ≤ text_slots → n < map_slots
      → n ≡ length (joined_text l line) → take n t ≡ joined_text l line → take (n + 1) m ≡ joined_map l line
      → text ≡ replicate (length t - n) 0 → map ≡ replicate (length m - (n + 1)) 0
      → record { answer = given n; text = put_mid n (length t - n) t text; map = put_mid (n + 1) (length m - (n + 1)) m map } ≡ join_call l p line text_slots map_slots
  unfolding join_call
  join-done n t m text map e u v h g c x y f k =
      let a = zeros-behind 0 t text n (omega arith) f ∙ padded-take 0 t n (omega arith) x in
      let b = zeros-behind 0 m map (n + 1) (omega arith) k ∙ padded-take 0 m (n + 1) (omega arith) y in
      rw (join-answer, e, a, b, u, v, c)

  pub join-fits : join_verdict l p line text_slots map_slots ≡ fine → (length line ≤ max_length) × (length line ≤ text_slots) × (length line < map_slots)
  unfolding join_verdict
  join-fits e = fit-bounds line text_slots map_slots (and_check-first (fit_verdict line text_slots map_slots) (lines_verdict l p line) e)

module _ (content : List ℕ) (size : ℕ) where
  copy-answer : admitted content (cond (ltb size (length content)) (refused 3 0) (given (length (collapsed content)))) ≡ or_refused (copy_verdict content size) (given (length (collapsed content)))
  unfolding copy_verdict
  copy-answer =
      let a : Answer ℕ = given (length (collapsed content)) in
      let w = cond (ltb size (length content)) short_buffer fine in
      sym (and_check-refused (text_verdict content) w a ∙ admits content (or_refused w a) ∙ ap (admitted content) (room-refused (ltb size (length content)) a))

  pub copy-refused : (r : Refusal) (copy : List ℕ) → copy_verdict content size ≡ Err r → copy ≡ replicate size 0 → record { answer = refused_by r; copy = copy } ≡ copy_call content size
  unfolding copy_call
  copy-refused r copy e z = rw (copy-answer, e, z, sub-zero)

  pub copy-done : (n : ℕ) (t copy : List ℕ) → copy_verdict content size ≡ fine → length t ≡ size → n ≤ size → n ≡ length (collapsed content) → take n t ≡ collapsed content
      → copy ≡ replicate (length t - n) 0 → record { answer = given n; copy = put_mid n (length t - n) t copy } ≡ copy_call content size
  unfolding copy_call
  copy-done n t copy e u h c x f =
      let a = zeros-behind 0 t copy n (omega arith) f ∙ padded-take 0 t n (omega arith) x in
      rw (copy-answer, e, a, u, c)

  pub copy-fits : copy_verdict content size ≡ fine → length content ≤ size
  unfolding copy_verdict
  copy-fits e =
      let w = cond (ltb size (length content)) short_buffer fine in
      ltb-false size (length content) (room-fine (ltb size (length content)) (and_check-second (text_verdict content) w e))
