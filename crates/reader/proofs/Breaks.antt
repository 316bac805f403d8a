-- Line breaks in a C text change neither the reading nor the text and records that the whole line leaves, and join alone gives the breaks' map.
-- Whatever a text is woven with, rows 1 to 6 find nothing and the joined text is the text. Assumes nothing.
use Prim.Native.Nat.{ℕ, ◌≤◌, ◌<◌}
use native.Mathlib.Omega.{arith}
use mathlib.Core.Bool.{cond}
use mathlib.Core.Path.{◌≡◌}
use mathlib.Core.List.{List}
use lib.ListN.{length}
use Rattle.refusal.specs.Answer.{refused, unless_fault, max_length}
use Rattle.lexer.specs.declared.Language.TheVariants.{C}
use Rattle.lexer.specs.declared.Prefix.{Prefix}
use Rattle.validation.specs.Validation.{fault}
use Rattle.source.proofs.Woven.{Woven, fits, no-fault, woven-joined, woven-admitted}
use Rattle.source.proofs.BreakLaw.{woven-text, woven-broken, breaks-keep-text}
use Rattle.rulebook.specs.Book.{book_of}
use Rattle.rulebook.specs.Check.{book_fault}
use Rattle.reader.specs.Line.{parsed, suits, line_answer}
use Rattle.reader.specs.Calls.{line_within}
use Rattle.reader.specs.Laws.{BreaksChangeNothing}

-- what the whole line makes of a woven line that passes rows 1 to 3
woven-answer : (p : Prefix) (book : List ℕ) (text_slots map_slots record_slots : ℕ) {t xs : List ℕ} → Woven t xs
    → length xs ≤ max_length → length xs ≤ text_slots → length xs < map_slots
    → line_answer C p book xs text_slots map_slots record_slots
    ≡ unless_fault 4 (book_fault book) (cond (suits C (book_of book)) (parsed (book_of book) C p record_slots t) (refused 5 0))
unfolding line_answer fault
woven-answer p book text_slots map_slots record_slots {t} {xs} w short-enough text-fits map-fits =
    rw (woven-admitted text_slots map_slots w short-enough text-fits map-fits _, no-fault p xs 0 0 (t, w), woven-joined w)

pub breaks-change-nothing : BreaksChangeNothing
unfolding line_within
breaks-change-nothing t plain gap p book text_slots map_slots record_slots a b d =
    let w = woven-broken t gap plain in
    let v = woven-text t plain in
    let f = woven-answer p book text_slots map_slots record_slots w a b d in
    let g = woven-answer p book text_slots map_slots record_slots v (omega (arith, fits w)) (omega (arith, fits w)) (omega (arith, fits w)) in
    let (joins, last) = breaks-keep-text t plain gap p text_slots map_slots a b d in
    (rw (f, g), rw (f, g, woven-joined w, woven-joined v), rw (f, g), joins, last)
