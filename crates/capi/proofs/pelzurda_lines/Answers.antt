-- `pelzurda_lines` meets its contract: the answers of the lines, their number, and the working space zeroed.
use Rattle.std.proofs.Common.{◌≡◌, ◌∙◌, refl, ℕ, List, length, replicate, ap, arith}
use Rattle.std.proofs.lemmas.Grind.{common_steps}
use Rattle.lexer.specs.declared.Dialect.{Dialect}
use Rattle.coded.specs.Lines.{LinesCall, line_between, lines_call}
use Rattle.capi.proofs.pelzurda_lines.Goals as goal

-- the parts of what is answered, each by itself
parts : {n m : ℕ} {text map : List ℕ} {xs ys : List (List ℕ)} (text_slots map_slots : ℕ) → n ≡ m → text ≡ replicate text_slots 0 → map ≡ replicate map_slots 0 → xs ≡ ys
    → ◌≡◌ {A = LinesCall} record { count = n; text = text; map = map; answers = xs } record { count = m; text = replicate text_slots 0; map = replicate map_slots 0; answers = ys }
parts text_slots map_slots n t m xs = rw (n, t, m, xs) refl

pub returns : goal.returns
unfolding line_between
returns c =
    let a = c.args in
    parts (length a.text.now) (length a.map.now) c.answer_parts-count.ensures.count (grind (arith, common_steps)) (grind (arith, common_steps)) c.answer_parts-count.ensures.each
    ∙ ap (λ (d : Dialect). lines_call d.language d.prefix a.book.now a.lines.now a.ends.now (length a.text.now) (length a.map.now) a.slots (length a.answers.now)) c.dialect_of.ensures
