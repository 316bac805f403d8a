-- What is checked before a call writes: the rows of the table up to 6, as a verdict.
use Rattle.std.specs.Prelude.{ℕ, cond, List, length, ltb, Err}
use Rattle.refusal.specs.declared.Reason.TheVariants.{ShortBuffer, InvalidLine}
use Rattle.refusal.specs.Verdict.{Verdict, fine, refusal_at, fault_by, and_check, text_verdict}
use Rattle.lexer.specs.declared.Language.{Language}
use Rattle.lexer.specs.declared.Prefix.{Prefix}
use Rattle.validation.specs.Validation.{fault}
use Rattle.source.specs.Calls.{is_short}

abbrev pub short_buffer : Verdict
short_buffer = Err (refusal_at ShortBuffer 0)

-- rows 1 to 3
unfoldable pub fit_verdict : List ℕ → ℕ → ℕ → Verdict
unfolding text_verdict
fit_verdict line text_slots map_slots = and_check (text_verdict line) (cond (is_short line text_slots map_slots) short_buffer fine)

-- row 6
abbrev pub lines_verdict : Language → Prefix → List ℕ → Verdict
lines_verdict l p line = fault_by InvalidLine (fault l p line)

-- join alone: rows 1, 2, 3 and 6
unfoldable pub join_verdict : Language → Prefix → List ℕ → ℕ → ℕ → Verdict
unfolding fit_verdict
join_verdict l p line text_slots map_slots = and_check (fit_verdict line text_slots map_slots) (lines_verdict l p line)

-- content copy: rows 1, 2 and 3
unfoldable pub copy_verdict : List ℕ → ℕ → Verdict
copy_verdict content size = and_check (text_verdict content) (cond (ltb size (length content)) short_buffer fine)
