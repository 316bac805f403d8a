-- Examples of joining, validation, map-back and content copy, evaluated.
use Rattle.std.specs.Prelude.{◌≡◌, refl, [], ◌∷◌, ◌++◌}
use Rattle.std.specs.Prelude.{Some, None}
use Rattle.ascii.specs.Text.{bytes, leading, begins, first_high}
use Rattle.refusal.specs.Answer.{given, refused}
use Rattle.lexer.specs.declared.Language.TheVariants.{C, FortranFree}
use Rattle.lexer.specs.declared.Prefix.TheVariants.{Omp}
use Rattle.lexer.specs.Continuation.{break_c, break_f, sentinel, sentinel_ended, sentinel_any, eol, comment_f, marker, lead}
use Rattle.validation.specs.Validation.{code_length, ends_in, continued_f, check_line, fault_from, fault}
use Rattle.source.specs.Joining.{kept_from, joined_text, joined_map, collapsed}
use Rattle.source.specs.Calls.{join_answer, join_call, span_answer, copy_call}

-- the examples of 01 that join
pub joins :
    (join_call C Omp (bytes "a\\\nb") 4 5 ≡ record { answer = given 2; text = bytes "ab" ++ (0 ∷ 0 ∷ []); map = 0 ∷ 3 ∷ 4 ∷ 0 ∷ 0 ∷ [] })
    × (join_call C Omp (bytes "\\\\\n\n") 4 5 ≡ record { answer = given 2; text = bytes "\\\n" ++ (0 ∷ 0 ∷ []); map = 0 ∷ 3 ∷ 4 ∷ 0 ∷ 0 ∷ [] })
    × (join_call C Omp (bytes "x\r") 2 3 ≡ record { answer = refused 6 1; text = 0 ∷ 0 ∷ []; map = 0 ∷ 0 ∷ 0 ∷ [] })
    × (fault FortranFree Omp (bytes "!$omp a &" ++ (11 ∷ 10 ∷ bytes " b")) ≡ None)
    × (joined_text FortranFree (bytes "!$omp a &" ++ (11 ∷ 10 ∷ bytes " b")) ≡ bytes "!$omp a &" ++ (11 ∷ 10 ∷ bytes " b"))
    × (joined_text FortranFree (bytes "a&\n !$omp b") ≡ bytes "a b")
    × (joined_text FortranFree (bytes "a &\n&\nb") ≡ bytes "a \nb")
    × (fault FortranFree Omp (bytes "a &\n !$acc b") ≡ Some 5)
    × (fault FortranFree Omp (bytes "a'&\nb'&!\nc") ≡ Some 8)
    × (fault FortranFree Omp (bytes "a!&\nb") ≡ Some 3)
    × (fault FortranFree Omp (bytes "!$ompa&\nb") ≡ Some 7)
unfolding leading begins first_high break_c break_f sentinel sentinel_ended sentinel_any eol comment_f marker lead code_length ends_in continued_f check_line fault_from fault kept_from joined_text joined_map join_answer join_call
joins = (refl, refl, refl, refl, refl, refl, refl, refl, refl, refl, refl)

pub spans :
    (span_answer (0 ∷ 3 ∷ 4 ∷ []) 2 0 1 ≡ given (record { start = 0; end = 3 }))
    × (span_answer (0 ∷ []) 0 0 0 ≡ given (record { start = 0; end = 0 }))
    × (span_answer (0 ∷ 3 ∷ 4 ∷ []) 2 3 2 ≡ refused 19 0)
    × (span_answer (0 ∷ 3 ∷ []) 2 0 1 ≡ refused 3 0)
unfolding span_answer
spans = (refl, refl, refl, refl)

pub copies :
    (copy_call (bytes "a&\rb") 4 ≡ record { answer = given 2; copy = bytes "ab" ++ (0 ∷ 0 ∷ []) })
    × (copy_call (bytes "a&\n!$acc b") 11 ≡ record { answer = given 3; copy = bytes "a b" ++ (0 ∷ 0 ∷ 0 ∷ 0 ∷ 0 ∷ 0 ∷ 0 ∷ 0 ∷ []) })
    × (copy_call (bytes "a\\\r\nb") 5 ≡ record { answer = given 2; copy = bytes "ab" ++ (0 ∷ 0 ∷ 0 ∷ []) })
    × (copy_call (bytes "a\\\n") 1 ≡ record { answer = refused 3 0; copy = 0 ∷ [] })
unfolding leading begins first_high break_c break_f sentinel sentinel_ended sentinel_any eol comment_f marker lead kept_from collapsed copy_call
copies = (refl, refl, refl, refl)
