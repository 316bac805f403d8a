-- What join alone, map-back and content copy give: the answer, and every lent slot as the call leaves it.
use Rattle.std.specs.Prelude.{ℕ, suc, Bool, cond, ◌||◌, List, length, get_or, ltb}
use Rattle.ascii.specs.declared.Range.{Range}
use Rattle.refusal.specs.Answer.{Answer, given, refused, unless_fault, admitted, max_length, slots}
use Rattle.lexer.specs.declared.Language.{Language}
use Rattle.lexer.specs.declared.Prefix.{Prefix}
use Rattle.validation.specs.Validation.{fault}
use Rattle.source.specs.Joining.{joined_text, joined_map, collapsed}

-- Join alone: the text's length.
pub record JoinCall : Type 0 where
  pub answer : Answer ℕ
  pub text : List ℕ
  pub map : List ℕ

-- row 3, "text, map or copy buffer short": "Text needs as many bytes as the line, the map (16-bit) one slot more"
abbrev pub is_short : List ℕ → ℕ → ℕ → Bool
is_short line text_slots map_slots = ltb text_slots (length line) || ltb map_slots (suc (length line))

-- rows 1, 2, 3 and 6 in this order
unfoldable pub join_answer : Language → Prefix → List ℕ → ℕ → ℕ → Answer ℕ
join_answer l p line text_slots map_slots =
    admitted line (cond (is_short line text_slots map_slots) (refused 3 0) (unless_fault 6 (fault l p line) (given (length (joined_text l line)))))

unfoldable pub join_call : Language → Prefix → List ℕ → ℕ → ℕ → JoinCall
join_call l p line text_slots map_slots =
    let answer = join_answer l p line text_slots map_slots in
    record { answer = answer; text = slots 0 text_slots (λ _. joined_text l line) answer; map = slots 0 map_slots (λ _. joined_map l line) answer }

-- "Map-back (`span`) gives the map's two entries at a joined range's ends." It "takes a map and text length that it checks itself:
-- a length over 16,384 is 1, a map shorter than the length plus one is 3"; 19 "with start above end, or end past the text; always at 0"
unfoldable pub span_answer : List ℕ → ℕ → ℕ → ℕ → Answer Range
span_answer map text_length start end =
    cond (ltb max_length text_length) (refused 1 max_length)
    (cond (ltb (length map) (suc text_length)) (refused 3 0)
    (cond (ltb end start || ltb text_length end) (refused 19 0)
    (given (record { start = get_or map start 0; end = get_or map end 0 }))))

-- Content copy: the copy's length, "into a buffer at least that long"
pub record CopyCall : Type 0 where
  pub answer : Answer ℕ
  pub copy : List ℕ

unfoldable pub copy_call : List ℕ → ℕ → CopyCall
copy_call content size =
    let answer = admitted content (cond (ltb size (length content)) (refused 3 0) (given (length (collapsed content)))) in
    record { answer = answer; copy = slots 0 size (λ _. collapsed content) answer }
