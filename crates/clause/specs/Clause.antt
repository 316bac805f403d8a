-- One clause: its word, its rule under the book, and its argument.
use Rattle.std.specs.Prelude.{ℕ, suc, ◌+◌, ◌-◌, ◌≤◌, ◌<◌, Bool, true, false, cond, List, length, take, drop, eqb, Option, Some, None, Result, Ok, Err}
use Rattle.ascii.specs.Ascii.{is_word}
use Rattle.ascii.specs.Text.{starts, leading, trimmed}
use Rattle.ascii.specs.declared.Range.{Range}
use Rattle.refusal.specs.declared.Reason.{Reason}
use Rattle.refusal.specs.declared.Refusal.{Refusal}
use Rattle.refusal.specs.Answer.{max_length}
use Rattle.refusal.specs.Verdict.{refusal_at}
use Rattle.code.specs.declared.CommentStyle.{CommentStyle}
use Rattle.code.specs.declared.CommentStyle.TheVariants.{CLike, Fortran}
use Rattle.code.specs.declared.NoMatch.{NoMatch}
use Rattle.code.specs.Matching.{matching}
use Rattle.lexer.specs.Trivia.{skip}
use Rattle.bookform.specs.declared.ClauseRule.{ClauseRule}
use Rattle.bookform.specs.declared.ClauseRule.TheVariants.{Bare, Parenthesized, Flexible, Unsupported}
use Rattle.rulebook.specs.Book.{Book}
use Rattle.rulebook.specs.Lookup.{comparison, entry_from, rule_at, rule_or}
use Rattle.clause.specs.declared.ClauseRecord.{ClauseRecord}
use Rattle.clause.specs.declared.ClauseRead.{ClauseRead}
use Rattle.clause.specs.declared.ClauseError.{ClauseError}

-- one clause read, with the place after it; failed with a refusal, which the default rule judges; or too deep, "under every default rule"
abbrev pub Read : Type 0
Read = Result ClauseRead ClauseError

abbrev pub failed : Reason → ℕ → Read
failed why p = Err (ClauseError.Failed (refusal_at why p))

-- "A zeroed record is bare with every number 0."
abbrev pub zero_record : ClauseRecord
zero_record = record {
  name_start = 0;
  name_end = 0;
  entry = 0;
  parenthesized = false;
  content_start = 0;
  content_end = 0;
  preceded = false;
  trailing = false;
}

-- "rule entry (65,535 if none)"
abbrev pub no_entry : ℕ
no_entry = 65535

-- an entry as a record has it
abbrev pub index_or : Option ℕ → ℕ
index_or None = no_entry
index_or (Some i) = i

-- a word's record: alone, "content start and end (0 0 if bare)", or with the content of its argument
abbrev pub word_record : ℕ → ℕ → Option ℕ → Option Range → ClauseRecord
word_record start end i None =
    record { name_start = start; name_end = end; entry = index_or i; parenthesized = false; content_start = 0; content_end = 0; preceded = false; trailing = false }
word_record start end i (Some content) =
    record { name_start = start; name_end = end; entry = index_or i; parenthesized = true; content_start = content.start; content_end = content.end; preceded = false; trailing = false }

-- a word alone
abbrev pub bare_clause : ℕ → ℕ → Option ℕ → Read
bare_clause start end i = Ok (record { clause = word_record start end i None; end = end })

abbrev pub paren_clause : ℕ → ℕ → Option ℕ → Range → ℕ → Read
paren_clause start end i content after = Ok (record { clause = word_record start end i (Some content); end = after })

-- the comments that matching passes over: "bit 0 ignore case and use Fortran trivia"
abbrev pub style : Bool → CommentStyle
style fortran = cond fortran Fortran CLike

-- of a book its bit 0 alone tells how an argument is read
module _ (fortran : Bool) (text : List ℕ) where
  -- the parenthesis that opens at p: "Content is the trimmed range between the parentheses; blank content starts and ends just after `(`".
  -- Row 12, "`(` finds no match", at it; row 13 at the 257th bracket
  abbrev pub closing : ℕ → ℕ → Option ℕ → ℕ → Result ℕ NoMatch → Read
  closing start end i p (Ok q) = paren_clause start end i (trimmed (suc p) (take (q - suc p) (drop (suc p) text))) (suc q)
  closing start end i p (Err NoMatch.Unmatched) = failed Reason.Unmatched p
  closing start end i p (Err (NoMatch.DeepAt q)) = Err (ClauseError.Deep q)

  -- by the rule, from where the trivia after the name ended. Row 10, "rule Unsupported (after the word)"; row 11, "Parenthesized without `(`";
  -- row 8 inside a clause
  abbrev pub argument : ℕ → ℕ → Option ℕ → ClauseRule → Result ℕ Refusal → Read
  argument start end i Bare s = bare_clause start end i
  argument start end i Parenthesized (Ok p) =
      cond (starts 40 (drop p text)) (closing start end i p (matching (style fortran) (suc p) (drop (suc p) text))) (failed Reason.NoParenthesis p)
  argument start end i Parenthesized (Err r) = Err (ClauseError.Failed r)
  argument start end i Flexible (Ok p) =
      cond (starts 40 (drop p text)) (closing start end i p (matching (style fortran) (suc p) (drop (suc p) text))) (bare_clause start end i)
  argument start end i Flexible (Err r) = Err (ClauseError.Failed r)
  argument start end i Unsupported s = failed Reason.NoClause end

module _ (book : Book) (text : List ℕ) where
  -- `lex_clause`: the bytes of the word at a place
  abbrev pub word_length : ℕ → ℕ
  word_length at = leading is_word (drop at text)

  -- the entry of the word at a place, case by bit 0
  abbrev pub found : ℕ → Option ℕ
  found at = entry_from (comparison book) 0 (take (word_length at) (drop at text)) book.clauses

  -- the clause at a place; row 10, "no word"
  unfoldable pub clause_at : ℕ → Read
  unfolding leading entry_from rule_at matching skip trimmed
  clause_at at =
      cond (eqb (word_length at) 0) (failed Reason.NoClause at)
      (argument book.ignores_case text at (at + word_length at) (found at) (rule_or book.default (found at) book.clauses)
      (skip book.ignores_case text (at + word_length at)))

-- a word of a text that is not too long
pub record WordIn (text : List ℕ) (start end : ℕ) : Type 0 where
  pub short : length text ≤ max_length
  pub some_bytes : start < end
  pub inside : end ≤ length text
