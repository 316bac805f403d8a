-- The table of refusals: the number of each reason.
use Rattle.std.specs.Prelude.{ℕ}
use Rattle.refusal.specs.declared.Reason.{Reason}
use Rattle.refusal.specs.declared.Reason.TheVariants.{TooLong, HighByte, ShortBuffer, WrongBook, WrongLanguage, InvalidLine, NoOpening, UnclosedComment, NoDirective, NoClause, NoParenthesis, Unmatched, TooDeep, NoSlot, EmptyItem, UnclosedQuote, WrongClosing, UnclosedBracket, BadSpan}

-- "Refusals by place", column No.
abbrev pub number_of : Reason → ℕ
number_of TooLong = 1
number_of HighByte = 2
number_of ShortBuffer = 3
number_of WrongBook = 4
number_of WrongLanguage = 5
number_of InvalidLine = 6
number_of NoOpening = 7
number_of UnclosedComment = 8
number_of NoDirective = 9
number_of NoClause = 10
number_of NoParenthesis = 11
number_of Unmatched = 12
number_of TooDeep = 13
number_of NoSlot = 14
number_of EmptyItem = 15
number_of UnclosedQuote = 16
number_of WrongClosing = 17
number_of UnclosedBracket = 18
number_of BadSpan = 19
