-- Examples of document 01, of its table and of document 02's P6, and what else is easily got wrong, evaluated.
use Rattle.std.specs.Prelude.{ℕ, true, false, ◌≡◌, refl, List, [], ◌∷◌, map, replicate}
use Prim.Native.String.{String}
use Rattle.ascii.specs.Text.{bytes, leading, up_to, trimmed, first_high}
use Rattle.refusal.specs.Answer.{Answer, given, refused}
use Rattle.code.specs.Code.{literal, block_end, piece, scan_from}
use Rattle.code.specs.Bracket.{taken}
use Rattle.delimiter.specs.declared.Separator.TheVariants.{Comma, Colon}
use Rattle.code.specs.declared.CommentStyle.TheVariants.{Block}
use Rattle.lexer.specs.declared.Language.{Language}
use Rattle.lexer.specs.declared.Language.TheVariants.{C, FortranFree, FortranFixed}
use Rattle.delimiter.specs.Split.{next_solid, bracketed, turned, split_from, split, SplitCall, flat, split_call, count_of}

-- a call with eight numbers lent
abbrev at : List ℕ → SplitCall
at text = split_call text C Comma false 8

abbrev gives : ℕ → List ℕ → SplitCall
gives n items = record { answer = given n; items = items }

abbrev refuses : ℕ → ℕ → SplitCall
refuses n place = record { answer = refused n place; items = replicate 8 0 }

-- "Split `a, b[1,2], c`", "Empty text: 15 at 0", "`/* k */`: one item", "Colon split `a:'x':b`: one item", "`p?q::r:s`"
pub calls :
    (at (bytes "a, b[1,2], c") ≡ gives 3 (0 ∷ 1 ∷ 3 ∷ 9 ∷ 11 ∷ 12 ∷ 0 ∷ 0 ∷ []))
    × (at [] ≡ refuses 15 0)
    × (at (bytes "/* k */") ≡ gives 1 (0 ∷ 7 ∷ 0 ∷ 0 ∷ 0 ∷ 0 ∷ 0 ∷ 0 ∷ []))
    × (split_call (bytes "a:'x':b") C Colon false 8 ≡ gives 1 (0 ∷ 7 ∷ 0 ∷ 0 ∷ 0 ∷ 0 ∷ 0 ∷ 0 ∷ []))
    × (split_call (bytes "p?q::r:s") C Colon false 8 ≡ gives 2 (0 ∷ 6 ∷ 7 ∷ 8 ∷ 0 ∷ 0 ∷ 0 ∷ 0 ∷ []))
    × (split_call (bytes "a,b") C Comma false 5 ≡ gives 2 (0 ∷ 1 ∷ 2 ∷ 3 ∷ 0 ∷ []))
    × (split_call (bytes "a,b,c") C Comma false 5 ≡ record { answer = refused 14 4; items = replicate 5 0 })
unfolding leading up_to trimmed first_high literal block_end piece scan_from taken next_solid bracketed turned split_from split flat split_call
calls = (refl, refl, refl, refl, refl, refl, refl)

abbrev commas : String → Answer ℕ
commas s = count_of (split (bytes s) Comma false Block 9)

abbrev angled : String → Answer ℕ
angled s = count_of (split (bytes s) Comma true Block 9)

abbrev colons : String → Answer ℕ
colons s = count_of (split (bytes s) Colon false Block 9)

-- rows 8 and 13 to 18 of the table, and their order
pub rows :
    (map commas ("a,,b" ∷ "'a" ∷ "a]" ∷ "(a" ∷ "/*'" ∷ "'/*" ∷ "'a' /*'" ∷ "'a''" ∷ "a,(" ∷ ",(" ∷ "a,,]" ∷ ",]" ∷ "]," ∷ "a, " ∷ " ,a" ∷ "(,]'" ∷ [])
    ≡ refused 15 2 ∷ refused 16 0 ∷ refused 17 1 ∷ refused 18 2 ∷ refused 8 0 ∷ refused 16 0 ∷ refused 8 4 ∷ refused 16 0
    ∷ refused 18 3 ∷ refused 15 0 ∷ refused 15 2 ∷ refused 15 0 ∷ refused 17 0 ∷ refused 15 2 ∷ refused 15 0 ∷ refused 16 3 ∷ [])
    × (count_of (split (replicate 257 40) Comma false Block 9) ≡ refused 13 256)
    × (count_of (split (replicate 256 40) Comma false Block 9) ≡ refused 18 256)
    × (count_of (split (bytes " a") Comma false Block 0) ≡ refused 14 1)
    × (count_of (split (bytes "a,(") Comma false Block 0) ≡ refused 14 0)
    × (count_of (split (bytes "(") Comma false Block 0) ≡ refused 18 1)
unfolding leading up_to trimmed literal block_end piece scan_from taken next_solid bracketed turned split_from split
rows = (refl, refl, refl, refl, refl, refl)

-- angles, colons and comments
pub kinds :
    (map angled ("a>b" ∷ "a->b" ∷ "a>=b" ∷ "a<b" ∷ "a<=b" ∷ "a<b>=c" ∷ "a<b,c>,d" ∷ "<a>" ∷ "(a<b),(c>d)" ∷ "a<(b>c)>" ∷ "a<b)" ∷ "a <b>" ∷ "''<b" ∷ "a<''=b" ∷ "a<b<c>>" ∷ "a<b->c>" ∷ [])
    ≡ refused 17 1 ∷ refused 17 2 ∷ refused 17 1 ∷ refused 18 3 ∷ given 1 ∷ refused 18 6 ∷ given 2 ∷ refused 17 2
    ∷ given 2 ∷ given 1 ∷ refused 17 3 ∷ given 1 ∷ given 1 ∷ given 1 ∷ given 1 ∷ refused 17 6 ∷ [])
    × (map colons ("a: :b" ∷ "a:\u{b}:b" ∷ "a:/**/:b" ∷ "a?b:c:d" ∷ "(a?b):c" ∷ "a?(b:c):d" ∷ "a?b" ∷ "a?b::c" ∷ ":::" ∷ ":" ∷ [])
    ≡ given 1 ∷ given 1 ∷ given 1 ∷ given 2 ∷ given 2 ∷ given 1 ∷ given 1 ∷ given 1 ∷ given 1 ∷ refused 15 0 ∷ [])
    × (map commas ("a//,b" ∷ "!,b" ∷ "a,/**/" ∷ "a<b,c>" ∷ "\"a,\\\",\",b" ∷ [])
    ≡ given 2 ∷ given 2 ∷ given 2 ∷ given 2 ∷ given 2 ∷ [])
unfolding leading up_to trimmed literal block_end piece scan_from taken next_solid bracketed turned split_from split
kinds = (refl, refl, refl)

-- the literals of the language; behind them two comments that are none in a split, and one that is
abbrev quotes : Language → List (Answer ℕ)
quotes l = map (λ (s : String). (split_call (bytes s) l Comma false 8).answer)
    ("'\\',b" ∷ "\"\\\",'\\'" ∷ "'\\''" ∷ "'\\\\',b" ∷ "'it''s',b" ∷ "'a',\\" ∷ "'\\" ∷ "a!,b" ∷ "a//,b" ∷ "/*,*/" ∷ [])

pub languages :
    (quotes C ≡ refused 16 0 ∷ refused 16 0 ∷ given 1 ∷ given 2 ∷ given 2 ∷ given 2 ∷ refused 16 0 ∷ given 2 ∷ given 2 ∷ given 1 ∷ [])
    × (quotes FortranFree ≡ given 2 ∷ given 2 ∷ refused 16 0 ∷ given 2 ∷ given 2 ∷ given 2 ∷ refused 16 0 ∷ given 2 ∷ given 2 ∷ given 1 ∷ [])
    × (quotes FortranFixed ≡ quotes FortranFree)
    × (split_call (bytes "'\\',b") FortranFree Comma false 5 ≡ gives 2 (0 ∷ 3 ∷ 4 ∷ 5 ∷ 0 ∷ []))
unfolding leading up_to trimmed first_high literal block_end piece scan_from taken next_solid bracketed turned split_from split flat split_call
languages = (refl, refl, refl, refl)
