-- Examples of matching by document 01 and by document 02's P6, and what else is easily got wrong, evaluated.
use Rattle.std.specs.Prelude.{◌≡◌, refl, List, [], ◌∷◌, ◌++◌, map, replicate, Ok, Err}
use Prim.Native.String.{String}
use Rattle.ascii.specs.Text.{bytes, up_to}
use Rattle.code.specs.declared.CommentStyle.{CommentStyle}
use Rattle.code.specs.declared.CommentStyle.TheVariants.{Block, CLike, Fortran, FortranBlock}
use Rattle.code.specs.declared.NoMatch.TheVariants.{Unmatched, DeepAt}
use Rattle.code.specs.Code.{literal, block_end, piece, scan_from}
use Rattle.code.specs.Bracket.{taken}
use Rattle.code.specs.Matching.{Match, match_from, matching}

-- matching, after an open parenthesis: "`if(a) 'b` is 12", line comments by the style, and "a clause's own counts"
pub matches :
    (map (λ (s : String). matching CLike 3 (bytes s)) ("a) 'b" ∷ "x) ' '" ∷ "//\r)" ∷ "x//y)" ∷ "/*)*/)" ∷ "[)]" ∷ "<)" ∷ "']')" ∷ "a" ∷ [])
    ≡ Err Unmatched ∷ Ok 4 ∷ Ok 6 ∷ Err Unmatched ∷ Ok 8 ∷ Err Unmatched ∷ Ok 4 ∷ Ok 6 ∷ Err Unmatched ∷ [])
    × (map (λ (s : String). matching Fortran 3 (bytes s)) ("!$)" ∷ "!)" ∷ "x//y)" ∷ "x)!'" ∷ "x)!$'" ∷ [])
    ≡ Ok 5 ∷ Err Unmatched ∷ Ok 7 ∷ Ok 4 ∷ Err Unmatched ∷ [])
    × (matching CLike 0 (replicate 256 40) ≡ Err (DeepAt 255))
    × (matching CLike 0 (replicate 255 91 ++ replicate 255 93 ++ 41 ∷ []) ≡ Ok 510)
unfolding up_to literal block_end piece scan_from taken match_from matching
matches = (refl, refl, refl, refl)

-- literals in which a backslash hides a byte and in which it does not; a doubled quote is one byte of both
abbrev literals : CommentStyle → List Match
literals style = map (λ (s : String). matching style 3 (bytes s)) ("'\\')" ∷ "\"\\\")" ∷ "'\\'')" ∷ "'\\''')" ∷ "'\\\\')" ∷ "'it''s')" ∷ "\\')" ∷ "'\\" ∷ [])

pub backslashes :
    (literals CLike ≡ Err Unmatched ∷ Err Unmatched ∷ Ok 7 ∷ Err Unmatched ∷ Ok 7 ∷ Ok 10 ∷ Err Unmatched ∷ Err Unmatched ∷ [])
    × (literals Block ≡ literals CLike)
    × (literals Fortran ≡ Ok 6 ∷ Ok 6 ∷ Err Unmatched ∷ Ok 8 ∷ Ok 7 ∷ Ok 10 ∷ Err Unmatched ∷ Err Unmatched ∷ [])
    × (literals FortranBlock ≡ literals Fortran)
unfolding up_to literal block_end piece scan_from taken match_from matching
backslashes = (refl, refl, refl, refl)
