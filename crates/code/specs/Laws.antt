-- What request P6 of document 02 leaves as it was, as statements about the definitions. Their proofs are theorems of these types.
use Rattle.std.specs.Prelude.{ℕ, Bool, false, ◌&&◌, ◌||◌, ◌≡◌, List, [], ◌∷◌, eqb}
use Rattle.code.specs.declared.CommentStyle.{CommentStyle}
use Rattle.code.specs.declared.CommentStyle.TheVariants.{Block, CLike}
use Rattle.code.specs.Code.{hides_next, literal}

-- a backslash stands in a text
unfoldable pub has_backslash : List ℕ → Bool
has_backslash [] = false
has_backslash (x ∷ xs) = eqb x 92 || has_backslash xs

-- "C is unaffected": in both of its styles the quote rule is document 01's
abbrev pub QuotesOfCStay : Type 0
QuotesOfCStay = (q x next : ℕ) → (hides_next CLike q x next ≡ (eqb x 92 || (eqb x q && eqb next q))) × (hides_next Block q x next ≡ (eqb x 92 || (eqb x q && eqb next q)))

-- Where no backslash stands, a literal is the same in every style.
abbrev pub LiteralsWithoutBackslashStay : Type 0
LiteralsWithoutBackslashStay = (a b : CommentStyle) (q k : ℕ) (xs : List ℕ) → has_backslash xs ≡ false → literal a q k xs ≡ literal b q k xs
