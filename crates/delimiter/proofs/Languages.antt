-- A text without a backslash is split alike in every language: the styles have the same comments, and so the same scan.
-- Assumes nothing.
use mathlib.Core.Bool.{false}
use mathlib.Core.Path.{◌≡◌, refl, sym, ◌∙◌}
use Rattle.code.specs.Code.{is_c_like, is_fortran}
use Rattle.code.proofs.Backslashes.{scan-stays}
use Rattle.lexer.specs.declared.Language.{Language}
use Rattle.lexer.specs.declared.Language.TheVariants.{C, FortranFree, FortranFixed}
use Rattle.delimiter.specs.Split.{split_style, split, split_call}
use Rattle.delimiter.specs.Laws.{SplitsWithoutBackslashStay}

no-line-comments : (l : Language) → (is_c_like (split_style l) ≡ false) × (is_fortran (split_style l) ≡ false)
no-line-comments C = (refl, refl)
no-line-comments FortranFree = (refl, refl)
no-line-comments FortranFixed = (refl, refl)

pub splits-without-backslash-stay : SplitsWithoutBackslashStay
unfolding split_call split
splits-without-backslash-stay text h a b separator angles size =
    let p = no-line-comments a in
    let q = no-line-comments b in
    rw (scan-stays (split_style a) (split_style b) (p.0 ∙ sym q.0) (p.1 ∙ sym q.1) 0 0 text h) refl
