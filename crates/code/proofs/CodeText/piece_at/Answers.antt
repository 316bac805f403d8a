-- `CodeText::piece_at`: each arm is a case of `piece`, by the byte at the place.
use Rattle.std.proofs.Common.{◌≡◌, ℕ, ◌||◌, ◌⊎◌, eqb, true, inl, inr, rules, refl, sym, ◌∙◌}
use Rattle.code.proofs.Laws.{piece_is}
use Rattle.code.proofs.CodeText.piece_at.Goals as goal

-- either quote
quote : (b : ℕ) → (b ≡ 34) ⊎ (b ≡ 39) → (eqb b 39 || eqb b 34) ≡ true
quote b (inl h) = rw h refl
quote b (inr h) = rw h refl

pub returns-in-39-clause-value : goal.returns-in-39-clause-value
returns-in-39-clause-value c = c.quote_at.ensures.value ∙ sym (piece_is _ _ _ c.requires ∙ rw (quote _ c.in-39.is) refl)

pub returns-in-47-clause-value : goal.returns-in-47-clause-value
returns-in-47-clause-value c = c.slash_at.ensures.value ∙ sym (piece_is _ _ _ c.requires ∙ rw c.in-47.is refl)

pub returns-in-33-clause-value : goal.returns-in-33-clause-value
returns-in-33-clause-value c = c.bang_at.ensures.value ∙ sym (piece_is _ _ _ c.requires ∙ rw c.in-33.is refl)

pub returns-in_default-clause-value : goal.returns-in_default-clause-value
returns-in_default-clause-value c = rw (piece_is c.args.self.now.style c.args.self.now.text.now c.args.at c.requires) (search rules)
