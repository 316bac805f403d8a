-- `ascii::class::fold` meets its contract: what its arithmetic gives is evaluated over the 256 bytes, in one statement, and the contract follows from it.
-- Assumes nothing.
use mathlib.Core.Path.{◌≡◌, refl}
use Prim.Native.Nat.{ℕ, ◌+◌, ◌*◌, ◌/◌, ◌%◌, ◌<◌}
use native.Mathlib.Omega.{arith}
use lib.Dec.{leb}
use borrow.Author.Rules.{rules}
use borrow.Author.Tests.{leb-true}
use Rattle.ascii.specs.Ascii.{is_upper, fold}
use Rattle.ascii.proofs.Flags.{and_right, by_cases}
use Rattle.ascii.proofs.Table.{values, agree}
use Rattle.ascii.proofs.class.fold.Statement.{statement}
use Rattle.ascii.proofs.class.fold.Tie as tie

-- what the code works out, by its numbers
abbrev worked : (turn size first : ℕ) → ℕ → ℕ
worked turn size first b = b + (b + turn) % size / first * 32

-- the statement: 65 to 90 gain 32, every other of the 256 bytes is kept
abbrev Folds : (turn size first : ℕ) → Type 0
Folds turn size first = values (worked turn size first) 0 256 ≡ values fold 0 256

follows : (turn size first : ℕ) → Folds turn size first → (b : ℕ) → b < 256 → worked turn size first b ≡ fold b
follows turn size first = agree (worked turn size first) fold 256

-- evaluated with the numbers that stand in the code: with others it is the statement that does not hold
returns : tie.Need-returns
returns c = follows _ _ _ refl c.args.b (search rules)

-- what is folded is a byte again: letters are far below 224
byte-again : (b : ℕ) → b < 256 → fold b < 256
byte-again b h = by_cases (is_upper b) (λ e. rw e (omega (arith, leb-true b 90 (and_right (leb 65 b) (leb b 90) e)))) (λ e. rw e h)

fits : (b : ℕ) → b < 256 → worked 165 256 230 b < 256
fits b h = rw (follows 165 256 230 refl b h) (byte-again b h)

pub fold_spec : {M : Type 1} → statement M
fold_spec = tie.close (tie.spec (λ c. search rules) (λ c. search rules) (λ c. search rules) (λ c. omega (arith, fits c.args.b (search rules))) returns)
