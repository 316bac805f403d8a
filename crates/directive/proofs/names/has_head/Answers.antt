-- `has_head` meets its contract: the byte behind the candidate, or the end of the name, and then the bytes before it.
use Rattle.std.proofs.Common.{◌≡◌, ◌≤◌, ◌<◌, ℕ, List, [], length, get_or, take, Bool, true, false, cond, ◌||◌, sym, ◌∙◌, arith}
use lib.Dec.{eqb}
use lib.ListN.{get_or-eq_default}
use borrow.Author.Tests.{ne_eqb}
use Rattle.ascii.specs.Text.{same_by, comparing}
use Rattle.directive.specs.Name.{head_from}
use Rattle.directive.proofs.Beginning.{head-follows, follows-end}
use Rattle.directive.proofs.names.has_head.Goals as goal
use Rattle.directive.proofs.names.has_head.Goals.{then-name-len-via-then-name-len, then-name-len-via-else-name-len+then-not-ends_at}

-- the name ends behind the candidate or has a blank there, or it does not
behind : (b t : Bool) (name c : List ℕ) → (eqb (length c) (length name) || eqb (get_or name (length c) 0) 32) ≡ t
    → head_from (same_by (comparing b)) [] name c ≡ cond t (same_by (comparing b) (take (length c) name) c) false
behind b true name c e = head-follows (comparing b) name c ∙ follows-end (comparing b) name c ∙ rw e
behind b false name c e = head-follows (comparing b) name c ∙ follows-end (comparing b) name c ∙ rw e

short : (name c : List ℕ) → length name < length c → (eqb (length c) (length name) || eqb (get_or name (length c) 0) 32) ≡ false
short name c l = rw (get_or-eq_default name 0 (let h : length name ≤ length c = omega arith in h), ne_eqb (length c) (length name) (omega arith))

pub returns-then-name-len : goal.returns-then-name-len
returns-then-name-len c =
    let n = c.args.name.now in
    let s = c.args.candidate.now in
    let e : (eqb (length s) (length n) || eqb (get_or n (length s) 0) 32) ≡ false =
    elim c.then-name-len.branch [
      | then-name-len-via-then-name-len w ↦ short n s w.if-name-len.true
      | then-name-len-via-else-name-len+then-not-ends_at w ↦ sym w.ends_at.ensures ∙ w.if-not-ends_at.true
    ] in
    sym (behind c.args.ignore_case false n s e)

pub returns : goal.returns
returns c =
    c.alike.ensures ∙ sym (behind c.args.ignore_case true c.args.name.now c.args.candidate.now (sym c.ends_at.ensures ∙ c.if-not-ends_at.false))
