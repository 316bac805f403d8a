-- `read_clause` meets its contract: no word, or the word's entry, and its clause by the rule.
use Rattle.std.proofs.Common.{◌≡◌, ◌∙◌, sym, arith}
use Rattle.rulebook.proofs.Finding.{book-case}
use Rattle.clause.proofs.Reading.{no_word, clause-by}
use Rattle.clause.proofs.ClauseList.read_clause.Goals as goal

pub returns-then-end-at : goal.returns-then-end-at
returns-then-end-at c = rw c.at.ensures (no_word _ _ _ _ c.run_end-end.ensures.value c.if-end-at.true)

pub invariant_of-word : goal.invariant_of-word
invariant_of-word c =
    let b = c.args.self.now.book.now in
    let inside = c.run_end-end.ensures.lower_bound in
    let some : c.run_end-end.result ≡ c.args.at → ⊥ = c.if-end-at.false in
    record {
      word = record { short = c.requires.short; some_bytes = omega (arith, some); inside = inside.1 };
      marked = rw (book-case b.bytes.now b.header b.header_read) at c.args.self.now.marked;
    }

pub returns : goal.returns
returns c =
    let b = c.args.self.now.book.now in
    c.argument.ensures
    ∙ clause-by b.bytes.now c.args.self.now.text.now c.args.at _ _ _ (sym (book-case b.bytes.now b.header b.header_read)) c.run_end-end.ensures.value c.if-end-at.false c.find_clause-found.ensures
