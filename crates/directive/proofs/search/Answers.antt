-- `search` meets its contract: each turn is one of the search, and each exit is where it stops.
use Rattle.std.proofs.Common.{◌≡◌, sym, ap, subst, ◌∙◌, arith, length}
use Rattle.std.specs.Prelude.{Ok, Err, None, ok_or}
use Rattle.refusal.specs.Answer.{told}
use Rattle.std.proofs.lemmas.Result.{err_from_is_err_and}
use Rattle.lexer.specs.Trivia.{Inside}
use Rattle.rulebook.specs.Book.{book_of}
use Rattle.directive.specs.Name.{latest}
use Rattle.directive.specs.Steps.{Ahead}
use Rattle.rulebook.proofs.Finding.{book-case}
use Rattle.directive.proofs.Long.{compact-word-at}
use Rattle.directive.proofs.Naming.{name-stop}
use Rattle.directive.proofs.Placing.{finished, finished-ends}
use Rattle.directive.proofs.Searching.{ahead, long-end, next-turn, kept-good, kept-some, kept-ready, within, word-some, searched-on}
use Rattle.directive.proofs.search.Goals as goal
use Rattle.directive.proofs.search.Goals.{in-Some, in_default, else-loop-outlook-test, then-loop-outlook-test+then-is_err+in_ok-skip, then-loop-outlook-test+else-is_err+in_ok-next+in-None}

pub returns-in_err-skip-clause-result_value : goal.returns-in_err-skip-clause-result_value
returns-in_err-skip-clause-result_value c =
    let b = c.args.book.now in
    let p = err_from_is_err_and c.from_residual.result c.from_residual.ensures.1 in
    rw (p.1, p.2)
    (long-end c.args.book.now.in_range c.args.book.now.has_form c.loop-outlook.invariant (sym c.starts_word.ensures ∙ c.loop-outlook-test.true) c.run_end-end.ensures.value
    _ _ (sym c.is_err.ensures.value ∙ c.if-is_err.true) c.push_word.ensures (Err c.in_err-skip.field-0.0)
    (rw (book-case b.bytes.now b.header b.header_read) (sym c.skip.ensures.value ∙ c.in_err-skip.was))
    (subst (Inside c.run_end-end.result (length c.args.text.now)) c.in_err-skip.was c.skip.ensures.inside))

-- the word goes to what is kept, which is then right for the candidate with it
pub pass-requires : goal.pass-requires
pass-requires c =
    let l = c.loop-outlook in
    record {
      within = within c.args.book.now.in_range c.args.book.now.has_form c.loop-outlook.invariant (sym c.starts_word.ensures ∙ c.loop-outlook-test.true) c.run_end-end.ensures.value;
      some = word-some c.args.book.now.in_range c.args.book.now.has_form c.loop-outlook.invariant (sym c.starts_word.ensures ∙ c.loop-outlook-test.true) c.run_end-end.ensures.value;
      solid = compact-word-at c.args.text.now l.place c.run_end-end.result c.run_end-end.ensures.value;
    }

pub entry_of-entry-requires-clause-ready : goal.entry_of-entry-requires-clause-ready
entry_of-entry-requires-clause-ready c =
    let l = c.loop-outlook in
    kept-ready c.args.book.now.in_range c.args.book.now.has_form c.loop-outlook.invariant (sym c.starts_word.ensures ∙ c.loop-outlook-test.true) c.run_end-end.ensures.value
    _ _ (sym c.is_err.ensures.value ∙ c.if-is_err.false) c.push_word.ensures c.pass.new.self
    (c.pass.ensures (book_of c.args.book.now.bytes.now) l.candidate l.invariant.ready)

pub next_word-requires-clause-not_empty : goal.next_word-requires-clause-not_empty
next_word-requires-clause-not_empty c =
    rw c.as_slice.ensures.value
    (kept-some c.args.book.now.in_range c.args.book.now.has_form c.loop-outlook.invariant (sym c.starts_word.ensures ∙ c.loop-outlook-test.true) c.run_end-end.ensures.value
    _ _ (sym c.is_err.ensures.value ∙ c.if-is_err.false) c.push_word.ensures)

pub returns-in_err-next-clause-result_value : goal.returns-in_err-next-clause-result_value
returns-in_err-next-clause-result_value c =
    let p = err_from_is_err_and c.from_residual-in_err-next.result c.from_residual-in_err-next.ensures.1 in
    rw (p.1, p.2)
    (next-turn c.args.book.now.in_range c.args.book.now.has_form c.loop-outlook.invariant (sym c.starts_word.ensures ∙ c.loop-outlook-test.true) c.run_end-end.ensures.value
    _ _ (sym c.is_err.ensures.value ∙ c.if-is_err.false) c.push_word.ensures c.entry_of-entry.ensures.value (Err c.in_err-next.field-0.0)
    (sym c.in_err-next.was ∙ rw c.as_slice.ensures.value at c.next_word.ensures.value_2)
    (subst (Ahead c.run_end-end.result (length c.args.text.now)) c.in_err-next.was c.next_word.ensures.ahead))

pub loop-outlook-smaller : goal.loop-outlook-smaller
loop-outlook-smaller c =
    let a = subst (Ahead c.run_end-end.result (length c.args.text.now)) (c.in_ok-next.was ∙ ap Ok c.in-Some-2.is) c.next_word.ensures.ahead in
    let g = ahead c.args.book.now.in_range c.args.book.now.has_form c.loop-outlook.invariant (sym c.starts_word.ensures ∙ c.loop-outlook-test.true) c.run_end-end.ensures.value in
    omega (arith, a, g)

pub loop-outlook-preserved : goal.loop-outlook-preserved
loop-outlook-preserved c =
    let l = c.loop-outlook in
    let next = c.in_ok-next.was ∙ ap Ok c.in-Some-2.is in
    let f : c.match-entry.found ≡ latest c.entry_of-entry.result c.run_end-end.result l.found =
    elim c.match-entry.branch [ in-Some w ↦ rw (w.found-is, w.in-Some.is) | in_default w ↦ rw (w.found-is, w.in_default.is) ] in
    rw f
    (searched-on c.args.book.now.in_range c.args.book.now.has_form l.invariant (sym c.starts_word.ensures ∙ c.loop-outlook-test.true) c.run_end-end.ensures.value
    _ _ (sym c.is_err.ensures.value ∙ c.if-is_err.false) c.push_word.ensures c.entry_of-entry.ensures.value c.in-Some-2.next c.next_word.new.outlook (rw c.as_slice.ensures.value at c.next_word.ensures.ready_2) c.run_end-end.ensures.lower_bound.1
    (sym next ∙ rw c.as_slice.ensures.value at c.next_word.ensures.value_2)
    (subst (Ahead c.run_end-end.result (length c.args.text.now)) next c.next_word.ensures.ahead))

pub returns-clause-result_value : goal.returns-clause-result_value
returns-clause-result_value c =
    let l = c.loop-outlook in
    let b = c.args.book.now in
    let given = ap told (c.ok_or.ensures.value ∙ ap (ok_or c.loop-outlook-test.found) c.at.ensures) in
    given ∙ finished c.args.from c.loop-outlook-test.found
    ∙ elim c.loop-outlook-test.branch [
      | else-loop-outlook-test w ↦ rw w.found-is
          (sym (name-stop (book_of b.bytes.now) c.args.text.now c.args.from l.candidate l.found l.place (sym c.starts_word.ensures ∙ w.loop-outlook-test.false)) ∙ l.invariant.alike)
      | then-loop-outlook-test+then-is_err+in_ok-skip w ↦ rw w.found-is
          (long-end c.args.book.now.in_range c.args.book.now.has_form l.invariant (sym c.starts_word.ensures ∙ w.loop-outlook-test.true) w.run_end-end.ensures.value
          _ _ (sym w.is_err.ensures.value ∙ w.if-is_err.true) w.push_word.ensures (Ok w.in_ok-skip.field-0)
          (rw (book-case b.bytes.now b.header b.header_read) (sym w.skip.ensures.value ∙ w.in_ok-skip.was)) (subst (Inside w.run_end-end.result (length c.args.text.now)) w.in_ok-skip.was w.skip.ensures.inside))
      | then-loop-outlook-test+else-is_err+in_ok-next+in-None w ↦
          let f : w.match-entry.found ≡ latest w.entry_of-entry.result w.run_end-end.result l.found =
          elim w.match-entry.branch [ in-Some v ↦ rw (v.found-is, v.in-Some.is) | in_default v ↦ rw (v.found-is, v.in_default.is) ] in
          rw (w.found-is, f)
          (next-turn c.args.book.now.in_range c.args.book.now.has_form l.invariant (sym c.starts_word.ensures ∙ w.loop-outlook-test.true) w.run_end-end.ensures.value
          _ _ (sym w.is_err.ensures.value ∙ w.if-is_err.false) w.push_word.ensures w.entry_of-entry.ensures.value (Ok None)
          (sym (w.in_ok-next.was ∙ ap Ok w.in-None.is) ∙ rw w.as_slice.ensures.value at w.next_word.ensures.value_2) tt)
    ]

pub returns-clause-ends : goal.returns-clause-ends
returns-clause-ends c =
    let l = c.loop-outlook in
    rw (c.ok_or.ensures.value, c.at.ensures)
    (finished-ends c.args.from c.args.start (length c.args.text.now) c.loop-outlook-test.found c.requires.bounds.0 c.requires.bounds.1
    (elim c.loop-outlook-test.branch [
      | else-loop-outlook-test w ↦ rw w.found-is l.invariant.good
      | then-loop-outlook-test+then-is_err+in_ok-skip w ↦ rw w.found-is l.invariant.good
      | then-loop-outlook-test+else-is_err+in_ok-next+in-None w ↦
          let f : w.match-entry.found ≡ latest w.entry_of-entry.result w.run_end-end.result l.found =
          elim w.match-entry.branch [ in-Some v ↦ rw (v.found-is, v.in-Some.is) | in_default v ↦ rw (v.found-is, v.in_default.is) ] in
          rw (w.found-is, f)
          (kept-good c.args.book.now.in_range c.args.book.now.has_form l.invariant (sym c.starts_word.ensures ∙ w.loop-outlook-test.true) w.run_end-end.ensures.value
          _ _ (sym w.is_err.ensures.value ∙ w.if-is_err.false) w.push_word.ensures w.entry_of-entry.ensures.value w.run_end-end.ensures.lower_bound.1)
    ]))
