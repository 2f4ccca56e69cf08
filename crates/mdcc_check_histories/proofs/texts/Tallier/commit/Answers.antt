use Rattle.std.proofs.Common.{◌≡◌, ◌+◌, None, ap, arith, sym, ◌∙◌}
use Rattle.mdcc_check.specs.declared.history.HistoryLine.{HistoryLine}
use Rattle.mdcc_check_histories.proofs.Turns.{no-cause-found, none-by, now-found}
use Rattle.mdcc_check_histories.specs.Tallies.{found_first}
use Rattle.mdcc_check_histories.proofs.texts.Tallier.commit.Goals as goal

pub returns-in_ok-cause-clause-taken : goal.returns-in_ok-cause-clause-taken
returns-in_ok-cause-clause-taken c t h =
    let line = HistoryLine.Commit c.args.tx.now c.args.parts.now in
    let none : t.found ≡ None = sym h.found ∙ none-by c.args.self.now.found c.is_none.result c.is_none.ensures c.if-is_none.true in
    let cause = c.in_ok-cause.ensures.cause t.progress (h.checker none) in
    record {
      number = h.number;
      commits = ap (λ n. n + 1) h.commits;
      reads = omega (arith, h.reads);
      found = c.found_at-self.ensures ∙ ap (λ n. found_first None n c.in_ok-cause.cause) h.number ∙ now-found c.args.schema.now t line c.in_ok-cause.cause none cause;
      checker = λ e. c.in_ok-cause.ensures.after t.progress (h.checker none) (no-cause-found c.args.schema.now t line c.in_ok-cause.cause none cause e);
    }
