use Rattle.std.proofs.Common.{◌≡◌, ◌∙◌, [], ap, arith, drop, rules, sym}
use Rattle.std.proofs.lemmas.List.{drop_all}
use Rattle.std.specs.Map.{keys_of}
use Rattle.mdcc_world_decisions.specs.Decided.{decided_of}
use Rattle.mdcc_def_ledger.specs.Ledger.{txs_begun}
use Rattle.mdcc_world_decisions.proofs.Sums.{counted-all, counted-next, counted_on, totals-same}
use Rattle.mdcc_world_decisions.proofs.decisions.Decisions.totals.Goals.{in-Some, in_default}
use Rattle.mdcc_world_decisions.proofs.decisions.Decisions.totals.Goals as goal

pub loop-i-preserved : goal.loop-i-preserved
loop-i-preserved c quorums entries stands =
    elim c.match-get_index.branch [
      | in-Some w ↦
          rw (w.totals-is, w.with_decided-totals.ensures, w.decided_of.ensures quorums entries stands)
          (sym (counted-next (decided_of quorums entries) c.loop-i.totals c.args.self.now.begun.entries c.loop-i.i _ (sym w.in-Some.ensures.entry))
          ∙ c.loop-i.invariant quorums entries stands)
      | in_default w ↦ search rules
    ]

pub returns : goal.returns
returns c quorums entries stands =
    let es = c.args.self.now.begun.entries in
    let past : drop c.loop-i.i es ≡ [] = drop_all c.loop-i.i es (omega (c.loop-i-test.false, c.len-i-end.ensures.len, arith)) in
    ap (λ xs. counted_on (decided_of quorums entries) c.loop-i.totals (keys_of xs)) (sym past)
    ∙ c.loop-i.invariant quorums entries stands
    ∙ counted-all (decided_of quorums entries) (keys_of es) stands.few
    ∙ totals-same (decided_of quorums entries) (keys_of es) (txs_begun entries) stands.counts
