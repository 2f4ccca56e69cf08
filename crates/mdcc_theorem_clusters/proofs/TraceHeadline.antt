-- The headline for traces.
use Rattle.std.proofs.Common.{List, subst, sym, ℕ, ◌≡◌}
use Rattle.mdcc_config.specs.declared.config.Config.{Config}
use Rattle.mdcc_def_messages.specs.declared.facts.Fact.{Fact}
use Rattle.mdcc_def_server_runs.specs.Acts.{Act}
use Rattle.mdcc_theorem_clusters.proofs.Discharged.{deployed}
use Rattle.mdcc_theorem_clusters.proofs.Tracing.{traces-executed}
use Rattle.mdcc_theorem_clusters.specs.Clusters.{Deployment, after_moves, not_started}
use Rattle.mdcc_theorem_clusters.specs.Headline.{IsToldTruly}
use Rattle.mdcc_theorem_clusters.specs.Traces.{HeadlineOfServers, Traced, nothing_yet, traced_after_events}

-- it speaks of the acts and the durable facts alone
same-headline : (config : Config) (done other : List (ℕ × Act)) (durable facts : List (ℕ × Fact)) → other ≡ done → facts ≡ durable → IsToldTruly config done durable → IsToldTruly config other facts
same-headline config done other durable facts d f h =
    subst (λ (xs : List (ℕ × Act)). IsToldTruly config xs facts) (sym d) (subst (IsToldTruly config done) (sym f) h)

pub trace-headline : HeadlineOfServers
trace-headline config is events h =
    let x = traces-executed config events h in
    let state : Deployment = after_moves config not_started x.moves in
    let trace : Traced = traced_after_events config nothing_yet events in
    same-headline config state.done trace.done state.durable trace.durable x.done x.durable (deployed config is x.moves x.executed)
