-- A vote: the outcome that it decides may be heard.
use Rattle.std.proofs.Common.{◌≡◌, ℕ, true, false, List, refl, Option, Some, None, nat_lt}
use Rattle.std.proofs.lemmas.Bool.{cond_both}
use Rattle.mdcc_base.specs.declared.identifiers.TxId.{TxId}
use Rattle.mdcc_option.specs.declared.choices.Outcome.{Outcome}
use Rattle.mdcc_option.specs.declared.cluster.Cluster.{Cluster}
use Rattle.mdcc_def_protocol.specs.Belongs.{tx_belongs}
use Rattle.mdcc_def_protocol.specs.Facts.{epoch_of, is_settled}
use Rattle.mdcc_def_protocol.specs.Manager
use Rattle.mdcc_def_rules.specs.ManagerRules.{opened_step, undecided_step, voted_step, watched_step}
use Rattle.mdcc_def_protocol.specs.Recover
use Rattle.mdcc_def_rules.specs.Steps.{NodeStep, nothing_done}
use Rattle.mdcc_def_protocol.specs.Volatile.{Volatile, is_opened}
use Rattle.mdcc_def_messages.specs.declared.facts.Fact.{Fact}
use Rattle.mdcc_def_protocol.specs.declared.votes.Vote.{Vote}
use Rattle.mdcc_theorem_node_steps.specs.AddedFacts.{AreVotesOf, IsVoteOf}
use Rattle.mdcc_theorem_node_steps.proofs.Adding.{heard-allowed}
use Rattle.mdcc_theorem_node_steps.proofs.Allowing.{IsAllowedIf}
use Rattle.mdcc_theorem_node_steps.proofs.Deciding.{decided-belongs, open-decided, watched-decided}
use Rattle.mdcc_def_rules.specs.Here.{here}

module _ (cluster : Cluster) (me : ℕ) (facts : List Fact) (volatile : Volatile) (vote : Vote)
    (booted : nat_lt 0 (epoch_of facts) ≡ true) (votes : AreVotesOf cluster volatile) (of_tx : tx_belongs cluster vote.tx ≡ true) (of_mark : IsVoteOf cluster vote) where
  undecided-allowed : IsAllowedIf cluster facts (undecided_step (here cluster me facts) volatile vote).fact
  undecided-allowed = tt

  open-allowed : (o : Option Outcome) → Manager.would_decide cluster.quorums volatile.manager vote ≡ o → is_settled facts vote.tx ≡ false → is_opened volatile.manager vote.tx ≡ true
      → IsAllowedIf cluster facts (opened_step (here cluster me facts) volatile vote o).fact
  open-allowed None e unheard open_here = undecided-allowed
  open-allowed (Some outcome) e unheard open_here =
      let d = open-decided (IsVoteOf cluster) cluster.quorums volatile.manager vote outcome votes.manager of_mark open_here e in
      heard-allowed cluster facts vote.tx outcome booted of_tx (decided-belongs cluster cluster.quorums vote.tx _ outcome d.by) unheard

  watched-allowed : (o : Option (TxId × Outcome)) → Recover.would_decide cluster.quorums facts volatile.recovery vote ≡ o → is_settled facts vote.tx ≡ false
      → IsAllowedIf cluster facts (watched_step (here cluster me facts) volatile vote o).fact
  watched-allowed None e unheard = tt
  watched-allowed (Some decided) e unheard =
      let d = watched-decided (IsVoteOf cluster) cluster.quorums facts volatile.recovery vote decided votes.recovery of_mark e in
      rw d.same (heard-allowed cluster facts vote.tx decided.1 booted of_tx (decided-belongs cluster cluster.quorums vote.tx _ decided.1 d.by) unheard)

  pub voted-allowed : IsAllowedIf cluster facts (voted_step (here cluster me facts) volatile vote).fact
  voted-allowed =
      cond_both (is_settled facts vote.tx) (nothing_done volatile) _ (λ (step : NodeStep). IsAllowedIf cluster facts step.fact) (λ e. tt) (λ e.
      cond_both (is_opened volatile.manager vote.tx)
      (opened_step (here cluster me facts) volatile vote (Manager.would_decide cluster.quorums volatile.manager vote))
      (watched_step (here cluster me facts) volatile vote (Recover.would_decide cluster.quorums facts volatile.recovery vote))
      (λ (step : NodeStep). IsAllowedIf cluster facts step.fact)
      (λ f. open-allowed (Manager.would_decide cluster.quorums volatile.manager vote) refl e f)
      (λ f. watched-allowed (Recover.would_decide cluster.quorums facts volatile.recovery vote) refl e))
