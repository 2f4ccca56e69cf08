-- A tick leaves a well-formed state and sends well-formed messages, where the leader does.
use Rattle.std.proofs.Common.{ℕ, ◌%◌, ◌&&◌, ◌==◌, cond, List, [], ◌∷◌, map, filter, fold, nat_le, not}
use Rattle.std.specs.Int.{IsInRange}
use Rattle.std.specs.List.{AllByRecursion}
use Rattle.std.proofs.lemmas.Bool.{cond_both}
use Rattle.mdcc_base.specs.AreQuorums.{AreQuorums}
use Rattle.mdcc_base.specs.Sizes.{Sizes}
use Rattle.mdcc_base.specs.declared.identifiers.TxId.{TxId}
use Rattle.mdcc_base.specs.declared.key.Key.{Key}
use Rattle.mdcc_option.specs.declared.choices.Claim.{Claim}
use Rattle.mdcc_option.specs.declared.cluster.Cluster.{Cluster}
use Rattle.mdcc_def_protocol.specs.Facts.{unresolved_of}
use Rattle.mdcc_def_protocol.specs.Fit.{has_tx}
use Rattle.mdcc_def_protocol.specs.Leader.{claim_of_choice}
use Rattle.mdcc_def_protocol.specs.Learner.{is_learned}
use Rattle.mdcc_def_protocol.specs.Manager
use Rattle.mdcc_def_protocol.specs.Manager.{act_at, acts_at, choices_unlearned, is_odd, ticked_transaction}
use Rattle.mdcc_def_protocol.specs.Recover
use Rattle.mdcc_def_protocol.specs.Recover.{acts_on, ask_of, claim_of_key, dangling, keys_led}
use Rattle.mdcc_def_rules.specs.TickRules.{claim_led, manager_act, manager_ticked, recovery_act, recovery_ticked, tick_parts}
use Rattle.mdcc_def_rules.specs.Steps.{StepPart, only_sending, part_and_then}
use Rattle.mdcc_def_protocol.specs.Volatile.{Recovering, Undecided, Volatile, counter_of, next_count, txs_opened, with_manager, with_recovery}
use Rattle.mdcc_def_messages.specs.WellFormed.{IsWellFormedFact}
use Rattle.mdcc_def_messages.specs.WellFormedParts.{IsWellFormedChoice, IsWellFormedInstance, IsWellFormedOf, IsWellFormedTx, IsWellFormedWritten}
use Rattle.mdcc_def_messages.specs.declared.facts.Fact.{Fact}
use Rattle.mdcc_def_protocol.specs.declared.manager.ManagerAct.{ManagerAct}
use Rattle.mdcc_def_messages.specs.declared.messages.Message.{Message}
use Rattle.mdcc_def_protocol.specs.declared.recover.RecoverAct.{RecoverAct}
use Rattle.mdcc_def_protocol.specs.declared.votes.Vote.{Vote}
use Rattle.mdcc_theorem_node_steps.specs.WellFormedVolatile.{IsWellFormedOpen, IsWellFormedVolatile, IsWellFormedVoteKept}
use Rattle.mdcc_theorem_node_steps.proofs.Claims.{IsFormedClaim, formed-choice, formed-key}
use Rattle.mdcc_theorem_node_steps.proofs.Each.{each-append, each-kept, each-map, each-weaker}
use Rattle.mdcc_theorem_node_steps.proofs.Sending.{IsGoodSent, each-flat_map, sent-all}
use Rattle.mdcc_theorem_node_steps.proofs.Told.{IsWellFormedSetAt, unresolved-told}
use Rattle.mdcc_def_rules.specs.Here.{here}

-- what is left and sent
abbrev pub IsFormedTicked : StepPart → Type 0
IsFormedTicked t = IsWellFormedVolatile t.after × AllByRecursion IsGoodSent t.sends

formed-fold : {X : Type 0} (Q : X → Type 0) (act : Volatile → X → StepPart) → ((v : Volatile) (x : X) → IsWellFormedVolatile v → Q x → IsFormedTicked (act v x))
    → (xs : List X) (before : StepPart) → AllByRecursion Q xs → IsFormedTicked before → IsFormedTicked (fold (part_and_then act) before xs)
formed-fold Q act each [] before q h = h
formed-fold Q act each (x ∷ xs) before q h =
    let next = each before.after x h.0 q.0 in
    formed-fold Q act each xs (part_and_then act before x) q.1 (next.0, each-append IsGoodSent before.sends (act before.after x).sends h.1 next.1)

abbrev IsFormedManagerAct : ManagerAct → Type 0
IsFormedManagerAct (ManagerAct.Propose choice) = IsWellFormedChoice choice
IsFormedManagerAct (ManagerAct.LeadHere choice) = IsWellFormedChoice choice
IsFormedManagerAct _ = Unit {0}

abbrev IsFormedRecoverAct : RecoverAct → Type 0
IsFormedRecoverAct (RecoverAct.Ask tx key version) = IsWellFormedTx tx × IsWellFormedInstance key version
IsFormedRecoverAct (RecoverAct.LeadHere claim) = IsFormedClaim claim

-- ---- open transactions

formed-acts_at : (quorums : Sizes) (votes : List Vote) (t : Undecided) → IsWellFormedOpen t → AllByRecursion IsFormedManagerAct (acts_at quorums votes t)
formed-acts_at quorums votes t w =
    each-map IsFormedManagerAct (act_at (next_count t.ticks)) (choices_unlearned quorums votes t)
    (each-weaker (IsWellFormedOf t.tx) (λ choice. IsFormedManagerAct (act_at (next_count t.ticks) choice)) (choices_unlearned quorums votes t)
    (λ choice h. cond_both (is_odd (next_count t.ticks)) (ManagerAct.Propose choice) (ManagerAct.LeadHere choice) IsFormedManagerAct (λ e. h.choice_itself) (λ e. h.choice_itself))
    (each-kept (IsWellFormedOf t.tx) (λ choice. not (is_learned quorums votes t.tx choice.key)) t.choices w.each))

-- ---- dangling transactions

formed-acts_on : (quorums : Sizes) (facts : List Fact) (recovery : Recovering) (e : TxId × List (Key × ℕ)) → AllByRecursion IsWellFormedVoteKept recovery.votes
    → AllByRecursion IsWellFormedFact facts → IsWellFormedSetAt e → AllByRecursion IsFormedRecoverAct (acts_on quorums facts recovery e)
formed-acts_on quorums facts recovery (tx, set) votes known w =
    let n = next_count (counter_of recovery tx) in
    cond_both (n == 2) (map (ask_of tx) set) (cond (nat_le 4 n && n % 2 == 0) (keys_led quorums facts recovery tx set) []) (λ (acts : List RecoverAct). AllByRecursion IsFormedRecoverAct acts)
    (λ e. each-map IsFormedRecoverAct (ask_of tx) set (each-weaker IsWellFormedWritten (λ (e : Key × ℕ). IsFormedRecoverAct (ask_of tx e)) set (λ e h. (w.0, record { key_itself = h.key; version_fits = h.version })) w.1.each))
    (λ e. cond_both (nat_le 4 n && n % 2 == 0) (keys_led quorums facts recovery tx set) [] (λ (acts : List RecoverAct). AllByRecursion IsFormedRecoverAct acts)
    (λ f. each-map IsFormedRecoverAct (λ (e : Key × ℕ). RecoverAct.LeadHere (claim_of_key facts recovery tx e)) (filter (λ e. not (is_learned quorums recovery.votes tx e.0)) set)
    (each-weaker IsWellFormedWritten (λ (e : Key × ℕ). IsFormedClaim (claim_of_key facts recovery tx e)) (filter (λ e. not (is_learned quorums recovery.votes tx e.0)) set)
    (λ e h. formed-key facts recovery tx e known votes w.0 h) (each-kept IsWellFormedWritten (λ e. not (is_learned quorums recovery.votes tx e.0)) set w.1.each)))
    (λ f. tt))

module _ (cluster : Cluster) (me : ℕ) (facts : List Fact) (sizes : AreQuorums cluster.quorums) (of_me : IsInRange 1 9 me) (known : AllByRecursion IsWellFormedFact facts)
    (led : (volatile : Volatile) (claim : Claim) → IsWellFormedVolatile volatile → IsFormedClaim claim → IsFormedTicked (claim_led (here cluster me facts) volatile claim)) where
  formed-manager_act : (volatile : Volatile) (act : ManagerAct) → IsWellFormedVolatile volatile → IsFormedManagerAct act → IsFormedTicked (manager_act (here cluster me facts) volatile act)
  formed-manager_act volatile (ManagerAct.Propose choice) h w = (h, sent-all cluster.quorums me (Message.Propose choice) tt sizes of_me w)
  formed-manager_act volatile (ManagerAct.LeadHere choice) h w = led volatile (claim_of_choice choice) h (formed-choice choice w)
  formed-manager_act volatile (ManagerAct.Lead leader choice) h w = (h, tt)
  formed-manager_act volatile (ManagerAct.Decide tx outcome) h w = (h, tt)
  formed-manager_act volatile (ManagerAct.Give centre key) h w = (h, tt)

  formed-recovery_act : (volatile : Volatile) (act : RecoverAct) → IsWellFormedVolatile volatile → IsFormedRecoverAct act → IsFormedTicked (recovery_act (here cluster me facts) volatile act)
  formed-recovery_act volatile (RecoverAct.Ask tx key version) h w = (h, sent-all cluster.quorums me (Message.Ask tx key version) tt sizes of_me w)
  formed-recovery_act volatile (RecoverAct.LeadHere claim) h w = led volatile claim h w

  formed-manager_ticked : (volatile : Volatile) → IsWellFormedVolatile volatile → IsFormedTicked (manager_ticked (here cluster me facts) volatile)
  formed-manager_ticked volatile h =
      let next = Manager.tick cluster.quorums volatile.manager in
      formed-fold IsFormedManagerAct (manager_act (here cluster me facts)) formed-manager_act next.0 (only_sending (with_manager volatile next.1) [])
      (each-flat_map IsWellFormedOpen IsFormedManagerAct (acts_at cluster.quorums volatile.manager.votes) volatile.manager.opened (formed-acts_at cluster.quorums volatile.manager.votes) h.opened) (
        record {
          opened = each-map IsWellFormedOpen (ticked_transaction cluster.quorums volatile.manager.votes) volatile.manager.opened h.opened;
          votes = h.votes;
          watched = h.watched;
          leads = h.leads;
        },
        tt,
      )

  formed-recovery_ticked : (first : StepPart) → IsFormedTicked first → IsFormedTicked (recovery_ticked (here cluster me facts) first)
  formed-recovery_ticked first h =
      let opened = txs_opened first.after.manager in
      let next = Recover.tick cluster.quorums facts first.after.recovery opened in
      formed-fold IsFormedRecoverAct (recovery_act (here cluster me facts)) formed-recovery_act next.0 (record first { after = with_recovery first.after next.1 })
      (each-flat_map IsWellFormedSetAt IsFormedRecoverAct (acts_on cluster.quorums facts first.after.recovery) (dangling facts opened)
      (λ e w. formed-acts_on cluster.quorums facts first.after.recovery e h.0.watched known w)
      (each-kept IsWellFormedSetAt (λ e. not (has_tx opened e.0)) (unresolved_of facts) (unresolved-told facts known)))
      (record { opened = h.0.opened; votes = h.0.votes; watched = h.0.watched; leads = h.0.leads }, h.1)

  pub formed-tick : (volatile : Volatile) → IsWellFormedVolatile volatile → IsFormedTicked (tick_parts (here cluster me facts) volatile)
  formed-tick volatile h =
      let first = manager_ticked (here cluster me facts) volatile in
      let k : IsFormedTicked first = formed-manager_ticked volatile h in
      formed-recovery_ticked first k
