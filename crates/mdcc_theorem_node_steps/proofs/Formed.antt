-- The steps of the manager are well-formed.
use Rattle.std.proofs.Common.{◌≡◌, ℕ, ◌+◌, ◌-◌, ◌^◌, ◌&&◌, Bool, true, false, cond, List, [], ◌∷◌, refl, Option, Some, None, not, nat_le, arith}
use Rattle.std.specs.Int.{IsInRange}
use Rattle.std.specs.List.{AllByRecursion}
use Rattle.std.specs.Option.{option_or}
use Rattle.std.proofs.lemmas.Bool.{cond_both, leb-false, ltb-true}
use Rattle.mdcc_base.specs.AreQuorums.{AreQuorums}
use Rattle.mdcc_base.specs.Key.{IsKey, key_eq}
use Rattle.mdcc_base.specs.Quorums.{home_of}
use Rattle.mdcc_base.specs.TxId.{tx_eq}
use Rattle.mdcc_base.specs.declared.identifiers.TxId.{TxId}
use Rattle.mdcc_base.specs.declared.key.Key.{Key}
use Rattle.mdcc_option.specs.Transaction.{choices_of}
use Rattle.mdcc_option.specs.declared.choices.Cause.{Cause}
use Rattle.mdcc_option.specs.declared.choices.Choice.{Choice}
use Rattle.mdcc_option.specs.declared.choices.Outcome.{Outcome}
use Rattle.mdcc_option.specs.declared.cluster.Cluster.{Cluster}
use Rattle.mdcc_option.specs.declared.faults.BeginFault.{BeginFault}
use Rattle.mdcc_option.specs.declared.items.Part.{Part}
use Rattle.mdcc_def_protocol.specs.Facts.{epoch_of, is_settled}
use Rattle.mdcc_def_protocol.specs.Learner.{collided, is_learned, with_counted_vote}
use Rattle.mdcc_def_protocol.specs.Manager
use Rattle.mdcc_def_protocol.specs.Manager.{act_on_cause, act_on_vote, acted, begin_with, begin_fault, choice_on_key, choice_unled, lead_act, parts_begin_fault, vote_taken}
use Rattle.mdcc_def_rules.specs.ManagerRules.{acted_step, begin_step_by, decided_step, escalate_step, opened_step, undecided_step, voted_step, watched_step}
use Rattle.mdcc_def_rules.specs.Messages.{to_all}
use Rattle.mdcc_def_protocol.specs.Recover
use Rattle.mdcc_def_rules.specs.Steps.{NodeStep, nothing_done}
use Rattle.mdcc_def_protocol.specs.Volatile.{Managing, Undecided, Volatile, has_key, is_opened, opened_of}
use Rattle.mdcc_def_messages.specs.WellFormed.{IsWellFormedFact}
use Rattle.mdcc_def_messages.specs.WellFormedParts.{IsWellFormedCause, IsWellFormedChoice, IsWellFormedHeard, IsWellFormedOf, IsWellFormedTx}
use Rattle.mdcc_def_messages.specs.declared.facts.Fact.{Fact}
use Rattle.mdcc_def_protocol.specs.declared.manager.ManagerAct.{ManagerAct}
use Rattle.mdcc_def_messages.specs.declared.messages.Message.{Message}
use Rattle.mdcc_def_protocol.specs.declared.votes.Vote.{Vote}
use Rattle.mdcc_theorem_node_steps.specs.Inputs.{AreWellFormedParts}
use Rattle.mdcc_theorem_node_steps.specs.WellFormedVolatile.{AreNodeFacts, IsWellFormedLead, IsWellFormedOpen, IsWellFormedVolatile, IsWellFormedVoteKept}
use Rattle.mdcc_theorem_node_steps.proofs.Deciding.{open-decided, watched-decided}
use Rattle.mdcc_theorem_node_steps.proofs.Each.{each-append, each-kept, each-weaker}
use Rattle.mdcc_theorem_node_steps.proofs.Held.{HoldsIn, holds-then}
use Rattle.mdcc_theorem_node_steps.proofs.Opened.{choices-formed, epoch-fits, opened-changed}
use Rattle.mdcc_theorem_node_steps.proofs.Outcomes.{entry-tx, formed-open, formed-watched}
use Rattle.mdcc_theorem_node_steps.proofs.Proposed.{holds-find}
use Rattle.mdcc_theorem_node_steps.proofs.Sending.{IsGoodSent, each-flat_map, home-range, sent-all, sent-give, sent-one, sent-others}
use Rattle.mdcc_def_rules.specs.Here.{here}

-- the new fact, the messages, the open transactions and the leads that a step leaves
abbrev pub IsFormed : NodeStep → Type 0
IsFormed step =
    HoldsIn IsWellFormedFact step.fact × AllByRecursion IsGoodSent step.sends
    × AllByRecursion IsWellFormedOpen step.after.manager.opened × AllByRecursion IsWellFormedLead step.after.leader.leads

-- the same but for the messages
abbrev pub IsFormedKept : NodeStep → Type 0
IsFormedKept step = HoldsIn IsWellFormedFact step.fact × AllByRecursion IsWellFormedOpen step.after.manager.opened × AllByRecursion IsWellFormedLead step.after.leader.leads

-- a choice that is found among open transactions
pub unled-formed : (manager : Managing) (tx : TxId) (key : Key) → AllByRecursion IsWellFormedOpen manager.opened → HoldsIn IsWellFormedChoice (choice_unled manager tx key)
unled-formed manager tx key kept =
    holds-then IsWellFormedOpen IsWellFormedChoice (λ (t : Undecided). cond (has_key t.led key) None (choice_on_key t.choices key)) (opened_of manager tx)
    (λ t w. cond_both (has_key t.led key) None (choice_on_key t.choices key) (HoldsIn IsWellFormedChoice) (λ e. tt)
    (λ e. holds-find IsWellFormedChoice (λ choice. key_eq choice.key key) t.choices (each-weaker (IsWellFormedOf t.tx) IsWellFormedChoice t.choices (λ c h. h.choice_itself) w.each)))
    (holds-find IsWellFormedOpen (λ t. tx_eq t.tx tx) manager.opened kept)

-- what an act sends is well-formed
abbrev pub IsFormedAct : Option ManagerAct → Type 0
IsFormedAct (Some (ManagerAct.Lead leader choice)) = IsInRange 1 9 leader × IsWellFormedChoice choice
IsFormedAct (Some (ManagerAct.Give centre key)) = IsInRange 1 9 centre × IsKey key
IsFormedAct _ = Unit {0}

lead-formed : (leader : ℕ) (o : Option Choice) → IsInRange 1 9 leader → HoldsIn IsWellFormedChoice o → IsFormedAct (lead_act leader o)
lead-formed leader None h k = tt
lead-formed leader (Some choice) h k = (h, k)

no_fault : {X : Type 0} (a : Option X) (b : Bool) (x : X) (c : Option X) → option_or a (cond b (Some x) c) ≡ None → b ≡ false
no_fault (Some y) b x c h = absurd (cc)
no_fault None true x c h = absurd (cc)
no_fault None false x c h = refl

-- the identifier of a begun transaction
pub begun-tx : (cluster : Cluster) (me : ℕ) (facts : List Fact) (volatile : Volatile) → IsInRange 1 9 me → AreNodeFacts cluster facts → (parts : List Part) → begin_fault facts volatile.manager parts ≡ None
    → IsWellFormedTx (record { centre = me; epoch = epoch_of facts; seq = volatile.manager.seq + 1 })
begun-tx cluster me facts volatile of_me known parts e =
    let spare : nat_le (2 ^ 32 - 1) volatile.manager.seq ≡ false = no_fault (parts_begin_fault facts parts) (nat_le (2 ^ 32 - 1) volatile.manager.seq) _ _ e in
    record {
      centre = of_me;
      epoch = epoch-fits facts known.well_formed (ltb-true 0 (epoch_of facts) known.booted);
      seq = (omega arith, omega (arith, leb-false (2 ^ 32 - 1) volatile.manager.seq spare));
    }

module _ (cluster : Cluster) (me : ℕ) (facts : List Fact) (volatile : Volatile) (sizes : AreQuorums cluster.quorums) (of_me : IsInRange 1 9 me)
    (known : AreNodeFacts cluster facts) (kept : IsWellFormedVolatile volatile) where
  pub nothing-formed : IsFormed (nothing_done volatile)
  nothing-formed = (tt, tt, kept.opened, kept.leads)

  pub acted-formed : (manager : Managing) (act : Option ManagerAct) → AllByRecursion IsWellFormedOpen manager.opened → IsFormedAct act → IsFormed (acted_step me facts volatile (acted manager act))
  acted-formed manager None h k = (tt, tt, h, kept.leads)
  acted-formed manager (Some (ManagerAct.Lead leader choice)) h k = (
    tt,
    sent-one me leader (Message.Lead choice) tt of_me k.0 k.1,
    opened-changed (λ t. tx_eq t.tx choice.tx) (λ t. record t { led = choice.key ∷ t.led }) manager.opened (λ t w. w) h,
    kept.leads,
  )
  acted-formed manager (Some (ManagerAct.Give centre key)) h k = (tt, sent-give cluster me facts centre key known of_me k.0 k.1, h, kept.leads)
  acted-formed manager (Some (ManagerAct.Decide tx outcome)) h k = (tt, tt, h, kept.leads)
  acted-formed manager (Some (ManagerAct.Propose choice)) h k = (tt, tt, h, kept.leads)
  acted-formed manager (Some (ManagerAct.LeadHere choice)) h k = (tt, tt, h, kept.leads)

  -- ---- acceptors that give no vote

  cause-formed : (s : ℕ) (tx : TxId) (key : Key) (cause : Cause) → IsInRange 1 9 s → IsKey key → IsWellFormedCause cause
      → IsFormedAct (act_on_cause cluster.quorums volatile.manager s tx key cause)
  cause-formed s tx key Cause.Behind h k w = (h, k)
  cause-formed s tx key (Cause.Classic ballot) h k w = lead-formed ballot.centre (choice_unled volatile.manager tx key) w.centre (unled-formed volatile.manager tx key kept.opened)
  cause-formed s tx key (Cause.Limit quantity) h k w = lead-formed (home_of cluster.quorums key) (choice_unled volatile.manager tx key) (home-range cluster.quorums key sizes) (unled-formed volatile.manager tx key kept.opened)
  cause-formed s tx key Cause.Full h k w = lead-formed (home_of cluster.quorums key) (choice_unled volatile.manager tx key) (home-range cluster.quorums key sizes) (unled-formed volatile.manager tx key kept.opened)

  pub escalate-formed : (s : ℕ) (key : Key) (tx : TxId) (cause : Cause) → IsInRange 1 9 s → IsKey key → IsWellFormedCause cause → IsFormed (escalate_step (here cluster me facts) volatile s key tx cause)
  escalate-formed s key tx cause h k w =
      cond_both (is_opened volatile.manager tx && not (is_learned cluster.quorums volatile.manager.votes tx key))
      (acted volatile.manager (act_on_cause cluster.quorums volatile.manager s tx key cause)) (None, volatile.manager)
      (λ (r : Option ManagerAct × Managing). IsFormed (acted_step me facts volatile r))
      (λ e. acted-formed volatile.manager (act_on_cause cluster.quorums volatile.manager s tx key cause) kept.opened (cause-formed s tx key cause h k w)) (λ e. nothing-formed)

  -- ---- votes

  decided-formed : (tx : TxId) (outcome : Outcome) → IsWellFormedHeard tx outcome → IsFormed (decided_step cluster me volatile tx outcome)
  decided-formed tx outcome w =
      (w, sent-others cluster.quorums me (Message.Outcome tx outcome) tt sizes of_me w, each-kept IsWellFormedOpen (λ t. not (tx_eq t.tx tx)) volatile.manager.opened kept.opened, kept.leads)

  taken-opened : (vote : Vote) → AllByRecursion IsWellFormedOpen (vote_taken cluster.quorums volatile.manager vote).opened
  taken-opened vote =
      cond_both (is_opened volatile.manager vote.tx) (record volatile.manager { votes = with_counted_vote cluster.quorums volatile.manager.votes vote }) volatile.manager
      (λ (m : Managing). AllByRecursion IsWellFormedOpen m.opened) (λ e. kept.opened) (λ e. kept.opened)

  vote-act : (manager : Managing) (vote : Vote) (o : Option Outcome) → AllByRecursion IsWellFormedOpen manager.opened → IsFormedAct (act_on_vote cluster.quorums manager vote o)
  vote-act manager vote (Some outcome) h = tt
  vote-act manager vote None h =
      cond_both (collided cluster.quorums manager.votes vote.tx vote.key) (lead_act (home_of cluster.quorums vote.key) (choice_unled manager vote.tx vote.key)) None IsFormedAct
      (λ e. lead-formed (home_of cluster.quorums vote.key) (choice_unled manager vote.tx vote.key) (home-range cluster.quorums vote.key sizes) (unled-formed manager vote.tx vote.key h)) (λ e. tt)

  undecided-formed : (vote : Vote) → IsFormed (undecided_step (here cluster me facts) volatile vote)
  undecided-formed vote =
      let taken = vote_taken cluster.quorums volatile.manager vote in
      let o = Manager.decision cluster.quorums taken vote.tx in
      acted-formed taken (act_on_vote cluster.quorums taken vote o) (taken-opened vote) (vote-act taken vote o (taken-opened vote))

  opened-formed : (vote : Vote) (o : Option Outcome) → IsWellFormedVoteKept vote → Manager.would_decide cluster.quorums volatile.manager vote ≡ o → is_opened volatile.manager vote.tx ≡ true
      → IsFormed (opened_step (here cluster me facts) volatile vote o)
  opened-formed vote None w e open_here = undecided-formed vote
  opened-formed vote (Some outcome) w e open_here =
      decided-formed vote.tx outcome (formed-open cluster.quorums volatile.manager vote.tx outcome (entry-tx vote.key vote.version vote.tx vote.mark w.entry) kept.opened
      (open-decided IsWellFormedVoteKept cluster.quorums volatile.manager vote outcome kept.votes w open_here e))

  watched-formed : (vote : Vote) (o : Option (TxId × Outcome)) → IsWellFormedVoteKept vote → Recover.would_decide cluster.quorums facts volatile.recovery vote ≡ o
      → IsFormed (watched_step (here cluster me facts) volatile vote o)
  watched-formed vote None w e = nothing-formed
  watched-formed vote (Some decided) w e =
      decided-formed decided.0 decided.1 (formed-watched cluster.quorums facts volatile.recovery vote.tx decided (entry-tx vote.key vote.version vote.tx vote.mark w.entry) known.well_formed
      (watched-decided IsWellFormedVoteKept cluster.quorums facts volatile.recovery vote decided kept.watched w e))

  pub voted-formed : (vote : Vote) → IsWellFormedVoteKept vote → IsFormed (voted_step (here cluster me facts) volatile vote)
  voted-formed vote w =
      cond_both (is_settled facts vote.tx) (nothing_done volatile) _ IsFormed (λ e. nothing-formed) (λ e.
      cond_both (is_opened volatile.manager vote.tx)
      (opened_step (here cluster me facts) volatile vote (Manager.would_decide cluster.quorums volatile.manager vote))
      (watched_step (here cluster me facts) volatile vote (Recover.would_decide cluster.quorums facts volatile.recovery vote))
      IsFormed
      (λ f. opened-formed vote (Manager.would_decide cluster.quorums volatile.manager vote) w refl f)
      (λ f. watched-formed vote (Recover.would_decide cluster.quorums facts volatile.recovery vote) w refl))

  -- ---- begins

  pub begin-formed : (parts : List Part) (fault : Option (Key × BeginFault)) → begin_fault facts volatile.manager parts ≡ fault → AreWellFormedParts parts
      → IsFormed (begin_step_by (here cluster me facts) volatile parts (begin_with me (epoch_of facts) volatile.manager parts fault))
  begin-formed parts (Some fault) e w = nothing-formed
  begin-formed parts None e w =
      let tx : TxId = record { centre = me; epoch = epoch_of facts; seq = volatile.manager.seq + 1 } in
      let of_tx : IsWellFormedTx tx = begun-tx cluster me facts volatile of_me known parts e in
      let commit = choices-formed tx parts of_tx w in (
        tt,
        each-flat_map (IsWellFormedOf tx) IsGoodSent (λ choice. to_all cluster.quorums me (Message.Propose choice)) (choices_of tx parts)
            (λ choice h. sent-all cluster.quorums me (Message.Propose choice) tt sizes of_me h.choice_itself) commit.each,
        each-append IsWellFormedOpen volatile.manager.opened (record { tx = tx; choices = choices_of tx parts; led = []; ticks = 0 } ∷ []) kept.opened (commit, tt),
        kept.leads,
      )
