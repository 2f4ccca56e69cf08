-- A rule that adds a fact changes nothing but what the fact ends, and the fact may be added.
use Rattle.std.proofs.Common.{◌≡◌, ap, ℕ, Bool, true, false, List, [], ◌∷◌, Option, Some, None, Ok, Err, Result, refl, if◌then◌else◌, not, is_some, ◌||◌, ◌+◌, ◌++◌, append_assoc, append-nil, drop, fold, get_or, length, ◌<◌}
use Rattle.std.proofs.lemmas.Option.{slice_get-get_or}
use Rattle.std.specs.List.{filter, list_any}
use Rattle.std.specs.Prelude.{OnOk, option_map, slice_get}
use Rattle.mdcc_base.specs.Ballot.{ballot_lt}
use Rattle.mdcc_base.specs.Sizes.{Sizes}
use Rattle.mdcc_base.specs.declared.faults.Memory.{Memory}
use Rattle.mdcc_base.specs.declared.identifiers.Ballot.{Ballot}
use Rattle.mdcc_base.specs.declared.identifiers.TxId.{TxId}
use Rattle.mdcc_base.specs.declared.key.Key.{Key}
use Rattle.mdcc_def_messages.specs.declared.facts.Fact.{Fact}
use Rattle.mdcc_def_messages.specs.declared.messages.Envelope.{Envelope}
use Rattle.mdcc_def_messages.specs.declared.messages.Message.{Message}
use Rattle.mdcc_node.specs.StepPlans.{MayFollow, kept_by, planned, unsettled_sent}
use Rattle.mdcc_option.specs.declared.choices.Choice.{Choice}
use Rattle.mdcc_option.specs.declared.choices.Mark.{Mark}
use Rattle.mdcc_option.specs.declared.choices.Outcome.{Outcome}
use Rattle.mdcc_option.specs.declared.cluster.Cluster.{Cluster}
use Rattle.mdcc_def_protocol.specs.Acceptor.{on_accept, on_propose, promise_answer, range_end}
use Rattle.mdcc_def_protocol.specs.Facts.{is_finished, is_heard, is_settled, outcome_kept, promise_of, promised_through, vote_of, votes_of}
use Rattle.mdcc_def_protocol.specs.Leader.{claim_of_choice, on_promise}
use Rattle.mdcc_def_protocol.specs.Learner.{decision_of}
use Rattle.mdcc_def_protocol.specs.Manager
use Rattle.mdcc_def_protocol.specs.Recover
use Rattle.mdcc_def_protocol.specs.News.{is_news}
use Rattle.mdcc_def_protocol.specs.Volatile.{Managing, Recovering, Volatile, is_opened}
use Rattle.mdcc_def_protocol.specs.declared.acceptor.AcceptAnswer.{AcceptAnswer}
use Rattle.mdcc_def_protocol.specs.declared.acceptor.PrepareAnswer.{PrepareAnswer}
use Rattle.mdcc_def_protocol.specs.declared.acceptor.ProposeAnswer.{ProposeAnswer}
use Rattle.mdcc_def_protocol.specs.declared.leader.LeadFault.{LeadFault}
use Rattle.mdcc_def_protocol.specs.declared.leader.Promise.{Promise}
use Rattle.mdcc_def_protocol.specs.declared.manager.ManagerAct.{ManagerAct}
use Rattle.mdcc_def_protocol.specs.declared.visible.Give.{Give}
use Rattle.mdcc_def_protocol.specs.declared.votes.Vote.{Vote}
use Rattle.mdcc_def_rules.specs.AcceptorRules.{accept_step, accepted_step, all_votes_sent, ask_step, ask_step_after, ask_step_by, prepare_step, prepared_step, propose_step, proposed_step, votes_sent}
use Rattle.mdcc_def_rules.specs.Messages.{to_one}
use Rattle.mdcc_def_rules.specs.LeaderRules.{lead_step, lead_step_after, led_of, promised_by_answer, step_of_led}
use Rattle.mdcc_def_rules.specs.ManagerRules.{acted_step, opened_step, voted_step, watched_step}
use Rattle.mdcc_def_rules.specs.Node.{message_step}
use Rattle.mdcc_def_rules.specs.Steps.{NodeStep, StepPart, nothing_done, sending}
use Rattle.mdcc_def_rules.specs.SyncRules.{outcome_step, outcome_step_by, sync_give_step, sync_give_step_by}
use Rattle.mdcc_def_rules.specs.declared.node.Step.{Step}
use Rattle.mdcc_struct.specs.Maps.{value_of}
use Rattle.mdcc_struct.specs.declared.options.Options.{Options}
use Rattle.mdcc_struct.proofs.Walks.{drop-get}
use Rattle.mdcc_node.proofs.Planned.{Ends, EndsIn, SendsAlone}
use Rattle.mdcc_node.proofs.Unvoted.{new_vote}
use Rattle.mdcc_def_rules.specs.Here.{here}

-- ---- rules whose fact is all that they change

-- what it adds may be added, and nothing is kept otherwise
pub record AddsAlone (facts : List Fact) (volatile : Volatile) (step : NodeStep) : Type 0 where
  pub ends : Ends volatile step.after step.fact
  pub keeps : kept_by volatile step.after step.fact ≡ volatile
  pub follows : MayFollow facts step.fact

module _ (me : ℕ) (facts : List Fact) (volatile : Volatile) (s : ℕ) where
  proposed-adds : (cluster : Cluster) (choice : Choice) (answer : ProposeAnswer) → on_propose cluster facts choice ≡ answer
      → AddsAlone facts volatile (proposed_step me volatile s choice answer)
  proposed-adds cluster choice (ProposeAnswer.Known outcome) e = record { ends = tt; keeps = refl; follows = tt }
  proposed-adds cluster choice ProposeAnswer.Finished e = record { ends = tt; keeps = refl; follows = tt }
  proposed-adds cluster choice (ProposeAnswer.Again ballot mark) e = record { ends = tt; keeps = refl; follows = tt }
  proposed-adds cluster choice (ProposeAnswer.Escalate cause) e = record { ends = tt; keeps = refl; follows = tt }
  proposed-adds cluster choice (ProposeAnswer.Vote mark) e = record { ends = refl; keeps = refl; follows = (new_vote cluster facts choice mark e, refl) }

  pub propose-adds : (cluster : Cluster) (choice : Choice) → AddsAlone facts volatile (propose_step (here cluster me facts) volatile s choice)
  propose-adds cluster choice = proposed-adds cluster choice (on_propose cluster facts choice) refl

  promised-adds : (key : Key) (version new : ℕ) (ballot : Ballot) (before : Option ℕ) → promised_through facts key version ballot ≡ before
      → AddsAlone facts volatile (prepared_step me facts volatile s key version ballot (promise_answer before new))
  promised-adds key version new ballot (Some high) e = record { ends = tt; keeps = refl; follows = tt }
  promised-adds key version new ballot None e =
      record { ends = refl; keeps = refl; follows = (record { promised = rw e refl; voted = refl; heard = refl; unfinished = refl; marked = refl; no_floor = refl }, refl) }

  prepared-adds : (key : Key) (version through : ℕ) (ballot promise : Ballot) (low : Bool)
      → AddsAlone facts volatile (prepared_step me facts volatile s key version ballot
      (if low then PrepareAnswer.Refused promise else promise_answer (promised_through facts key version ballot) (range_end facts key version through)))
  prepared-adds key version through ballot promise true = record { ends = tt; keeps = refl; follows = tt }
  prepared-adds key version through ballot promise false = promised-adds key version (range_end facts key version through) ballot (promised_through facts key version ballot) refl

  pub prepare-adds : (key : Key) (version through : ℕ) (ballot : Ballot) → AddsAlone facts volatile (prepare_step me facts volatile s key version through ballot)
  prepare-adds key version through ballot =
      prepared-adds key version through ballot (promise_of facts key version) (ballot_lt ballot (promise_of facts key version))

  -- none of the new marks was voted, or is of a finished transaction
  abbrev HasNonePast : Options → Options → Type 0
  HasNonePast votes marks = (list_any (λ e. is_some (value_of votes e.0)) marks ≡ false) × (list_any (λ e. is_finished facts e.0) marks ≡ false)

  abbrev new : Options → Options → Options
  new votes es = filter (λ e. not (is_some (value_of votes e.0) || is_finished facts e.0)) es

  none-by : (votes es : Options) (e : TxId × Mark) (voted finished : Bool) → is_some (value_of votes e.0) ≡ voted → is_finished facts e.0 ≡ finished
      → HasNonePast votes (new votes es) → HasNonePast votes (new votes (e ∷ es))
  none-by votes es e true finished h f rest = rw h rest
  none-by votes es e false true h f rest = rw (h, f) rest
  none-by votes es e false false h f rest = (rw (h, f, h) rest.0, rw (h, f, f) rest.1)

  none-past : (votes options : Options) → HasNonePast votes (new votes options)
  none-past votes [] = (refl, refl)
  none-past votes (e ∷ es) = none-by votes es e (is_some (value_of votes e.0)) (is_finished facts e.0) refl refl (none-past votes es)

  accepted-adds : (key : Key) (version : ℕ) (ballot : Ballot) (options : Options) (answer : AcceptAnswer)
      → AddsAlone facts volatile (accepted_step me facts volatile s key version ballot options answer)
  accepted-adds key version ballot options (AcceptAnswer.Refused promise) = record { ends = tt; keeps = refl; follows = tt }
  accepted-adds key version ballot options (AcceptAnswer.Behind current) = record { ends = tt; keeps = refl; follows = tt }
  accepted-adds key version ballot options AcceptAnswer.Older = record { ends = tt; keeps = refl; follows = tt }
  accepted-adds key version ballot options AcceptAnswer.Vote = record {
    ends = refl;
    keeps = refl;
    follows = (
      record {
        promised = refl;
        voted = (none-past (votes_of facts key version ballot) options).0;
        heard = refl;
        unfinished = (none-past (votes_of facts key version ballot) options).1;
        marked = refl;
        no_floor = refl;
      },
      refl,
    );
  }

  pub accept-adds : (key : Key) (version : ℕ) (ballot : Ballot) (options : Options) → AddsAlone facts volatile (accept_step me facts volatile s key version ballot options)
  accept-adds key version ballot options = accepted-adds key version ballot options (on_accept facts key version ballot options)

neither : (heard finished : Bool) → (heard || finished) ≡ false → (heard ≡ false) × (finished ≡ false)
neither true finished e = absurd (cc)
neither false finished e = (refl, e)

module _ (facts : List Fact) (volatile : Volatile) (tx : TxId) (outcome : Outcome) where
  pub heard-follows : is_settled facts tx ≡ false → MayFollow facts (Some (Fact.Heard tx outcome))
  heard-follows e =
      let none = neither (is_heard facts tx) (is_finished facts tx) e in
      (record { promised = refl; voted = refl; heard = none.0; unfinished = none.1; marked = refl; no_floor = refl }, refl)

  outcome-by : (settled : Bool) → is_settled facts tx ≡ settled
      → AddsAlone facts volatile (outcome_step_by volatile tx (if settled then None else Some (Fact.Heard tx outcome)))
  outcome-by true e = record { ends = tt; keeps = refl; follows = tt }
  outcome-by false e = record { ends = refl; keeps = refl; follows = heard-follows e }

  pub outcome-adds : AddsAlone facts volatile (outcome_step facts volatile tx outcome)
  outcome-adds = outcome-by (is_settled facts tx) refl

module _ (me : ℕ) (facts : List Fact) (volatile : Volatile) (s : ℕ) (tx : TxId) (key : Key) (version : ℕ) where
  -- the answer where no outcome is kept
  abbrev unkept : Bool → Option (Ballot × Mark) → NodeStep
  unkept finished vote = if finished then sending volatile (to_one me s (Message.Finished tx)) else ask_step_after me volatile s tx key version vote

  -- what is asked is answered by messages alone
  unkept-by : (finished : Bool) (vote : Option (Ballot × Mark)) (sends : List Envelope) → sends ≡ [] ++ (unkept finished vote).sends
      → (record { fact = None; sends = sends; heard = None; answer = None }) ≡ planned (unkept finished vote)
  unkept-by true vote sends e = rw e refl
  unkept-by false (Some vote) sends e = rw e refl
  unkept-by false None sends e = rw e refl

  asked-by : (heard : Option Outcome) (sends : List Envelope) → sends ≡ [] ++ (ask_step_by me facts volatile s tx key version heard).sends
      → (record { fact = None; sends = sends; heard = None; answer = None }) ≡ planned (ask_step_by me facts volatile s tx key version heard)
  asked-by (Some outcome) sends e = rw e refl
  asked-by None sends e = unkept-by (is_finished facts tx) (vote_of facts key version tx) sends e

  unkept-keeps : (finished : Bool) (vote : Option (Ballot × Mark)) → AddsAlone facts volatile (unkept finished vote)
  unkept-keeps true vote = record { ends = tt; keeps = refl; follows = tt }
  unkept-keeps false (Some vote) = record { ends = tt; keeps = refl; follows = tt }
  unkept-keeps false None = record { ends = tt; keeps = refl; follows = tt }

  asked-keeps : (heard : Option Outcome) → AddsAlone facts volatile (ask_step_by me facts volatile s tx key version heard)
  asked-keeps (Some outcome) = record { ends = tt; keeps = refl; follows = tt }
  asked-keeps None = unkept-keeps (is_finished facts tx) (vote_of facts key version tx)

  pub asked-adds : AddsAlone facts volatile (ask_step me facts volatile s tx key version)
  asked-adds = asked-keeps (outcome_kept facts tx)

  asked-plan : (sends : List Envelope) → sends ≡ [] ++ (ask_step me facts volatile s tx key version).sends
      → (record { fact = None; sends = sends; heard = None; answer = None }) ≡ planned (ask_step me facts volatile s tx key version)
  asked-plan = asked-by (outcome_kept facts tx)

  pub asked-planned : (result : Result (Unit {0}) Memory) (sends : List Envelope)
      → OnOk result (sends ≡ [] ++ (ask_step me facts volatile s tx key version).sends)
      → OnOk result ((record { fact = None; sends = sends; heard = None; answer = None }) ≡ planned (ask_step me facts volatile s tx key version))
  asked-planned (Ok done) sends e = asked-plan sends e
  asked-planned (Err fault) sends e = tt

module _ (facts : List Fact) (volatile : Volatile) (give : Give) where
  adopted-by : (news : Bool)
      → AddsAlone facts volatile (sync_give_step_by volatile (if news then Some (Fact.Adopted give.key give.version give.item give.adds) else None))
  adopted-by true = record { ends = refl; keeps = refl; follows = (record { promised = refl; voted = refl; heard = refl; unfinished = refl; marked = refl; no_floor = refl }, refl) }
  adopted-by false = record { ends = tt; keeps = refl; follows = tt }

  pub adopted-adds : AddsAlone facts volatile (sync_give_step facts volatile give)
  adopted-adds = adopted-by (is_news facts give.key give.version give.adds)

-- ---- all rules

module _ (volatile : Volatile) where
  ends-led : (part : Result StepPart LeadFault) → EndsIn volatile (step_of_led part)
  ends-led (Ok part) = tt
  ends-led (Err fault) = tt

  ends-lead : (cluster : Cluster) (me : ℕ) (facts : List Fact) (s : ℕ) (choice : Choice) (heard : Option Outcome)
      → EndsIn volatile (lead_step_after (here cluster me facts) volatile s choice heard)
  ends-lead cluster me facts s choice (Some outcome) = tt
  ends-lead cluster me facts s choice None = by (is_finished facts choice.tx)
    where
      by : (finished : Bool)
          → EndsIn volatile (if finished then Ok (sending volatile (to_one me s (Message.Finished choice.tx))) else step_of_led (led_of (here cluster me facts) volatile (claim_of_choice choice)))
      by true = tt
      by false = ends-led (led_of (here cluster me facts) volatile (claim_of_choice choice))

  ends-act : (me : ℕ) (facts : List Fact) (acted : Option ManagerAct × Managing) → EndsIn volatile (Ok (acted_step me facts volatile acted))
  ends-act me facts (act, manager) = tt

  ends-opened : (cluster : Cluster) (me : ℕ) (facts : List Fact) (vote : Vote) (decided : Option Outcome)
      → EndsIn volatile (Ok (opened_step (here cluster me facts) volatile vote decided))
  ends-opened cluster me facts vote (Some outcome) = refl
  ends-opened cluster me facts vote None = ends-act me facts (Manager.on_voted cluster.quorums volatile.manager vote)

  ends-watched : (cluster : Cluster) (me : ℕ) (facts : List Fact) (vote : Vote) (decided : Option (TxId × Outcome))
      → EndsIn volatile (Ok (watched_step (here cluster me facts) volatile vote decided))
  ends-watched cluster me facts vote (Some decided) = refl
  ends-watched cluster me facts vote None = tt

  ends-either : (settled opened : Bool) (a b c : NodeStep) → EndsIn volatile (Ok a) → EndsIn volatile (Ok b) → EndsIn volatile (Ok c)
      → EndsIn volatile (Ok (if settled then a else (if opened then b else c)))
  ends-either true opened a b c x y z = x
  ends-either false true a b c x y z = y
  ends-either false false a b c x y z = z

  ends-voted : (cluster : Cluster) (me : ℕ) (facts : List Fact) (vote : Vote)
      → EndsIn volatile (Ok (voted_step (here cluster me facts) volatile vote))
  ends-voted cluster me facts vote =
      ends-either (is_settled facts vote.tx) (is_opened volatile.manager vote.tx) _ _ _ tt
      (ends-opened cluster me facts vote (Manager.would_decide cluster.quorums volatile.manager vote))
      (ends-watched cluster me facts vote (Recover.would_decide cluster.quorums facts volatile.recovery vote))

  pub ends : (cluster : Cluster) (me : ℕ) (facts : List Fact) (s : ℕ) (message : Message)
      → EndsIn volatile (message_step (here cluster me facts) volatile s message)
  ends cluster me facts s (Message.Propose choice) = (propose-adds me facts volatile s cluster choice).ends
  ends cluster me facts s (Message.Voted key version ballot tx mark) =
      ends-voted cluster me facts (record { from = s; key = key; version = version; ballot = ballot; tx = tx; mark = mark })
  ends cluster me facts s (Message.Escalate key version tx cause) =
      ends-act me facts (Manager.on_escalate cluster.quorums volatile.manager s tx key cause)
  ends cluster me facts s (Message.Lead choice) = ends-lead cluster me facts s choice (outcome_kept facts choice.tx)
  ends cluster me facts s (Message.Prepare key version through ballot) = (prepare-adds me facts volatile s key version through ballot).ends
  ends cluster me facts s (Message.Promise key version through ballot reported votes) =
      let promise : Promise = record { key = key; version = version; through = through; ballot = ballot; reported = reported; votes = votes } in
      ends-led (promised_by_answer cluster.quorums me volatile key (on_promise cluster facts volatile.leader s promise))
  ends cluster me facts s (Message.Accept key version ballot options) = (accept-adds me facts volatile s key version ballot options).ends
  ends cluster me facts s (Message.Refused key version ballot promised) = tt
  ends cluster me facts s (Message.Outcome tx outcome) = (outcome-adds facts volatile tx outcome).ends
  ends cluster me facts s (Message.Ask tx key version) = (asked-adds me facts volatile s tx key version).ends
  ends cluster me facts s (Message.SyncAsk key) = tt
  ends cluster me facts s (Message.SyncGive key version item adds) =
      (adopted-adds facts volatile (record { key = key; version = version; item = item; adds = adds })).ends
  ends cluster me facts s (Message.ClientRead serial key) = tt
  ends cluster me facts s (Message.ClientBegin serial parts) = tt
  ends cluster me facts s (Message.ClientAnswer serial answer) = tt
  ends cluster me facts s (Message.Mark centre epoch seq) = tt
  ends cluster me facts s (Message.Finished tx) = tt

-- ---- a claim is led, or answered

module _ (cluster : Cluster) (me : ℕ) (facts : List Fact) (volatile : Volatile) (s : ℕ) (choice : Choice) where
  led-alone : (part : Result StepPart LeadFault) → SendsAlone (step_of_led part)
  led-alone (Ok part) = (refl, refl)
  led-alone (Err fault) = tt

  lead-by : (finished : Bool) (led : Result StepPart LeadFault)
      → SendsAlone (if finished then Ok (sending volatile (to_one me s (Message.Finished choice.tx))) else step_of_led led)
  lead-by true led = (refl, refl)
  lead-by false led = led-alone led

  lead-after : (kept : Option Outcome) → SendsAlone (lead_step_after (here cluster me facts) volatile s choice kept)
  lead-after (Some outcome) = (refl, refl)
  lead-after None = lead-by (is_finished facts choice.tx) (led_of (here cluster me facts) volatile (claim_of_choice choice))

  pub lead-alone : SendsAlone (lead_step (here cluster me facts) volatile s choice)
  lead-alone = lead-after (outcome_kept facts choice.tx)

-- ---- votes on what is watched

module _ (quorums : Sizes) (facts : List Fact) (recovery : Recovering) (vote : Vote) (decided : TxId × Outcome) where
  decided-by : (outcome : Option Outcome) → Some decided ≡ option_map {U = TxId × Outcome} (λ outcome. (vote.tx, outcome)) outcome → decided.0 ≡ vote.tx
  decided-by (Some outcome) e =
      let is : decided ≡ (vote.tx, outcome) = cc in
      ap (λ (x : TxId × Outcome). x.0) is
  decided-by None e = absurd (cc)

  decided-in : (keys : Option (List Key)) → Some decided ≡ (Recover.on_voted_by quorums recovery vote keys).0 → decided.0 ≡ vote.tx
  decided-in None e = absurd (cc)
  decided-in (Some keys) e = decided-by (decision_of quorums (Recover.watched_vote quorums recovery vote).votes vote.tx keys) e

  -- a vote decides of its own transaction
  pub decided-tx : Some decided ≡ Recover.would_decide quorums facts recovery vote → decided.0 ≡ vote.tx
  decided-tx = decided-in (Recover.keys_watched facts recovery vote.tx)

-- ---- votes on what is settled

pub voted-settled : (cluster : Cluster) (me : ℕ) (facts : List Fact) (volatile : Volatile) (vote : Vote)
    → is_settled facts vote.tx ≡ true → voted_step (here cluster me facts) volatile vote ≡ nothing_done volatile
voted-settled cluster me facts volatile vote settled = rw settled refl

-- ---- what a plan adds

pub follows-planned : (facts : List Fact) (result : Result (Unit {0}) Memory) (plan : Step) (step : NodeStep) → OnOk result (plan ≡ planned step)
    → MayFollow facts step.fact → OnOk result (MayFollow facts plan.fact)
follows-planned facts (Ok done) plan step e h = rw e h
follows-planned facts (Err fault) plan step e h = tt

-- ---- votes, one after the other

next-by : (sends rest sent whole : List Envelope) (heard : Bool) → sends ++ (if heard then rest else sent ++ rest) ≡ whole
    → (sends ++ (if heard then [] else sent)) ++ rest ≡ whole
next-by sends rest sent whole true e = rw (append-nil sends) e
next-by sends rest sent whole false e = rw append_assoc e

kept-by : (me : ℕ) (facts : List Fact) (key : Key) (version : ℕ) (ballot : Ballot) (e : TxId × Mark) (es : Options) (settled : Bool) → is_settled facts e.0 ≡ settled
    → all_votes_sent me facts key version ballot (e ∷ es)
    ≡ (if settled then all_votes_sent me facts key version ballot es else votes_sent me key version ballot e ++ all_votes_sent me facts key version ballot es)
kept-by me facts key version ballot e es true h = rw h refl
kept-by me facts key version ballot e es false h = rw h refl

pub next-votes : (me : ℕ) (facts : List Fact) (key : Key) (version : ℕ) (ballot : Ballot) (marks : Options) (i : ℕ) (e : TxId × Mark) (sends whole : List Envelope)
    → slice_get marks i ≡ Some e → sends ++ all_votes_sent me facts key version ballot (drop i marks) ≡ whole
    → (sends ++ unsettled_sent me facts key version ballot e) ++ all_votes_sent me facts key version ballot (drop (i + 1) marks) ≡ whole
next-votes me facts key version ballot marks i e sends whole at h =
    let here : sends ++ all_votes_sent me facts key version ballot (e ∷ drop (i + 1) marks) ≡ whole = rw (drop-get marks i e at) at h in
    next-by sends (all_votes_sent me facts key version ballot (drop (i + 1) marks)) (votes_sent me key version ballot e) whole (is_settled facts e.0)
    (rw (kept-by me facts key version ballot e (drop (i + 1) marks) (is_settled facts e.0) refl) at here)

-- ---- acts at a tick, one after the other

pub fold-next : {A B : Type 0} (f : B → A → B) (xs : List A) (i : ℕ) (x : A) (b whole : B) → i < length xs → x ≡ get_or xs i x
    → fold f b (drop i xs) ≡ whole → fold f (f b x) (drop (i + 1) xs) ≡ whole
fold-next f xs i x b whole within is h =
    let here : slice_get xs i ≡ Some x = rw (slice_get-get_or xs i x within, ← is) refl in
    rw (drop-get xs i x here) at h
