-- In every trace no centre has heard the outcome of a transaction that is open there, and its proposals were sent to all centres.
use Rattle.std.proofs.Common.{Bool, Err, List, None, Ok, Option, Result, Some, [], ap, arith, cond, false, get_or, inl, inr, length, map, refl, set, subst, suc, sym, true, zero, ℕ, ◌++◌, ◌+◌, ◌-◌, ◌<◌, ◌==◌, ◌∙◌, ◌∷◌, ◌≡◌, ◌≤◌}
use Rattle.std.specs.List.{range_with_len}
use Rattle.std.specs.Prelude.{⊤}
use Rattle.std.proofs.lemmas.Bool.{cases_Bool, cases_eq, eqb-true}
use Rattle.mdcc_base.specs.Quorums.{all_centres}
use Rattle.mdcc_base.specs.TxId.{tx_eq}
use Rattle.mdcc_base.specs.declared.identifiers.TxId.{TxId}
use Rattle.mdcc_base.specs.declared.key.Key.{Key}
use Rattle.mdcc_base.specs.declared.outside.Image.{Image}
use Rattle.mdcc_option.specs.Transaction.{choices_of}
use Rattle.mdcc_option.specs.declared.choices.Choice.{Choice}
use Rattle.mdcc_option.specs.declared.choices.Outcome.{Outcome}
use Rattle.mdcc_option.specs.declared.cluster.Cluster.{Cluster}
use Rattle.mdcc_option.specs.declared.faults.BeginFault.{BeginFault}
use Rattle.mdcc_option.specs.declared.items.Part.{Part}
use Rattle.mdcc_def_language.specs.declared.events.Event.{Event}
use Rattle.mdcc_def_ledger.specs.AllowedLedgers.{IsAllowed, seqs_begun}
use Rattle.mdcc_def_ledger.specs.Ledger.{Added, Entry, choices_begun, facts_of}
use Rattle.mdcc_def_messages.specs.Mailbox.{Sent, unsent, with_delivered}
use Rattle.mdcc_def_messages.specs.declared.facts.Fact.{Fact}
use Rattle.mdcc_def_messages.specs.declared.messages.Envelope.{Envelope}
use Rattle.mdcc_def_messages.specs.declared.messages.Message.{Message}
use Rattle.mdcc_def_protocol.specs.Belongs.{is_centre}
use Rattle.mdcc_def_protocol.specs.Facts.{epoch_of, heard_of, outcome_in}
use Rattle.mdcc_def_protocol.specs.IsCluster.{IsCluster}
use Rattle.mdcc_def_protocol.specs.Manager.{begin_with, begin_fault}
use Rattle.mdcc_def_protocol.specs.Volatile.{Undecided}
use Rattle.mdcc_def_rules.specs.ManagerRules.{begin_step_by, proposals_sent}
use Rattle.mdcc_def_rules.specs.Messages.{to_all, to_each}
use Rattle.mdcc_def_rules.specs.Node.{checked_for_room, message_step}
use Rattle.mdcc_def_rules.specs.Steps.{NodeStep}
use Rattle.mdcc_def_rules.specs.declared.node.Input.{Input}
use Rattle.mdcc_def_rules.specs.declared.node.StepFault.{StepFault}
use Rattle.mdcc_def_simulation.specs.Runs.{run_of}
use Rattle.mdcc_def_simulation.specs.State.{SimulatedSite, World, booted, booted_to, centre_at, down, first_world}
use Rattle.mdcc_def_simulation.specs.AppliedSteps.{fact_happened, input_happened, step_at, step_happened_by, step_stopped}
use Rattle.mdcc_def_simulation.specs.Checkpoints.{is_frame_kept, striking_at, tail_after_append}
use Rattle.mdcc_theorem_trace_states.specs.Invariant.{Holds, IsGood}
use Rattle.mdcc_theorem_trace_states.specs.Sound.{IsSound}
use Rattle.mdcc_theorem_trace_states.specs.Steps.{IsFair, IsUp}
use Rattle.mdcc_theorem_trace_states.specs.Words.{Each, In}
use Rattle.mdcc_theorem_trace_states.proofs.Boots.{replicated}
use Rattle.mdcc_theorem_trace_states.proofs.Events.{is-up}
use Rattle.mdcc_theorem_trace_states.proofs.Ledgers.{begun-tail, facts-other, facts-own, seq_within}
use Rattle.mdcc_theorem_trace_states.proofs.Lists.{Each-append, Each-at, Each-from, Each-like}
use Rattle.mdcc_theorem_trace_states.proofs.Maps.{tx-refl, tx-true}
use Rattle.mdcc_theorem_trace_states.proofs.Walk.{bounds, centre-set}
use Rattle.mdcc_theorem_trace_rules.proofs.Outcomes.{outcome-begun}
use Rattle.mdcc_theorem_trace_rules.proofs.Votings.{was-outcome}
use Rattle.mdcc_theorem_trace.proofs.Laws.{all-good}
use Rattle.mdcc_theorem_trace_limits.proofs.Walks.{IsWalk, envelopes, trace-reached}
use Rattle.mdcc_theorem_worlds.specs.StepEffects.{ledger_with_fact}
use Rattle.mdcc_theorem_round_trip.specs.Messages.{proposal_of}
use Rattle.mdcc_theorem_fast_path.proofs.OpenSteps.{IsKeeping, IsKeepingResult, WasOpen, message-keeps, old-same, tick-keeps}
use Rattle.mdcc_def_rules.specs.Here.{here}

-- what is known of an open transaction of a centre
pub record IsWell (cluster : Cluster) (es : List Entry) (messages : List Envelope) (a : ℕ) (t : Undecided) : Type 0 where
  pub unheard : heard_of (facts_of es a) t.tx ≡ None
  pub proposed : (choice : Choice) (member : ℕ) → In choice t.choices → is_centre cluster member ≡ true → In (proposal_of a (choice, member)) messages

abbrev pub AreWell : Cluster → List Entry → List Envelope → List SimulatedSite → Type 0
AreWell cluster es messages centres = (a : ℕ) → is_centre cluster a ≡ true → Each (IsWell cluster es messages a) (get_or centres (a - 1) booted).volatile.manager.opened

abbrev pub IsWellWorld : World → Type 0
IsWellWorld w = AreWell w.cluster w.ledger (envelopes w.sent) w.centres

-- ---- messages

in-more : (ss more : List Sent) (env : Envelope) → In env (envelopes ss) → In env (envelopes (ss ++ more))
in-more [] more env i = absurd i
in-more (s ∷ ss) more env i = elim i [ inl e ↦ inl e | inr r ↦ inr (in-more ss more env r) ]

in-new : (ss : List Sent) (sends : List Envelope) (env : Envelope) → In env sends → In env (envelopes (ss ++ map unsent sends))
in-new [] [] env i = absurd i
in-new [] (m ∷ ms) env i = elim i [ inl e ↦ inl e | inr r ↦ inr (in-new [] ms env r) ]
in-new (s ∷ ss) sends env i = inr (in-new ss sends env i)

delivered-same : (ss : List Sent) (n : ℕ) → envelopes (with_delivered ss n) ≡ envelopes ss
delivered-same [] n = refl
delivered-same (s ∷ ss) zero = refl
delivered-same (s ∷ ss) (suc n) = ap (λ z. s.envelope ∷ z) (delivered-same ss n)

in-range : (n low count : ℕ) → low ≤ n → n < low + count → In n (range_with_len low count)
in-range n low zero h g = absurd (omega (arith, h, g))
in-range n low (suc count) h g =
    elim (cases_eq n low) [
      | inl same ↦ inl same
      | inr other ↦ inr (in-range n (low + 1) count (omega (arith, h, other)) (omega (arith, g)))
    ]

in-centres : (cluster : Cluster) (member : ℕ) → is_centre cluster member ≡ true → In member (all_centres cluster.quorums)
in-centres cluster member h = let p = bounds cluster member h in in-range member 1 cluster.quorums.centres p.0 (omega (arith, p.1))

in-each : (a member : ℕ) (message : Message) (centres : List ℕ) → In member centres → In (record { from = a; to = member; message = message }) (to_each centres a message)
in-each a member message [] i = absurd i
in-each a member message (c ∷ cs) i = elim i [ inl e ↦ inl (ap (λ z. record { from = a; to = z; message = message }) e) | inr r ↦ inr (in-each a member message cs r) ]

in-front : {A : Type 0} (x : A) (xs ys : List A) → In x xs → In x (xs ++ ys)
in-front x [] ys i = absurd i
in-front x (y ∷ xs) ys i = elim i [ inl e ↦ inl e | inr r ↦ inr (in-front x xs ys r) ]

pub in-back : {A : Type 0} (x : A) (xs ys : List A) → In x ys → In x (xs ++ ys)
in-back x [] ys i = i
in-back x (y ∷ xs) ys i = inr (in-back x xs ys i)

-- the proposals of a begun transaction
in-proposals : (cluster : Cluster) (a member : ℕ) (choice : Choice) (choices : List Choice) → In choice choices → is_centre cluster member ≡ true → In (proposal_of a (choice, member)) (proposals_sent cluster.quorums a choices)
in-proposals cluster a member choice [] i h = absurd i
in-proposals cluster a member choice (c ∷ cs) i h =
    elim i [
      | inl e ↦
          in-front (proposal_of a (choice, member)) (to_all cluster.quorums a (Message.Propose c)) (proposals_sent cluster.quorums a cs)
          (subst (λ (z : Choice). In (proposal_of a (choice, member)) (to_all cluster.quorums a (Message.Propose z))) e (in-each a member (Message.Propose choice) (all_centres cluster.quorums) (in-centres cluster member h)))
      | inr r ↦ in-back (proposal_of a (choice, member)) (to_all cluster.quorums a (Message.Propose c)) (proposals_sent cluster.quorums a cs) (in-proposals cluster a member choice cs r h)
    ]

-- ---- one centre changes

well-more : (cluster : Cluster) (es new : List Entry) (ms more : List Envelope) (a : ℕ) (ts : List Undecided) → facts_of new a ≡ facts_of es a → ((env : Envelope) → In env ms → In env more)
    → Each (IsWell cluster es ms a) ts → Each (IsWell cluster new more a) ts
well-more cluster es new ms more a ts same grow h =
    Each-like (IsWell cluster es ms a) (IsWell cluster new more a) ts
    (λ t k. record { unheard = ap (λ fs. heard_of fs t.tx) same ∙ k.unheard; proposed = λ c m i g. grow (proposal_of a (c, m)) (k.proposed c m i g) }) h

set-well : (w : World) (a : ℕ) (c : SimulatedSite) (new : List Entry) (more : List Envelope) → Holds IsSound w.cluster w → is_centre w.cluster a ≡ true
    → ((b : ℕ) → (a == b) ≡ false → facts_of new b ≡ facts_of w.ledger b) → ((env : Envelope) → In env (envelopes w.sent) → In env more)
    → Each (IsWell w.cluster new more a) c.volatile.manager.opened → IsWellWorld w → AreWell w.cluster new more (set w.centres (a - 1) c)
set-well w a c new more h here others grow own all b there =
    let at = centre-set w.centres a b w.cluster.quorums.centres c (bounds w.cluster a here) (bounds w.cluster b there).0 h.size in
    elim (cases_Bool (a == b)) [
      | inl e ↦
          let g : get_or (set w.centres (a - 1) c) (b - 1) booted ≡ c = at ∙ rw e refl in
          subst (λ (z : SimulatedSite). Each (IsWell w.cluster new more b) z.volatile.manager.opened) (sym g)
          (subst (λ (z : ℕ). Each (IsWell w.cluster new more z) c.volatile.manager.opened) (eqb-true a b e) own)
      | inr e ↦
          let g : get_or (set w.centres (a - 1) c) (b - 1) booted ≡ get_or w.centres (b - 1) booted = at ∙ rw e refl in
          subst (λ (z : SimulatedSite). Each (IsWell w.cluster new more b) z.volatile.manager.opened) (sym g)
          (well-more w.cluster w.ledger new (envelopes w.sent) more b (get_or w.centres (b - 1) booted).volatile.manager.opened (others b e) grow (all b there))
    ]

-- ---- one step

quiet-fact : (t : TxId) (fact : Fact) → ((tx : TxId) (outcome : Outcome) → fact ≡ Fact.Heard tx outcome → tx_eq t tx ≡ false) → outcome_in t fact ≡ None
quiet-fact t (Fact.Booted n) h = refl
quiet-fact t (Fact.Promised k low high b) h = refl
quiet-fact t (Fact.Voted k v b os off) h = refl
quiet-fact t (Fact.Adopted k v item adds) h = refl
quiet-fact t (Fact.Floor c e n) h = refl
quiet-fact t (Fact.Heard tx outcome) h =
    elim (cases_Bool (tx_eq tx t)) [
      | inl e ↦ absurd (let same : t ≡ tx = sym (tx-true tx t e) in let bad : tx_eq t t ≡ false = subst (λ z. tx_eq t z ≡ false) (sym same) (h tx outcome refl) in let good = tx-refl t in cc)
      | inr e ↦ rw e refl
    ]

-- what a step leaves is well, over its entries, its fact and its messages
abbrev pub IsWellStep : World → ℕ → NodeStep → Option Fact → Type 0
IsWellStep w a step fact = Each (IsWell w.cluster (ledger_with_fact a fact (step.entries ++ w.ledger)) (envelopes (w.sent ++ map unsent step.sends)) a) step.after.manager.opened

keeping-well : (w : World) (a : ℕ) (step : NodeStep) → IsKeeping (centre_at w a).volatile step → Each (IsWell w.cluster w.ledger (envelopes w.sent) a) (centre_at w a).volatile.manager.opened → IsWellStep w a step step.fact
keeping-well w a step keeps all = by_fact step.fact refl
  where
    before : (t : Undecided) → In t step.after.manager.opened → (heard_of (facts_of (step.entries ++ w.ledger) a) t.tx ≡ None) × IsWell w.cluster w.ledger (envelopes w.sent) a t
    before t i =
        let was : WasOpen (centre_at w a).volatile.manager.opened t = Each-at (WasOpen (centre_at w a).volatile.manager.opened) step.after.manager.opened t keeps.opened i in
        let well = Each-at (IsWell w.cluster w.ledger (envelopes w.sent) a) (centre_at w a).volatile.manager.opened was.0 all was.1 in
        let unheard : heard_of (facts_of w.ledger a) t.tx ≡ None = subst (λ z. heard_of (facts_of w.ledger a) z ≡ None) was.2 well.unheard in (
          ap (λ fs. heard_of fs t.tx) (keeps.plain w.ledger a) ∙ unheard,
          record { unheard = unheard; proposed = λ c m j g. well.proposed c m (subst (λ z. In c z) (sym was.3) j) g },
        )

    by_fact : (o : Option Fact) → step.fact ≡ o → IsWellStep w a step o
    by_fact None e =
        Each-from (IsWell w.cluster (step.entries ++ w.ledger) (envelopes (w.sent ++ map unsent step.sends)) a) step.after.manager.opened
        (λ t i. let k = before t i in record { unheard = k.0; proposed = λ c m j g. in-more w.sent (map unsent step.sends) (proposal_of a (c, m)) (k.1.proposed c m j g) })
    by_fact (Some fact) e =
        Each-from (IsWell w.cluster (Added a fact ∷ (step.entries ++ w.ledger)) (envelopes (w.sent ++ map unsent step.sends)) a) step.after.manager.opened
        (λ t i.
        let k = before t i in
        let quiet : outcome_in t.tx fact ≡ None =
        quiet-fact t.tx fact (λ tx o f. Each-at (λ (u : Undecided). tx_eq u.tx tx ≡ false) step.after.manager.opened t (keeps.closes tx o (e ∙ ap Some f)) i) in
        record {
          unheard = ap (λ fs. heard_of fs t.tx) (facts-own a fact (step.entries ++ w.ledger)) ∙ rw (k.0, quiet) refl;
          proposed = λ c m j g. in-more w.sent (map unsent step.sends) (proposal_of a (c, m)) (k.1.proposed c m j g);
        })

happened-well : (w : World) (a : ℕ) (step : NodeStep) → Holds IsSound w.cluster w → is_centre w.cluster a ≡ true → ((es : List Entry) (b : ℕ) → facts_of (step.entries ++ es) b ≡ facts_of es b)
    → IsWellStep w a step step.fact → IsWellWorld w → IsWellWorld (step_happened_by w a step step.fact).world
happened-well w a step h here plain own all = by_fact step.fact own
  where
    stopped : (fact : Fact) (stop : ℕ × Image) → IsWellWorld (step_stopped w a fact stop).world
    stopped fact stop =
        elim (cases_Bool (is_frame_kept stop.0 stop.1)) [
          | inl e ↦ rw e (set-well w a (down _) (Added a fact ∷ w.ledger) (envelopes w.sent) h here (λ b f. facts-other b a fact w.ledger f) (λ env i. i) tt all)
          | inr e ↦ rw e (set-well w a (down _) w.ledger (envelopes w.sent) h here (λ b f. refl) (λ env i. i) tt all)
        ]

    by_stop : (fact : Fact) (o : Option (ℕ × Image)) → IsWellStep w a step (Some fact) → IsWellWorld (fact_happened w a step fact o).world
    by_stop fact None k =
        set-well w a (record (centre_at w a) { tail = tail_after_append (centre_at w a).tail; volatile = step.after }) (Added a fact ∷ (step.entries ++ w.ledger)) (envelopes (w.sent ++ map unsent step.sends)) h here
        (λ b f. facts-other b a fact (step.entries ++ w.ledger) f ∙ plain w.ledger b) (λ env i. in-more w.sent (map unsent step.sends) env i) k all
    by_stop fact (Some stop) k = stopped fact stop

    by_fact : (o : Option Fact) → IsWellStep w a step o → IsWellWorld (step_happened_by w a step o).world
    by_fact None k =
        set-well w a (record (centre_at w a) { volatile = step.after }) (step.entries ++ w.ledger) (envelopes (w.sent ++ map unsent step.sends)) h here
        (λ b f. plain w.ledger b) (λ env i. in-more w.sent (map unsent step.sends) env i) k all
    by_fact (Some fact) k = by_stop fact (striking_at w a) k

abbrev pub IsWellResult : World → ℕ → Result NodeStep StepFault → Type 0
IsWellResult w a (Ok step) = IsWellStep w a step step.fact × ((es : List Entry) (b : ℕ) → facts_of (step.entries ++ es) b ≡ facts_of es b)
IsWellResult w a (Err fault) = ⊤

input-well : (w : World) (a : ℕ) (r : Result NodeStep StepFault) → Holds IsSound w.cluster w → is_centre w.cluster a ≡ true → IsWellResult w a r → IsWellWorld w → IsWellWorld (input_happened w a r).world
input-well w a (Ok step) h here own all = happened-well w a step h here own.1 own.0 all
input-well w a (Err (StepFault.NoRoom needed spare)) h here own all = all
input-well w a (Err StepFault.Foreign) h here own all = all
input-well w a (Err StepFault.Crowded) h here own all = all
input-well w a (Err StepFault.Exhausted) h here own all = all
input-well w a (Err StepFault.Memory) h here own all = all

-- ---- inputs

module _ (w : World) (a : ℕ) (up : IsUp IsSound w.cluster w.ledger a (centre_at w a).volatile) (all : IsWellWorld w) where
  here-well : Each (IsWell w.cluster w.ledger (envelopes w.sent) a) (centre_at w a).volatile.manager.opened
  here-well = all a up.centre

  keeping-result : (r : Result NodeStep StepFault) → IsKeepingResult (centre_at w a).volatile r → IsWellResult w a r
  keeping-result (Ok step) h = (keeping-well w a step h here-well, h.plain)
  keeping-result (Err fault) h = tt

  message-well : (env : Envelope) → IsWellResult w a (step_at w a (Input.Message env))
  message-well env = pick _
    where
      pick : (b : Bool) → IsWellResult w a (cond b (checked_for_room w.cluster (facts_of w.ledger a) (message_step (here w.cluster a (facts_of w.ledger a)) (centre_at w a).volatile env.from env.message)) (Err StepFault.Foreign))
      pick true =
          keeping-result (checked_for_room w.cluster (facts_of w.ledger a) (message_step (here w.cluster a (facts_of w.ledger a)) (centre_at w a).volatile env.from env.message))
          (message-keeps w.cluster a (facts_of w.ledger a) (centre_at w a).volatile env.from env.message)
      pick false = tt

  tick-well : IsWellResult w a (step_at w a Input.Tick)
  tick-well =
      let k = tick-keeps w.cluster a (facts_of w.ledger a) (centre_at w a).volatile in
      keeping-result (step_at w a Input.Tick) (record { opened = k.opened; closes = λ tx o e. absurd (cc); plain = k.plain })

  sweep-well : IsWellResult w a (step_at w a Input.Sweep)
  sweep-well = keeping-result (step_at w a Input.Sweep) (record { opened = old-same (centre_at w a).volatile.manager.opened; closes = λ tx o e. absurd (cc); plain = λ es b. refl })

  read-well : (key : Key) → IsWellResult w a (step_at w a (Input.Read key))
  read-well key = keeping-result (step_at w a (Input.Read key)) (record { opened = old-same (centre_at w a).volatile.manager.opened; closes = λ tx o e. absurd (cc); plain = λ es b. refl })

  -- no outcome of a transaction was heard that was not begun
  fresh : (tx : TxId) (choices : List Choice) → IsAllowed w.cluster (Entry.Begun a tx choices ∷ w.ledger) → heard_of (facts_of w.ledger a) tx ≡ None
  fresh tx choices legal = by (heard_of (facts_of w.ledger a) tx) refl
    where
      number : tx.seq ≡ seqs_begun w.ledger tx.centre tx.epoch + 1
      number = subst (λ z. tx.seq ≡ seqs_begun w.ledger z tx.epoch + 1) (sym legal.1.1.centre) legal.1.1.seq

      by : (o : Option Outcome) → heard_of (facts_of w.ledger a) tx ≡ o → heard_of (facts_of w.ledger a) tx ≡ None
      by None e = e
      by (Some outcome) e =
          let was = was-outcome w.cluster w.ledger a tx outcome legal.0 e in
          let some = (outcome-begun w.cluster.quorums was.old tx outcome was.outcome).0 in
          let same = begun-tail w.cluster was.old w.ledger tx legal.0 was.tail some in
          let begun : 0 < length (choices_begun w.ledger tx) = subst (λ cs. 0 < length cs) (sym same) some in
          let within = seq_within w.cluster w.ledger tx legal.0 begun in
          absurd (omega (arith, number, within))

  begin-well : (parts : List Part) → IsGood w.cluster IsSound w.ledger a (step_at w a (Input.Begin parts)) → IsWellResult w a (step_at w a (Input.Begin parts))
  begin-well parts good = by_fault (begin_fault (facts_of w.ledger a) (centre_at w a).volatile.manager parts) good
    where
      by_fault : (o : Option (Key × BeginFault))
          → IsGood w.cluster IsSound w.ledger a (Ok (begin_step_by (here w.cluster a (facts_of w.ledger a)) (centre_at w a).volatile parts (begin_with a (epoch_of (facts_of w.ledger a)) (centre_at w a).volatile.manager parts o)))
          → IsWellResult w a (Ok (begin_step_by (here w.cluster a (facts_of w.ledger a)) (centre_at w a).volatile parts (begin_with a (epoch_of (facts_of w.ledger a)) (centre_at w a).volatile.manager parts o)))
      by_fault (Some fault) g =
          keeping-result (Ok (begin_step_by (here w.cluster a (facts_of w.ledger a)) (centre_at w a).volatile parts (begin_with a (epoch_of (facts_of w.ledger a)) (centre_at w a).volatile.manager parts (Some fault))))
          (record { opened = old-same (centre_at w a).volatile.manager.opened; closes = λ tx o e. absurd (cc); plain = λ es b. refl })
      by_fault None g =
          let tx : TxId = record { centre = a; epoch = epoch_of (facts_of w.ledger a); seq = (centre_at w a).volatile.manager.seq + 1 } in
          let choices = choices_of tx parts in
          let sends = proposals_sent w.cluster.quorums a choices in (
            Each-append (IsWell w.cluster (Entry.Begun a tx choices ∷ w.ledger) (envelopes (w.sent ++ map unsent sends)) a) (centre_at w a).volatile.manager.opened _
                (well-more w.cluster w.ledger (Entry.Begun a tx choices ∷ w.ledger) (envelopes w.sent) (envelopes (w.sent ++ map unsent sends)) a (centre_at w a).volatile.manager.opened refl (λ env i. in-more w.sent (map unsent sends) env i) here-well)
                (record { unheard = fresh tx choices g.legal; proposed = λ c m i h. in-new w.sent sends (proposal_of a (c, m)) (in-proposals w.cluster a m c choices i h) }, tt),
            λ es b. refl,
          )

-- ---- the walk

well-walk : (cluster : Cluster) → IsWalk cluster (λ t d w. IsWellWorld w)
well-walk cluster = record {
  first = λ b here. subst (λ (z : SimulatedSite). Each (IsWell cluster (booted_to cluster.quorums.centres) [] b) z.volatile.manager.opened) (sym (replicated cluster.quorums.centres (b - 1))) tt;
  delivered_at = λ t d w n m p. subst (λ ms. AreWell w.cluster w.ledger ms w.centres) (sym (delivered-same w.sent n)) p;
  events = λ t d w m p. p;
  reads = λ t d w rs p. p;
  crash = λ t d w a tail h here p. set-well w a (down tail) w.ledger (envelopes w.sent) (again w h) here (λ b f. refl) (λ env i. i) tt p;
  stop = λ t d w a s h here p. set-well w a (record (centre_at w a) { stop = s }) w.ledger (envelopes w.sent) (again w h) here (λ b f. refl) (λ env i. i) (p a here) p;
  restart = λ t d w a n h here p. set-well w a (record booted { tail = tail_after_append (centre_at w a).tail }) (Added a (Fact.Booted n) ∷ w.ledger) (envelopes w.sent) (again w h) here (λ b f. facts-other b a (Fact.Booted n) w.ledger f) (λ env i. i) tt p;
  input = λ t d w a input h up fair known p. by_input w a input h (is-up IsSound cluster w a h up) fair p;
}
  where
    again : (w : World) → Holds IsSound cluster w → Holds IsSound w.cluster w
    again w h = record { same = refl; sizes = h.sizes; legal = h.legal; placed = h.placed; more = h.more; sent = h.sent; size = h.size; centres = h.centres }

    by_input : (w : World) (a : ℕ) (input : Input) → Holds IsSound cluster w → IsUp IsSound w.cluster w.ledger a (centre_at w a).volatile → IsFair w.cluster w.ledger input → IsWellWorld w
        → IsWellWorld (input_happened w a (step_at w a input)).world
    by_input w a (Input.Message env) h up fair p = input-well w a (step_at w a (Input.Message env)) (again w h) up.centre (message-well w a up p env) p
    by_input w a Input.Tick h up fair p = input-well w a (step_at w a Input.Tick) (again w h) up.centre (tick-well w a up p) p
    by_input w a Input.Sweep h up fair p = input-well w a (step_at w a Input.Sweep) (again w h) up.centre (sweep-well w a up p) p
    by_input w a (Input.Read key) h up fair p = input-well w a (step_at w a (Input.Read key)) (again w h) up.centre (read-well w a up p key) p
    by_input w a (Input.Begin parts) h up fair p =
        input-well w a (step_at w a (Input.Begin parts)) (again w h) up.centre
        (begin-well w a up p parts ((all-good).step w.cluster w.ledger a (centre_at w a).volatile (Input.Begin parts) up fair)) p

pub open-well : (cluster : Cluster) → IsCluster cluster → (events : List Event) → IsWellWorld (run_of (first_world cluster) events).world
open-well cluster is events = (trace-reached cluster (λ t d w. IsWellWorld w) (well-walk cluster) (all-good) is.quorums events).is
