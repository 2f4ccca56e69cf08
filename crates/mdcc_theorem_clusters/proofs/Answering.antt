-- What is pending for clients, and what is kept of their transactions, turn by turn.
use Rattle.std.proofs.Common.{Bool, Err, List, None, Ok, Option, Result, Some, [], ap, append-nil, append_assoc, cond, false, inl, inr, refl, subst, sym, true, ℕ, ◌++◌, ◌<◌, ◌^◌, ◌∙◌, ◌∷◌, ◌≡◌}
use Rattle.std.specs.List.{AllByRecursion}
use Rattle.std.specs.Prelude.{nat_eq}
use Rattle.std.proofs.lemmas.Bool.{eqb-true}
use Rattle.mdcc_base.specs.TxId.{tx_eq}
use Rattle.mdcc_base.specs.declared.identifiers.TxId.{TxId}
use Rattle.mdcc_base.specs.declared.key.Key.{Key}
use Rattle.mdcc_config.specs.declared.config.Config.{Config}
use Rattle.mdcc_frag.specs.Joining
use Rattle.mdcc_frag.specs.Joining.{join}
use Rattle.mdcc_def_ledger.specs.Ledger.{Entry}
use Rattle.mdcc_def_messages.specs.declared.facts.Fact.{Fact}
use Rattle.mdcc_def_messages.specs.declared.messages.ClientAnswer.{ClientAnswer}
use Rattle.mdcc_def_messages.specs.declared.messages.Envelope.{Envelope}
use Rattle.mdcc_def_messages.specs.declared.messages.Message.{Message}
use Rattle.mdcc_option.specs.Transaction.{choices_of, transaction_of}
use Rattle.mdcc_option.specs.declared.choices.Choice.{Choice}
use Rattle.mdcc_option.specs.declared.faults.BeginFault.{BeginFault}
use Rattle.mdcc_option.specs.declared.faults.DraftFault.{DraftFault}
use Rattle.mdcc_option.specs.declared.items.Part.{Part}
use Rattle.mdcc_def_protocol.specs.Facts.{epoch_of}
use Rattle.mdcc_def_protocol.specs.Manager
use Rattle.mdcc_def_protocol.specs.Visible
use Rattle.mdcc_def_protocol.specs.Volatile.{Managing}
use Rattle.mdcc_def_rules.specs.ManagerRules.{begin_step_by}
use Rattle.mdcc_def_rules.specs.Here.{here}
use Rattle.mdcc_def_rules.specs.Steps.{NodeStep, heard_by, with_new}
use Rattle.mdcc_def_rules.specs.declared.node.Answer.{Answer}
use Rattle.mdcc_def_rules.specs.declared.node.Input.{Input}
use Rattle.mdcc_def_rules.specs.declared.node.StepFault.{StepFault}
use Rattle.mdcc_theorem_server_runs.proofs.Epoch.{run_keeps}
use Rattle.mdcc_theorem_server_runs.proofs.Joined.{node_after_run, run_joined}
use Rattle.mdcc_theorem_server_runs.specs.Inputs.{asked_input, asked_inputs, asked_message_input, begin_input, own_input, own_inputs, own_message_input, tick_input, turn_inputs}
use Rattle.mdcc_def_server_runs.specs.Arrivals.{Arrival, arrival_of, is_not_taken}
use Rattle.mdcc_def_server_runs.specs.Clients.{Clients, begun_for, known_of, with_begun, with_end, with_end_by}
use Rattle.mdcc_def_server_runs.specs.Runs.{NodeState, after_run, after_step, listed, run_of_inputs, step_on}
use Rattle.mdcc_def_server_runs.specs.Sending.{answer_to}
use Rattle.mdcc_def_server_runs.specs.Sites.{Site, idle_site, queued}
use Rattle.mdcc_def_server_runs.specs.Steps.{answer_queued, begin_made, begin_taken_by, draft_taken, dropped, end_of_begun, end_told, ends_told, input_made, input_taken, known_told, read_taken}
use Rattle.mdcc_def_server_runs.specs.Turns.{Given, asked_arrived, asked_message, asked_received, is_silent, own_arrived, own_message, own_received, ticked, turn_inputs_taken}
use Rattle.mdcc_def_server_runs.specs.declared.clients.Begun.{Begun}
use Rattle.mdcc_theorem_node_steps.specs.Inputs.{AreWellFormedParts, IsWellFormedInput}
use Rattle.mdcc_theorem_node_steps.specs.NodeInvariant.{IsNode}
use Rattle.mdcc_theorem_trace_states.specs.Words.{Each, In}
use Rattle.mdcc_def_messages.specs.WellFormed.{IsWellFormedMessage}
use Rattle.mdcc_def_messages.specs.WellFormedParts.{IsWellFormedTx}
use Rattle.mdcc_theorem_clusters.specs.Formed.{StepLaws}
use Rattle.mdcc_theorem_trace_states.proofs.Lists.{In-append, IsTail-same}
use Rattle.mdcc_theorem_worlds.specs.StepSends.{OthersBeginNothing, is_begin_input}
use Rattle.mdcc_theorem_trace_states.proofs.Maps.{tx-true}
use Rattle.mdcc_theorem_clusters.proofs.Asking.{by-fact, valued-none}
use Rattle.mdcc_theorem_clusters.proofs.Clients.{Kept, end-begun, inserted-keeps, inserted-own}
use Rattle.mdcc_theorem_clusters.specs.Answers.{AnswersAt, HasHeard, IsBegunOnceDurable, IsOwedOnceDurable, IsMadeFor, IsTrueOnceDurable}
use Rattle.mdcc_theorem_clusters.specs.Asked.{CameAsked, WasAskedUnder}
use Rattle.mdcc_theorem_commit_groups.specs.Groups.{entries_made, entries_made_by}
use Rattle.mdcc_theorem_clusters.specs.Pending.{RequestsCome}
use Rattle.mdcc_theorem_clusters.proofs.Growing.{In-before, after-more, all-both, all-like, begin-names, begun-more, entries-more, found-insert, grows-new, grows-same, heard-new, made-later, owed-more, sends-owed, step-keeps}

-- ---- what a step leaves

module _ (laws : StepLaws) (others : OthersBeginNothing) (config : Config) (G : ℕ → List ℕ → Type 0) (es : List Entry) (a : ℕ) (node : NodeState) where
  abbrev At : List Input → Site → Type 0
  At inputs site = AnswersAt config G es a node inputs site

  abbrev made_by : List Input → List (Result NodeStep StepFault)
  made_by inputs = run_of_inputs config.cluster a node inputs

  run-one : (inputs : List Input) (site : Site) (input : Input) (r : Result NodeStep StepFault) → At inputs site → step_on config.cluster site.centre site.node input ≡ r
      → run_of_inputs config.cluster a node (inputs ++ input ∷ []) ≡ run_of_inputs config.cluster a node inputs ++ (r ∷ [])
  run-one inputs site input r h e =
      let here : step_on config.cluster a site.node input ≡ r = ap (λ (z : ℕ). step_on config.cluster z site.node input) (sym h.centre_is) ∙ e in
      run_joined config.cluster a node inputs (input ∷ [])
      ∙ (ap (λ (n : NodeState). run_of_inputs config.cluster a node inputs ++ run_of_inputs config.cluster a n (input ∷ [])) (node_after_run config.cluster a node inputs ∙ sym h.node_is)
      ∙ ap (λ (x : Result NodeStep StepFault). run_of_inputs config.cluster a node inputs ++ (x ∷ [])) here)

  node-one : (inputs : List Input) (site : Site) (input : Input) (r : Result NodeStep StepFault) → At inputs site → step_on config.cluster site.centre site.node input ≡ r
      → after_step site.node r ≡ after_run config.cluster a node (inputs ++ input ∷ [])
  node-one inputs site input r h e =
      let here : step_on config.cluster a site.node input ≡ r = ap (λ (z : ℕ). step_on config.cluster z site.node input) (sym h.centre_is) ∙ e in
      sym (after-more config.cluster a node inputs (input ∷ [])
      ∙ (ap (λ (n : NodeState). after_run config.cluster a n (input ∷ [])) (sym h.node_is) ∙ ap (λ (x : Result NodeStep StepFault). after_step site.node x) here))

  made-at : (inputs : List Input) (site : Site) (input : Input) (r : Result NodeStep StepFault) → At inputs site → step_on config.cluster site.centre site.node input ≡ r → step_on config.cluster a site.node input ≡ r
  made-at inputs site input r h e = ap (λ (z : ℕ). step_on config.cluster z site.node input) (sym h.centre_is) ∙ e

  abbrev New : Site → Result NodeStep StepFault → Type 0
  New next r = (b : ℕ) (tx : TxId) (choices : List Choice) → In (Entry.Begun b tx choices) (entries_made_by a r) → (b ≡ a) × IsMadeFor config G a next tx choices

  result-made : (inputs : List Input) (site : Site) (input : Input) (r : Result NodeStep StepFault) → At inputs site → step_on config.cluster site.centre site.node input ≡ r
      → (next : Site) → next.node ≡ after_step site.node r → Kept site next → New next r
      → (b : ℕ) (tx : TxId) (choices : List Choice) → In (Entry.Begun b tx choices) (entries_made a (made_by inputs ++ (r ∷ []))) → (b ≡ a) × IsMadeFor config G a next tx choices
  result-made inputs site input r h e next is kept fresh b tx choices i =
      let parts : In (Entry.Begun b tx choices) (entries_made a (r ∷ []) ++ entries_made a (made_by inputs)) = subst (λ (xs : List Entry). In (Entry.Begun b tx choices) xs) (entries-more a (made_by inputs) (r ∷ [])) i in
      let same : epoch_of next.node.facts ≡ epoch_of site.node.facts =
      ap (λ (n : NodeState). epoch_of n.facts) is
      ∙ (ap (λ (x : Result NodeStep StepFault). epoch_of (after_step site.node x).facts) (sym (made-at inputs site input r h e)) ∙ run_keeps config.cluster a site.node (input ∷ [])) in
      elim (In-append (Entry.Begun b tx choices) (entries_made a (r ∷ [])) (entries_made a (made_by inputs)) parts) [
        | inl now ↦ fresh b tx choices now
        | inr old ↦ let m = h.made_for b tx choices old in (m.0, made-later config G a site next kept same tx choices m.1)
      ]

  -- a centre that has this pending and this of its client after the result
  result-at : (inputs : List Input) (site : Site) (input : Input) (r : Result NodeStep StepFault) → At inputs site → step_on config.cluster site.centre site.node input ≡ r
      → (next : Site) → next.centre ≡ a → next.node ≡ after_step site.node r
      → AllByRecursion (IsOwedOnceDurable config G es a (made_by inputs ++ (r ∷ [])) next.node.facts) next.pending.envelopes
      → ((serial : ℕ) (tx : TxId) → begun_for next.clients serial ≡ Some tx → IsBegunOnceDurable config G es a (made_by inputs ++ (r ∷ [])) serial tx)
      → ((tx : TxId) (one : Begun) → known_of next.clients tx ≡ Some one → IsBegunOnceDurable config G es a (made_by inputs ++ (r ∷ [])) one.serial tx)
      → ((tx : TxId) (one : Begun) (commits : Bool) → known_of next.clients tx ≡ Some one → one.ended ≡ Some commits → HasHeard next.node.facts tx commits)
      → IsNode config.cluster a next.node.facts next.node.volatile → Kept site next → New next r
      → At (inputs ++ input ∷ []) next
  result-at inputs site input r h e next centre is mail begun noted ends formed kept fresh =
      let made : List (Result NodeStep StepFault) = made_by inputs ++ (r ∷ []) in
      let same : made ≡ run_of_inputs config.cluster a node (inputs ++ input ∷ []) = sym (run-one inputs site input r h e) in
      record {
        centre_is = centre;
        node_is = is ∙ node-one inputs site input r h e;
        node_formed = formed;
        mail = subst (λ (xs : List (Result NodeStep StepFault)). AllByRecursion (IsOwedOnceDurable config G es a xs next.node.facts) next.pending.envelopes) same mail;
        begun = λ serial tx f. subst (λ (xs : List (Result NodeStep StepFault)). IsBegunOnceDurable config G es a xs serial tx) same (begun serial tx f);
        made_for = λ b tx choices i. result-made inputs site input r h e next is kept fresh b tx choices (subst (λ (xs : List (Result NodeStep StepFault)). In (Entry.Begun b tx choices) (entries_made a xs)) (sym same) i);
        noted = λ tx one k. subst (λ (xs : List (Result NodeStep StepFault)). IsBegunOnceDurable config G es a xs one.serial tx) same (noted tx one k);
        ended = ends;
      }

  refused-at : (inputs : List Input) (site : Site) (input : Input) (fault : StepFault) → At inputs site → step_on config.cluster site.centre site.node input ≡ Err fault → At (inputs ++ input ∷ []) site
  refused-at inputs site input fault h e =
      result-at inputs site input (Err fault) h e site h.centre_is refl
      (all-like (IsOwedOnceDurable config G es a (made_by inputs) site.node.facts) (IsOwedOnceDurable config G es a (made_by inputs ++ (Err fault ∷ [])) site.node.facts) site.pending.envelopes
      (λ m o. owed-more config G es a (made_by inputs) (Err fault ∷ []) site.node.facts site.node.facts (grows-same site.node.facts) m o) h.mail)
      (λ serial tx f. begun-more config G es a (made_by inputs) (Err fault ∷ []) serial tx (h.begun serial tx f))
      (λ tx one k. begun-more config G es a (made_by inputs) (Err fault ∷ []) one.serial tx (h.noted tx one k)) h.ended h.node_formed (λ serial tx f. f) (λ b tx choices i. absurd i)

  queued-at : (inputs : List Input) (site : Site) (input : Input) (step : NodeStep) (clients : Clients) (envelopes : List Envelope) → IsWellFormedInput input → At inputs site → step_on config.cluster site.centre site.node input ≡ Ok step
      → AllByRecursion (IsOwedOnceDurable config G es a (made_by inputs ++ (Ok step ∷ [])) (with_new site.node.facts step.fact)) envelopes
      → ((serial : ℕ) (tx : TxId) → begun_for clients serial ≡ Some tx → IsBegunOnceDurable config G es a (made_by inputs ++ (Ok step ∷ [])) serial tx)
      → ((tx : TxId) (one : Begun) → known_of clients tx ≡ Some one → IsBegunOnceDurable config G es a (made_by inputs ++ (Ok step ∷ [])) one.serial tx)
      → ((tx : TxId) (one : Begun) (commits : Bool) → known_of clients tx ≡ Some one → one.ended ≡ Some commits → HasHeard (with_new site.node.facts step.fact) tx commits)
      → ((serial : ℕ) (tx : TxId) → begun_for site.clients serial ≡ Some tx → begun_for clients serial ≡ Some tx)
      → New (queued (record site { node = after_step site.node (Ok step); clients = clients }) (listed step.fact) envelopes (listed (heard_by step.fact))) (Ok step)
      → At (inputs ++ input ∷ []) (queued (record site { node = after_step site.node (Ok step); clients = clients }) (listed step.fact) envelopes (listed (heard_by step.fact)))
  queued-at inputs site input step clients envelopes w h e mail begun noted ends kept fresh =
      let next : Site = queued (record site { node = after_step site.node (Ok step); clients = clients }) (listed step.fact) envelopes (listed (heard_by step.fact)) in
      result-at inputs site input (Ok step) h e next h.centre_is refl
      (all-both (IsOwedOnceDurable config G es a (made_by inputs ++ (Ok step ∷ [])) (with_new site.node.facts step.fact)) site.pending.envelopes envelopes
      (all-like (IsOwedOnceDurable config G es a (made_by inputs) site.node.facts) (IsOwedOnceDurable config G es a (made_by inputs ++ (Ok step ∷ [])) (with_new site.node.facts step.fact)) site.pending.envelopes
      (λ m o. owed-more config G es a (made_by inputs) (Ok step ∷ []) site.node.facts (with_new site.node.facts step.fact) (grows-new site.node.facts step.fact (step-keeps config.cluster a site.node input step (made-at inputs site input (Ok step) h e))) m o) h.mail) mail)
      begun noted ends (laws.stays config.cluster a site.node.facts site.node.volatile input step h.node_formed w (made-at inputs site input (Ok step) h e)) kept fresh

  -- an answer with no step
  answer-at : (inputs : List Input) (site : Site) (serial : ℕ) (answer : ClientAnswer) → At inputs site → IsTrueOnceDurable config G es a (made_by inputs) site.node.facts serial answer → IsWellFormedMessage (Message.ClientAnswer serial answer) → At inputs (answer_queued site serial answer).site
  answer-at inputs site serial answer h soon formed = record {
    centre_is = h.centre_is;
    node_is = h.node_is;
    node_formed = h.node_formed;
    mail = all-both (IsOwedOnceDurable config G es a (made_by inputs) site.node.facts) site.pending.envelopes (answer_to site.centre serial answer ∷ []) h.mail
        (inr (record { serial = serial; answer = answer; is = ap (λ (z : ℕ). answer_to z serial answer) h.centre_is; soon = soon; formed = formed }), tt);
    begun = h.begun;
    made_for = λ b tx choices i. let m = h.made_for b tx choices i in (m.0, made-later config G a site (answer_queued site serial answer).site (λ s t f. f) refl tx choices m.1);
    noted = h.noted;
    ended = h.ended;
  }

  -- ---- messages and ticks

  ends-owed : (inputs : List Input) (site : Site) (made : List (Result NodeStep StepFault)) (facts : List Fact) (heard : Option (TxId × Bool)) → site.centre ≡ a
      → ((tx : TxId) (commits : Bool) → heard ≡ Some (tx, commits) → HasHeard facts tx commits) → ((tx : TxId) (one : Begun) → known_of site.clients tx ≡ Some one → IsBegunOnceDurable config G es a made one.serial tx)
      → AllByRecursion (IsOwedOnceDurable config G es a made facts) (listed (ends_told site heard))
  ends-owed inputs site made facts None centre h noted = tt
  ends-owed inputs site made facts (Some (tx, commits)) centre h noted = by-known (known_of site.clients tx) refl
    where
      by-known : (o : Option Begun) → known_of site.clients tx ≡ o → AllByRecursion (IsOwedOnceDurable config G es a made facts) (listed (end_told site.centre tx commits o))
      by-known None k = tt
      by-known (Some one) k =
          (inr (record { serial = one.serial; answer = ClientAnswer.Heard tx commits; is = ap (λ (z : ℕ). answer_to z one.serial (ClientAnswer.Heard tx commits)) centre; soon = (h tx commits refl, noted tx one k); formed = ((noted tx one k).asked.request.formed.serial_fits, (noted tx one k).formed) }), tt)

  end-noted : (clients : Clients) (made : List (Result NodeStep StepFault)) (heard : Option (TxId × Bool)) → ((tx : TxId) (one : Begun) → known_of clients tx ≡ Some one → IsBegunOnceDurable config G es a made one.serial tx)
      → (tx : TxId) (one : Begun) → known_of (with_end clients heard) tx ≡ Some one → IsBegunOnceDurable config G es a made one.serial tx
  end-noted clients made None old t one k = old t one k
  end-noted clients made (Some (tx, c)) old t one k = by-known (known_of clients tx) refl k
    where
      by-known : (o : Option Begun) → known_of clients tx ≡ o → known_of (with_end_by clients tx c o) t ≡ Some one → IsBegunOnceDurable config G es a made one.serial t
      by-known None e g = old t one g
      by-known (Some b) e g =
          elim (found-insert tx_eq tx-true clients.known tx (record { serial = b.serial; ended = Some c }) t one g) [
            | inl here ↦ subst (λ (z : TxId). IsBegunOnceDurable config G es a made one.serial z) (sym here.0)
                (subst (λ (z : Begun). IsBegunOnceDurable config G es a made z.serial tx) (sym here.1) (old tx b e))
            | inr there ↦ old t one there
          ]

  end-ended : (clients : Clients) (facts : List Fact) (heard : Option (TxId × Bool)) → ((tx : TxId) (commits : Bool) → heard ≡ Some (tx, commits) → HasHeard facts tx commits)
      → ((tx : TxId) (one : Begun) (commits : Bool) → known_of clients tx ≡ Some one → one.ended ≡ Some commits → HasHeard facts tx commits)
      → (tx : TxId) (one : Begun) (commits : Bool) → known_of (with_end clients heard) tx ≡ Some one → one.ended ≡ Some commits → HasHeard facts tx commits
  end-ended clients facts None new old t one commits k e = old t one commits k e
  end-ended clients facts (Some (tx, c)) new old t one commits k e = by-known (known_of clients tx) k
    where
      by-known : (o : Option Begun) → known_of (with_end_by clients tx c o) t ≡ Some one → HasHeard facts t commits
      by-known None g = old t one commits g e
      by-known (Some b) g =
          elim (found-insert tx_eq tx-true clients.known tx (record { serial = b.serial; ended = Some c }) t one g) [
            | inl here ↦
                let s : Some c ≡ Some commits = sym (ap (λ (z : Begun). z.ended) here.1) ∙ e in
                let same : c ≡ commits = cc in
                subst (λ (z : TxId). HasHeard facts z commits) (sym here.0) (subst (λ (z : Bool). HasHeard facts tx z) same (new tx c refl))
            | inr there ↦ old t one commits there e
          ]

  input-at-by : (inputs : List Input) (site : Site) (input : Input) (r : Result NodeStep StepFault) → IsWellFormedInput input → is_begin_input input ≡ false → At inputs site → step_on config.cluster site.centre site.node input ≡ r → At (inputs ++ input ∷ []) (input_made site r).site
  input-at-by inputs site input (Err fault) w plain h e = refused-at inputs site input fault h e
  input-at-by inputs site input (Ok step) w plain h e =
      let heard : Option (TxId × Bool) = heard_by step.fact in
      let facts : List Fact = with_new site.node.facts step.fact in
      let grows = grows-new site.node.facts step.fact (step-keeps config.cluster a site.node input step (made-at inputs site input (Ok step) h e)) in
      let new : (tx : TxId) (commits : Bool) → heard ≡ Some (tx, commits) → HasHeard facts tx commits = λ tx commits f. heard-new step.fact site.node.facts tx commits f in
      let noted : (tx : TxId) (one : Begun) → known_of site.clients tx ≡ Some one → IsBegunOnceDurable config G es a (made_by inputs ++ (Ok step ∷ [])) one.serial tx =
      λ tx one k. begun-more config G es a (made_by inputs) (Ok step ∷ []) one.serial tx (h.noted tx one k) in
      queued-at inputs site input step (with_end site.clients heard) (listed (ends_told site heard) ++ step.sends) w h e
      (all-both (IsOwedOnceDurable config G es a (made_by inputs ++ (Ok step ∷ [])) facts) (listed (ends_told site heard)) step.sends
      (ends-owed inputs site (made_by inputs ++ (Ok step ∷ [])) facts heard h.centre_is new noted) (sends-owed config G es a (made_by inputs) step facts))
      (λ serial tx f. begun-more config G es a (made_by inputs) (Ok step ∷ []) serial tx (h.begun serial tx (sym (end-begun site.clients heard serial) ∙ f)))
      (end-noted site.clients (made_by inputs ++ (Ok step ∷ [])) heard noted)
      (end-ended site.clients facts heard new (λ tx one commits k f. grows.heard tx commits (h.ended tx one commits k f))) (λ serial tx f. end-begun site.clients heard serial ∙ f)
      (λ b tx choices i. absurd (valued-none a step.entries b tx choices
      (others config.cluster a site.node.facts site.node.volatile input step h.node_formed.cluster_itself.quorums w plain (made-at inputs site input (Ok step) h e)) (by-fact a step step.fact b tx choices i)))

  -- ---- reads and begins

  read-at : (inputs : List Input) (site : Site) (serial : ℕ) (key : Key) → CameAsked G a (Message.ClientRead serial key) → At inputs site → At (inputs ++ Input.Read key ∷ []) (read_taken config site serial key).site
  read-at inputs site serial key request h =
      let step : NodeStep = record { entries = []; fact = None; sends = []; answer = Some (Answer.Read (Visible.read site.node.facts key)); after = site.node.volatile } in
      let shown = laws.answers config.cluster a site.node.facts site.node.volatile (Input.Read key) step (Answer.Read (Visible.read site.node.facts key)) h.node_formed request.formed.1 refl refl in
      queued-at inputs site (Input.Read key) step site.clients (answer_to site.centre serial (ClientAnswer.Read key (Visible.read site.node.facts key).token (Visible.read site.node.facts key).item (Visible.read site.node.facts key).due) ∷ []) request.formed.1 h refl (
        inr (record {
          serial = serial;
          answer = ClientAnswer.Read key (Visible.read site.node.facts key).token (Visible.read site.node.facts key).item (Visible.read site.node.facts key).due;
          is = ap (λ (z : ℕ). answer_to z serial (ClientAnswer.Read key (Visible.read site.node.facts key).token (Visible.read site.node.facts key).item (Visible.read site.node.facts key).due)) h.centre_is;
          soon = (record { old = site.node.facts; tail = IsTail-same site.node.facts; shown = refl; life = refl }, request);
          formed = (request.formed.0, record { key_itself = request.formed.1; token_itself = shown.0; item_itself = shown.1 });
        }),
        tt,
      )
      (λ s tx f. begun-more config G es a (made_by inputs) (Ok step ∷ []) s tx (h.begun s tx f))
      (λ t one k. begun-more config G es a (made_by inputs) (Ok step ∷ []) one.serial t (h.noted t one k)) h.ended (λ s tx f. f) (λ b tx choices i. absurd i)

  begun-at : (inputs : List Input) (site : Site) (serial : ℕ) (parts : List Part) (r : Result (TxId × Managing) BeginFault) → WasAskedUnder config G a serial parts → AreWellFormedParts parts → begun_for site.clients serial ≡ None
      → ((tx : TxId) (after : Managing) → r ≡ Ok (tx, after) → (tx.centre ≡ site.centre) × (tx.epoch ≡ epoch_of site.node.facts)) → At inputs site
      → step_on config.cluster site.centre site.node (Input.Begin parts) ≡ Ok (begin_step_by (here config.cluster site.centre site.node.facts) site.node.volatile parts r)
      → At (inputs ++ Input.Begin parts ∷ []) (begin_made site serial (Ok (begin_step_by (here config.cluster site.centre site.node.facts) site.node.volatile parts r))).site
  begun-at inputs site serial parts (Err fault) asked w free names h e =
      let step : NodeStep = begin_step_by (here config.cluster site.centre site.node.facts) site.node.volatile parts (Err fault) in
      let answer : ClientAnswer = ClientAnswer.Refused (Manager.key_refused site.node.facts parts) fault in
      let told = laws.answers config.cluster a site.node.facts site.node.volatile (Input.Begin parts) step (Answer.Refused (Manager.key_refused site.node.facts parts) fault) h.node_formed w (made-at inputs site (Input.Begin parts) (Ok step) h e) refl in
      queued-at inputs site (Input.Begin parts) step site.clients (answer_to site.centre serial answer ∷ []) w h e
      (inr (record { serial = serial; answer = answer; is = ap (λ (z : ℕ). answer_to z serial answer) h.centre_is; soon = record { parts = parts; asked = asked }; formed = (asked.request.formed.serial_fits, told) }), tt)
      (λ s tx f. begun-more config G es a (made_by inputs) (Ok step ∷ []) s tx (h.begun s tx f))
      (λ t one k. begun-more config G es a (made_by inputs) (Ok step ∷ []) one.serial t (h.noted t one k)) h.ended (λ s tx f. f) (λ b tx choices i. absurd i)
  begun-at inputs site serial parts (Ok (tx, manager)) asked w free names h e =
      let step : NodeStep = begin_step_by (here config.cluster site.centre site.node.facts) site.node.volatile parts (Ok (tx, manager)) in
      let made : List (Result NodeStep StepFault) = made_by inputs ++ (Ok step ∷ []) in
      let named = laws.answers config.cluster a site.node.facts site.node.volatile (Input.Begin parts) step (Answer.Begun tx) h.node_formed w (made-at inputs site (Input.Begin parts) (Ok step) h e) refl in
      let soon : IsBegunOnceDurable config G es a made serial tx = record {
        parts = parts;
        asked = asked;
        formed = named;
        begun = inr (subst (λ (xs : List Entry). In (Entry.Begun a tx (choices_of tx parts)) xs) (sym (entries-more a (made_by inputs) (Ok step ∷ [])))
            (In-before (Entry.Begun a tx (choices_of tx parts)) (entries_made a (Ok step ∷ [])) (entries_made a (made_by inputs)) (inl (ap (λ (z : ℕ). Entry.Begun z tx (choices_of tx parts)) (sym h.centre_is)))));
      } in
      queued-at inputs site (Input.Begin parts) step (with_begun site.clients serial tx) (step.sends ++ (answer_to site.centre serial (ClientAnswer.Begun tx) ∷ [])) w h e
      (all-both (IsOwedOnceDurable config G es a made site.node.facts) step.sends (answer_to site.centre serial (ClientAnswer.Begun tx) ∷ []) (sends-owed config G es a (made_by inputs) step site.node.facts)
      (inr (record { serial = serial; answer = ClientAnswer.Begun tx; is = ap (λ (z : ℕ). answer_to z serial (ClientAnswer.Begun tx)) h.centre_is; soon = soon; formed = (asked.request.formed.serial_fits, named) }), tt))
      (λ s t f.
      elim (found-insert nat_eq (λ x y g. eqb-true x y g) site.clients.begun serial tx s t f) [
        | inl new ↦ subst (λ (n : ℕ). IsBegunOnceDurable config G es a made n t) (sym new.0) (subst (IsBegunOnceDurable config G es a made serial) (sym new.1) soon)
        | inr old ↦ begun-more config G es a (made_by inputs) (Ok step ∷ []) s t (h.begun s t old)
      ])
      (λ t one k.
      elim (found-insert tx_eq tx-true site.clients.known tx (record { serial = serial; ended = None }) t one k) [
        | inl new ↦ subst (λ (z : TxId). IsBegunOnceDurable config G es a made one.serial z) (sym new.0) (subst (λ (z : Begun). IsBegunOnceDurable config G es a made z.serial tx) (sym new.1) soon)
        | inr old ↦ begun-more config G es a (made_by inputs) (Ok step ∷ []) one.serial t (h.noted t one old)
      ])
      (λ t one commits k f.
      elim (found-insert tx_eq tx-true site.clients.known tx (record { serial = serial; ended = None }) t one k) [
        | inl new ↦ let bad : None ≡ Some commits = sym (ap (λ (z : Begun). z.ended) new.1) ∙ f in absurd (cc)
        | inr old ↦ h.ended t one commits old f
      ])
      (inserted-keeps site.clients serial tx free)
      (λ b t choices i. begun-new b t choices i)
    where
      next : Site
      next = (begin_made site serial (Ok (begin_step_by (here config.cluster site.centre site.node.facts) site.node.volatile parts (Ok (tx, manager))))).site

      is-new : IsMadeFor config G a next tx (choices_of tx parts)
      is-new = record {
        serial = serial;
        parts = parts;
        asked = asked;
        are = refl;
        found = inserted-own site.clients.begun serial tx;
        centre = (names tx manager refl).0 ∙ h.centre_is;
        epoch = (names tx manager refl).1;
      }

      begun-new : (b : ℕ) (t : TxId) (choices : List Choice) → In (Entry.Begun b t choices) (Entry.Begun site.centre tx (choices_of tx parts) ∷ []) → (b ≡ a) × IsMadeFor config G a next t choices
      begun-new b t choices i = elim i [
        | inl e ↦
            let place : b ≡ site.centre = cc in
            let name : t ≡ tx = cc in
            let same : choices ≡ choices_of tx parts = cc in
            (place ∙ h.centre_is, subst (λ (z : TxId). IsMadeFor config G a next z choices) (sym name) (subst (IsMadeFor config G a next tx) (sym same) is-new))
        | inr r ↦ absurd r
      ]

-- ---- turns

each-left : {X : Type 0} (P : X → Type 0) (xs ys : List X) → Each P (xs ++ ys) → Each P xs
each-left P [] ys h = tt
each-left P (x ∷ xs) ys h = (h.0, each-left P xs ys h.1)

each-right : {X : Type 0} (P : X → Type 0) (xs ys : List X) → Each P (xs ++ ys) → Each P ys
each-right P [] ys h = h
each-right P (x ∷ xs) ys h = each-right P xs ys h.1

module _ (laws : StepLaws) (others : OthersBeginNothing) (config : Config) (G : ℕ → List ℕ → Type 0) (es : List Entry) (a : ℕ) (node : NodeState) where
  abbrev On : List Input → Site → Type 0
  On inputs site = AnswersAt config G es a node inputs site

  nothing : (inputs : List Input) (site : Site) → On inputs site → On (inputs ++ []) site
  nothing inputs site h = subst (λ (xs : List Input). On xs site) (sym (append-nil inputs)) h

  input-at : (inputs : List Input) (site : Site) (input : Input) → IsWellFormedInput input → is_begin_input input ≡ false → On inputs site → On (inputs ++ input ∷ []) (input_taken config site input).site
  input-at inputs site input w plain h = input-at-by laws others config G es a node inputs site input (step_on config.cluster site.centre site.node input) w plain h refl

  own-message-at : (inputs : List Input) (site : Site) (x : Envelope) → Each IsWellFormedInput (own_message_input x) → On inputs site → On (inputs ++ own_message_input x) (own_message config site x).site
  own-message-at inputs site x w h = by-kind (is_not_taken x.message) w
    where
      by-kind : (b : Bool) → Each IsWellFormedInput (cond b [] (Input.Message x ∷ [])) → On (inputs ++ cond b [] (Input.Message x ∷ [])) (cond b (dropped site) (input_taken config site (Input.Message x))).site
      by-kind true k = nothing inputs site h
      by-kind false k = input-at inputs site (Input.Message x) k.0 refl h

  own-arrived-at : (inputs : List Input) (site : Site) (arrival : Arrival) → Each IsWellFormedInput (own_input arrival) → On inputs site → On (inputs ++ own_input arrival) (own_arrived config site arrival).site
  own-arrived-at inputs site Arrival.Piece w h = nothing inputs site h
  own-arrived-at inputs site Arrival.Refused w h = nothing inputs site h
  own-arrived-at inputs site (Arrival.Whole x) w h = own-message-at inputs site x w h

  own-table : (inputs : List Input) (site : Site) (table : List Joining.JoinEntry) → On inputs site → On inputs (record site { own = table })
  own-table inputs site table h = record {
    centre_is = h.centre_is;
    node_is = h.node_is;
    node_formed = h.node_formed;
    mail = h.mail;
    begun = h.begun;
    made_for = λ b tx choices i. let m = h.made_for b tx choices i in (m.0, made-later config G a site (record site { own = table }) (λ s t f. f) refl tx choices m.1);
    noted = h.noted;
    ended = h.ended;
  }

  asked-table : (inputs : List Input) (site : Site) (table : List Joining.JoinEntry) → On inputs site → On inputs (record site { asked = table })
  asked-table inputs site table h = record {
    centre_is = h.centre_is;
    node_is = h.node_is;
    node_formed = h.node_formed;
    mail = h.mail;
    begun = h.begun;
    made_for = λ b tx choices i. let m = h.made_for b tx choices i in (m.0, made-later config G a site (record site { asked = table }) (λ s t f. f) refl tx choices m.1);
    noted = h.noted;
    ended = h.ended;
  }

  own-at : (inputs : List Input) (site : Site) (gave : Option (List ℕ)) → Each IsWellFormedInput (own_inputs site gave) → On inputs site → On (inputs ++ own_inputs site gave) (own_received config site gave).site
  own-at inputs site None w h = nothing inputs site h
  own-at inputs site (Some bytes) w h =
      own-arrived-at inputs (record site { own = (join bytes site.own).entries }) (arrival_of (join bytes site.own).answer) w
      (own-table inputs site (join bytes site.own).entries h)

  draft-at : (inputs : List Input) (site : Site) (serial : ℕ) (parts : List Part) → CameAsked G a (Message.ClientBegin serial parts) → (made : Result (List Part) DraftFault) → transaction_of config.cluster.schema parts ≡ made
      → Each IsWellFormedInput (begin_input None made) → begun_for site.clients serial ≡ None → On inputs site → On (inputs ++ begin_input None made) (draft_taken config site serial made).site
  draft-at inputs site serial parts request (Err fault) is w free h =
      nothing inputs (answer_queued site serial (ClientAnswer.Draft fault)).site
      (answer-at laws others config G es a node inputs site serial (ClientAnswer.Draft fault) h (record { asked = parts; request = request; makes = is }) (request.formed.serial_fits, tt))
  draft-at inputs site serial parts request (Ok made) is w free h =
      begun-at laws others config G es a node inputs site serial made (Manager.begin site.centre (epoch_of site.node.facts) site.node.facts site.node.volatile.manager made)
      (record { asked = parts; makes = is; request = request }) w.0 free
      (λ tx after e. begin-names site.centre (epoch_of site.node.facts) site.node.facts site.node.volatile.manager made tx after e) h refl

  known-soon : (inputs : List Input) (site : Site) (serial : ℕ) (tx : TxId) → On inputs site → begun_for site.clients serial ≡ Some tx → (o : Option Begun) → known_of site.clients tx ≡ o
      → IsTrueOnceDurable config G es a (run_of_inputs config.cluster a node inputs) site.node.facts serial (known_told tx (end_of_begun o))
  known-soon inputs site serial tx h is None k = h.begun serial tx is
  known-soon inputs site serial tx h is (Some one) k = by-end one.ended refl
    where
      by-end : (e : Option Bool) → one.ended ≡ e → IsTrueOnceDurable config G es a (run_of_inputs config.cluster a node inputs) site.node.facts serial (known_told tx e)
      by-end None f = h.begun serial tx is
      by-end (Some commits) f = (h.ended tx one commits k f, h.begun serial tx is)

  known-formed : (serial : ℕ) (tx : TxId) → serial < 2 ^ 32 → IsWellFormedTx tx → (e : Option Bool) → IsWellFormedMessage (Message.ClientAnswer serial (known_told tx e))
  known-formed serial tx s w None = (s, w)
  known-formed serial tx s w (Some commits) = (s, w)

  begin-by-at : (inputs : List Input) (site : Site) (serial : ℕ) (parts : List Part) → CameAsked G a (Message.ClientBegin serial parts) → (known : Option TxId) → begun_for site.clients serial ≡ known → Each IsWellFormedInput (begin_input known (transaction_of config.cluster.schema parts)) → On inputs site
      → On (inputs ++ begin_input known (transaction_of config.cluster.schema parts)) (begin_taken_by config site serial parts known).site
  begin-by-at inputs site serial parts request (Some tx) is w h =
      let answer : ClientAnswer = known_told tx (end_of_begun (known_of site.clients tx)) in
      nothing inputs (answer_queued site serial answer).site
      (answer-at laws others config G es a node inputs site serial answer h (known-soon inputs site serial tx h is (known_of site.clients tx) refl)
      (known-formed serial tx (h.begun serial tx is).asked.request.formed.serial_fits (h.begun serial tx is).formed (end_of_begun (known_of site.clients tx))))
  begin-by-at inputs site serial parts request None is w h = draft-at inputs site serial parts request (transaction_of config.cluster.schema parts) refl w is h

  asked-message-at : (inputs : List Input) (site : Site) (message : Message) → CameAsked G a message → Each IsWellFormedInput (asked_message_input config site message) → On inputs site → On (inputs ++ asked_message_input config site message) (asked_message config site message).site
  asked-message-at inputs site (Message.ClientRead serial key) request w h = read-at laws others config G es a node inputs site serial key request h
  asked-message-at inputs site (Message.ClientBegin serial parts) request w h = begin-by-at inputs site serial parts request (begun_for site.clients serial) refl w h
  asked-message-at inputs site (Message.ClientAnswer serial answer) request w h = nothing inputs site h
  asked-message-at inputs site (Message.Propose choice) request w h = nothing inputs site h
  asked-message-at inputs site (Message.Lead choice) request w h = nothing inputs site h
  asked-message-at inputs site (Message.Voted key version ballot tx mark) request w h = nothing inputs site h
  asked-message-at inputs site (Message.Outcome tx outcome) request w h = nothing inputs site h
  asked-message-at inputs site (Message.Prepare key version through ballot) request w h = nothing inputs site h
  asked-message-at inputs site (Message.Promise key version through ballot reported votes) request w h = nothing inputs site h
  asked-message-at inputs site (Message.Accept key version ballot options) request w h = nothing inputs site h
  asked-message-at inputs site (Message.SyncGive key version item adds) request w h = nothing inputs site h
  asked-message-at inputs site (Message.Refused key version ballot promised) request w h = nothing inputs site h
  asked-message-at inputs site (Message.Escalate key version tx cause) request w h = nothing inputs site h
  asked-message-at inputs site (Message.Ask tx key version) request w h = nothing inputs site h
  asked-message-at inputs site (Message.SyncAsk key) request w h = nothing inputs site h
  asked-message-at inputs site (Message.Mark origin era upto) request w h = nothing inputs site h
  asked-message-at inputs site (Message.Finished end_of_begun) request w h = nothing inputs site h

  asked-arrived-at : (inputs : List Input) (site : Site) (arrival : Arrival) → ((x : Envelope) → arrival ≡ Arrival.Whole x → CameAsked G a x.message) → Each IsWellFormedInput (asked_input config site arrival) → On inputs site → On (inputs ++ asked_input config site arrival) (asked_arrived config site arrival).site
  asked-arrived-at inputs site Arrival.Piece whole w h = nothing inputs site h
  asked-arrived-at inputs site Arrival.Refused whole w h = nothing inputs site h
  asked-arrived-at inputs site (Arrival.Whole x) whole w h = asked-message-at inputs site x.message (whole x refl) w h

  asked-at : (inputs : List Input) (site : Site) (gave : Option (List ℕ)) → ((bytes : List ℕ) → gave ≡ Some bytes → (x : Envelope) → arrival_of (join bytes site.asked).answer ≡ Arrival.Whole x → CameAsked G a x.message) → Each IsWellFormedInput (asked_inputs config site gave) → On inputs site → On (inputs ++ asked_inputs config site gave) (asked_received config site gave).site
  asked-at inputs site None come w h = nothing inputs site h
  asked-at inputs site (Some bytes) come w h =
      asked-arrived-at inputs (record site { asked = (join bytes site.asked).entries }) (arrival_of (join bytes site.asked).answer) (come bytes refl) w
      (asked-table inputs site (join bytes site.asked).entries h)

  tick-at : (inputs : List Input) (site : Site) (given : Given) → On inputs site → On (inputs ++ tick_input given) (ticked config given site).site
  tick-at inputs site given h = by-silence (is_silent given)
    where
      by-silence : (b : Bool) → On (inputs ++ cond b (Input.Tick ∷ []) []) (cond b (input_taken config site Input.Tick) (idle_site site)).site
      by-silence true = input-at inputs site Input.Tick tt refl h
      by-silence false = nothing inputs site h

  pub turn-answers : (inputs : List Input) (site : Site) (given : Given) → RequestsCome config G a site given → Each IsWellFormedInput (turn_inputs config site given) → On inputs site → On (inputs ++ turn_inputs config site given) (turn_inputs_taken config site given).site
  turn-answers inputs site given come w h =
      let own : List Input = own_inputs site given.own in
      let next : Site = (own_received config site given.own).site in
      let asked : List Input = asked_inputs config next given.asked in
      let tick : List Input = tick_input given in
      let both = each-left IsWellFormedInput (own ++ asked) tick w in
      let first = own-at inputs site given.own (each-left IsWellFormedInput own asked both) h in
      let second = asked-at (inputs ++ own) next given.asked come (each-right IsWellFormedInput own asked both) first in
      let third = tick-at ((inputs ++ own) ++ asked) (asked_received config next given.asked).site given second in
      subst (λ (xs : List Input). On xs (turn_inputs_taken config site given).site)
      (ap (λ (xs : List Input). xs ++ tick) (append_assoc inputs own asked) ∙ append_assoc inputs (own ++ asked) tick) third
