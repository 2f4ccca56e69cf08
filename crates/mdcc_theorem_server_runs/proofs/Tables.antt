-- The messages of which some pieces came at the endpoints of a centre.
use Rattle.std.proofs.Common.{◌≡◌, ℕ, Bool, true, false, cond, List, Option, Some, None, Result, Ok, Err, refl, ◌∙◌, ap}
use Rattle.mdcc_base.specs.declared.identifiers.TxId.{TxId}
use Rattle.mdcc_base.specs.declared.key.Key.{Key}
use Rattle.mdcc_config.specs.declared.config.Config.{Config}
use Rattle.mdcc_frag.specs.Joining.{JoinEntry, join}
use Rattle.mdcc_theorem_datagrams.specs.Laws.{table_after}
use Rattle.mdcc_def_messages.specs.declared.messages.Envelope.{Envelope}
use Rattle.mdcc_def_messages.specs.declared.messages.Message.{Message}
use Rattle.mdcc_option.specs.Transaction.{transaction_of}
use Rattle.mdcc_option.specs.declared.faults.DraftFault.{DraftFault}
use Rattle.mdcc_option.specs.declared.items.Part.{Part}
use Rattle.mdcc_def_rules.specs.Steps.{NodeStep}
use Rattle.mdcc_def_rules.specs.declared.node.Answer.{Answer}
use Rattle.mdcc_def_rules.specs.declared.node.Input.{Input}
use Rattle.mdcc_def_rules.specs.declared.node.StepFault.{StepFault}
use Rattle.mdcc_theorem_server_runs.proofs.Outgoing.{out_site}
use Rattle.mdcc_def_server_runs.specs.Arrivals.{Arrival, arrival_of, is_not_taken}
use Rattle.mdcc_def_server_runs.specs.Clients.{begun_for}
use Rattle.mdcc_def_server_runs.specs.Runs.{listed, step_on}
use Rattle.mdcc_def_server_runs.specs.Sites.{Site, idle_site}
use Rattle.mdcc_def_server_runs.specs.Steps.{begin_made, begin_noted, begin_taken_by, draft_taken, dropped, input_made, input_taken, read_made}
use Rattle.mdcc_def_server_runs.specs.Turns.{Given, asked_arrived, asked_message, asked_received, is_held, is_silent, own_arrived, own_message, own_received, released, ticked, turn_inputs_taken, turn_of}

-- they are these
pub record Holds (own asked : List JoinEntry) (site : Site) : Type 0 where
  pub own_is : site.own ≡ own
  pub asked_is : site.asked ≡ asked

-- ---- steps

same_tables : (site : Site) → Holds site.own site.asked site
same_tables site = record { own_is = refl; asked_is = refl }

made_holds : (site : Site) (made : Result NodeStep StepFault) → Holds site.own site.asked (input_made site made).site
made_holds site (Err fault) = same_tables site
made_holds site (Ok step) = record { own_is = refl; asked_is = refl }

input_holds : (config : Config) (site : Site) (input : Input) → Holds site.own site.asked (input_taken config site input).site
input_holds config site input = made_holds site (step_on config.cluster site.centre site.node input)

read_made_holds : (site : Site) (serial : ℕ) (key : Key) (made : Result NodeStep StepFault) → Holds site.own site.asked (read_made site serial key made).site
read_made_holds site serial key (Err fault) = same_tables site
read_made_holds site serial key (Ok step) = record { own_is = refl; asked_is = refl }

noted_holds : (site : Site) (serial : ℕ) (answer : Option Answer) → Holds site.own site.asked (begin_noted site serial answer)
noted_holds site serial None = same_tables site
noted_holds site serial (Some (Answer.Begun tx)) = record { own_is = refl; asked_is = refl }
noted_holds site serial (Some (Answer.Refused key fault)) = same_tables site
noted_holds site serial (Some (Answer.Read reading)) = same_tables site

begin_made_holds : (site : Site) (serial : ℕ) (made : Result NodeStep StepFault) → Holds site.own site.asked (begin_made site serial made).site
begin_made_holds site serial (Err fault) = same_tables site
begin_made_holds site serial (Ok step) =
    let noted = noted_holds site serial step.answer in record { own_is = noted.own_is; asked_is = noted.asked_is }

draft_holds : (config : Config) (site : Site) (serial : ℕ) (draft : Result (List Part) DraftFault) → Holds site.own site.asked (draft_taken config site serial draft).site
draft_holds config site serial (Err fault) = record { own_is = refl; asked_is = refl }
draft_holds config site serial (Ok parts) = begin_made_holds site serial (step_on config.cluster site.centre site.node (Input.Begin parts))

begin_by_holds : (config : Config) (site : Site) (serial : ℕ) (parts : List Part) (known : Option TxId) → Holds site.own site.asked (begin_taken_by config site serial parts known).site
begin_by_holds config site serial parts (Some tx) = record { own_is = refl; asked_is = refl }
begin_by_holds config site serial parts None = draft_holds config site serial (transaction_of config.cluster.schema parts)

-- ---- receives

own_message_holds : (config : Config) (site : Site) (x : Envelope) → Holds site.own site.asked (own_message config site x).site
own_message_holds config site x = by_kind (is_not_taken x.message)
  where
    by_kind : (b : Bool) → Holds site.own site.asked (cond b (dropped site) (input_taken config site (Input.Message x))).site
    by_kind true = same_tables site
    by_kind false = input_holds config site (Input.Message x)

own_arrived_holds : (config : Config) (site : Site) (arrival : Arrival) → Holds site.own site.asked (own_arrived config site arrival).site
own_arrived_holds config site Arrival.Piece = same_tables site
own_arrived_holds config site Arrival.Refused = same_tables site
own_arrived_holds config site (Arrival.Whole x) = own_message_holds config site x

pub own_holds : (config : Config) (site : Site) (gave : Option (List ℕ)) → Holds (table_after (listed gave) site.own) site.asked (own_received config site gave).site
own_holds config site None = same_tables site
own_holds config site (Some bytes) =
    own_arrived_holds config (record site { own = (join bytes site.own).entries }) (arrival_of (join bytes site.own).answer)

asked_message_holds : (config : Config) (site : Site) (message : Message) → Holds site.own site.asked (asked_message config site message).site
asked_message_holds config site (Message.ClientRead serial key) = read_made_holds site serial key (step_on config.cluster site.centre site.node (Input.Read key))
asked_message_holds config site (Message.ClientBegin serial parts) = begin_by_holds config site serial parts (begun_for site.clients serial)
asked_message_holds config site message = same_tables site

asked_arrived_holds : (config : Config) (site : Site) (arrival : Arrival) → Holds site.own site.asked (asked_arrived config site arrival).site
asked_arrived_holds config site Arrival.Piece = same_tables site
asked_arrived_holds config site Arrival.Refused = same_tables site
asked_arrived_holds config site (Arrival.Whole x) = asked_message_holds config site x.message

pub asked_holds : (config : Config) (site : Site) (gave : Option (List ℕ)) → Holds site.own (table_after (listed gave) site.asked) (asked_received config site gave).site
asked_holds config site None = same_tables site
asked_holds config site (Some bytes) =
    asked_arrived_holds config (record site { asked = (join bytes site.asked).entries }) (arrival_of (join bytes site.asked).answer)

-- ---- turns

ticked_holds : (config : Config) (given : Given) (site : Site) → Holds site.own site.asked (ticked config given site).site
ticked_holds config given site = by_silence (is_silent given)
  where
    by_silence : (b : Bool) → Holds site.own site.asked (cond b (input_taken config site Input.Tick) (idle_site site)).site
    by_silence true = input_holds config site Input.Tick
    by_silence false = same_tables site

-- what goes out leaves them
released_holds : (config : Config) (held : Bool) (site : Site) → Holds site.own site.asked (released config held site).site
released_holds config true site = same_tables site
released_holds config false site = record { own_is = ap (λ (s : Site). s.own) (out_site config site); asked_is = ap (λ (s : Site). s.asked) (out_site config site) }

pub turn_holds : (config : Config) (site : Site) (given : Given)
    → Holds (table_after (listed given.own) site.own) (table_after (listed given.asked) site.asked) (turn_of config site given).site
turn_holds config site given =
    let first = own_received config site given.own in
    let second = asked_received config first.site given.asked in
    let own = own_holds config site given.own in
    let asked = asked_holds config first.site given.asked in
    let tick = ticked_holds config given second.site in
    let inputs = turn_inputs_taken config site given in
    let out = released_holds config (is_held given inputs) inputs.site in
    record {
      own_is = out.own_is ∙ (tick.own_is ∙ (asked.own_is ∙ own.own_is));
      asked_is = out.asked_is ∙ (tick.asked_is ∙ (asked.asked_is ∙ ap (table_after (listed given.asked)) own.asked_is));
    }
