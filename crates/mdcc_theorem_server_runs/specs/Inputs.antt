-- The inputs of a centre's node: what its receives gave, turn by turn.
use Rattle.std.specs.Prelude.{Err, List, None, Ok, Option, Result, Some, [], if◌then◌else◌, ℕ, ◌++◌, ◌∷◌}
use Rattle.mdcc_base.specs.declared.identifiers.TxId.{TxId}
use Rattle.mdcc_config.specs.declared.config.Config.{Config}
use Rattle.mdcc_frag.specs.Joining.{join}
use Rattle.mdcc_def_messages.specs.declared.messages.Envelope.{Envelope}
use Rattle.mdcc_def_messages.specs.declared.messages.Message.{Message}
use Rattle.mdcc_option.specs.Transaction.{transaction_of}
use Rattle.mdcc_option.specs.declared.faults.DraftFault.{DraftFault}
use Rattle.mdcc_option.specs.declared.items.Part.{Part}
use Rattle.mdcc_def_rules.specs.declared.node.Input.{Input}
use Rattle.mdcc_def_server_runs.specs.Arrivals.{Arrival, arrival_of, is_not_taken}
use Rattle.mdcc_def_server_runs.specs.Clients.{begun_for}
use Rattle.mdcc_def_server_runs.specs.Sending.{persist_then_send}
use Rattle.mdcc_def_server_runs.specs.Sites.{Doing, Site, and_then, idle_site}
use Rattle.mdcc_def_server_runs.specs.Turns.{Given, is_silent, own_received, turn_of}

-- ---- at its own endpoint

-- what goes between a node and its client is no input there
abbrev pub own_message_input : Envelope → List Input
own_message_input envelope = if is_not_taken envelope.message then [] else (Input.Message envelope ∷ [])

abbrev pub own_input : Arrival → List Input
own_input Arrival.Piece = []
own_input Arrival.Refused = []
own_input (Arrival.Whole envelope) = own_message_input envelope

abbrev pub own_inputs : Site → Option (List ℕ) → List Input
own_inputs site None = []
own_inputs site (Some bytes) = own_input (arrival_of (join bytes site.own).answer)

-- ---- at its client's

-- parts that make a transaction, under a serial for which none was begun
abbrev pub begin_input : Option TxId → Result (List Part) DraftFault → List Input
begin_input (Some tx) made = []
begin_input None (Err fault) = []
begin_input None (Ok parts) = Input.Begin parts ∷ []

abbrev pub asked_message_input : Config → Site → Message → List Input
asked_message_input config site (Message.ClientRead serial key) = Input.Read key ∷ []
asked_message_input config site (Message.ClientBegin serial parts) =
    begin_input (begun_for site.clients serial) (transaction_of config.cluster.schema parts)
asked_message_input config site _ = []

abbrev pub asked_input : Config → Site → Arrival → List Input
asked_input config site Arrival.Piece = []
asked_input config site Arrival.Refused = []
asked_input config site (Arrival.Whole envelope) = asked_message_input config site envelope.message

abbrev pub asked_inputs : Config → Site → Option (List ℕ) → List Input
asked_inputs config site None = []
asked_inputs config site (Some bytes) = asked_input config site (arrival_of (join bytes site.asked).answer)

-- ---- turns

-- time passes where neither gave anything
abbrev pub tick_input : Given → List Input
tick_input given = if is_silent given then (Input.Tick ∷ []) else []

abbrev pub turn_inputs : Config → Site → Given → List Input
turn_inputs config site given =
    (own_inputs site given.own ++ asked_inputs config (own_received config site given.own).site given.asked) ++ tick_input given

-- one turn after the other
abbrev pub turns_alone : Config → Site → List Given → Doing
turns_alone config site [] = idle_site site
turns_alone config site (given ∷ more) = and_then (turn_of config site given) (λ next. turns_alone config next more)

-- and after the last one what is pending goes out
abbrev pub turns : Config → Site → List Given → Doing
turns config site given = and_then (turns_alone config site given) (persist_then_send config)

abbrev pub inputs_in : Config → Site → List Given → List Input
inputs_in config site [] = []
inputs_in config site (given ∷ more) = turn_inputs config site given ++ inputs_in config (turn_of config site given).site more
