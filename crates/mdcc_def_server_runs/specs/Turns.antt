-- One turn of a centre that is served.
use Rattle.std.specs.Prelude.{Bool, List, None, Option, Some, [], if◌then◌else◌, is_none, length, nat_le, nat_lt, not, ℕ, ◌&&◌, ◌+◌, ◌∷◌}
use Rattle.mdcc_base.specs.Counts.{sum_over}
use Rattle.mdcc_config.specs.declared.config.Config.{Config}
use Rattle.mdcc_frag.specs.Datagrams.{message_limit}
use Rattle.mdcc_frag.specs.Joining.{JoinStep, join}
use Rattle.mdcc_def_messages.specs.Lengths.{message_length}
use Rattle.mdcc_def_messages.specs.Spelling.{fact_bytes, message_bytes}
use Rattle.mdcc_def_messages.specs.declared.messages.Envelope.{Envelope}
use Rattle.mdcc_def_messages.specs.declared.messages.Message.{Message}
use Rattle.mdcc_def_rules.specs.declared.node.Input.{Input}
use Rattle.mdcc_def_server_runs.specs.Acts.{Act, steps_in}
use Rattle.mdcc_def_server_runs.specs.Arrivals.{Arrival, arrival_of, is_not_taken}
use Rattle.mdcc_def_server_runs.specs.Sending.{persist_then_send}
use Rattle.mdcc_def_server_runs.specs.Sites.{Doing, Pending, Site, after_acts, and_then, idle_site}
use Rattle.mdcc_def_server_runs.specs.Steps.{begin_taken, dropped, input_taken, read_taken}

-- What its two receives gave, at its own endpoint and at its client's, and whether the link was asked after them and said that a datagram
-- waits at one.
pub record Given : Type 0 where
  pub own : Option (List ℕ)
  pub asked : Option (List ℕ)
  pub waits : Bool

-- ---- at its own endpoint

abbrev pub own_message : Config → Site → Envelope → Doing
own_message config site envelope = if is_not_taken envelope.message then dropped site else input_taken config site (Input.Message envelope)

abbrev pub own_arrived : Config → Site → Arrival → Doing
own_arrived config site Arrival.Piece = idle_site site
own_arrived config site Arrival.Refused = dropped site
own_arrived config site (Arrival.Whole envelope) = own_message config site envelope

abbrev pub own_joined : Config → Site → JoinStep → Doing
own_joined config site joined = own_arrived config (record site { own = joined.entries }) (arrival_of joined.answer)

abbrev pub own_taken : Config → Site → Option (List ℕ) → Doing
own_taken config site None = idle_site site
own_taken config site (Some bytes) = own_joined config site (join bytes site.own)

abbrev pub own_received : Config → Site → Option (List ℕ) → Doing
own_received config site gave = after_acts (Act.Receive site.centre gave ∷ []) (own_taken config site gave)

-- ---- at its client's

-- whatever endpoints the message names
abbrev pub asked_message : Config → Site → Message → Doing
asked_message config site (Message.ClientRead serial key) = read_taken config site serial key
asked_message config site (Message.ClientBegin serial parts) = begin_taken config site serial parts
asked_message config site _ = dropped site

abbrev pub asked_arrived : Config → Site → Arrival → Doing
asked_arrived config site Arrival.Piece = idle_site site
asked_arrived config site Arrival.Refused = dropped site
asked_arrived config site (Arrival.Whole envelope) = asked_message config site envelope.message

abbrev pub asked_joined : Config → Site → JoinStep → Doing
asked_joined config site joined = asked_arrived config (record site { asked = joined.entries }) (arrival_of joined.answer)

abbrev pub asked_taken : Config → Site → Option (List ℕ) → Doing
asked_taken config site None = idle_site site
asked_taken config site (Some bytes) = asked_joined config site (join bytes site.asked)

abbrev pub asked_received : Config → Site → Option (List ℕ) → Doing
asked_received config site gave = after_acts (Act.Receive (site.centre + 16) gave ∷ []) (asked_taken config site gave)

-- ---- both, and a tick where neither gave anything

abbrev pub is_silent : Given → Bool
is_silent given = is_none given.own && is_none given.asked

abbrev pub ticked : Config → Given → Site → Doing
ticked config given site = if is_silent given then input_taken config site Input.Tick else idle_site site

-- What came at its own endpoint is taken before it receives at its client's.
abbrev pub turn_inputs_taken : Config → Site → Given → Doing
turn_inputs_taken config site given =
    and_then (and_then (own_received config site given.own) (λ next. asked_received config next given.asked)) (ticked config given)

-- ---- what goes out

-- how many bytes of a message wait to be sent: none of one that is too long
abbrev pub waiting_size : Envelope → ℕ
waiting_size envelope = if nat_lt message_limit (message_length envelope) then 0 else length (message_bytes envelope)

-- how many bytes the pending facts have in the log, without their frames, and the messages where they are sent
abbrev pub pending_size : Pending → ℕ
pending_size pending = sum_over (λ fact. length (fact_bytes fact)) pending.facts + sum_over waiting_size pending.envelopes

-- once so many bytes of facts and messages are pending they go out at the end of the turn, whatever waits
abbrev pub pending_limit : ℕ
pending_limit = 262144

abbrev pub is_full : Pending → Bool
is_full pending = nat_le pending_limit (pending_size pending)

-- Something that came made a step.
abbrev pub made_step : Given → List Act → Bool
made_step given acts = not (is_silent given) && nat_le 1 (steps_in acts)

-- Nothing goes out where more waits, so that many facts become durable together, but for where nothing that came made a step, or much is
-- pending.
abbrev pub is_held : Given → Doing → Bool
is_held given inputs = given.waits && made_step given inputs.acts && not (is_full inputs.site.pending)

abbrev pub released : Config → Bool → Site → Doing
released config held site = if held then idle_site site else persist_then_send config site

-- One turn: what its receives gave, or a tick, and what goes out after it.
abbrev pub turn_of : Config → Site → Given → Doing
turn_of config site given = let inputs = turn_inputs_taken config site given in and_then inputs (released config (is_held given inputs))
