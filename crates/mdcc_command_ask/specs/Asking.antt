-- What a client does from its start to its last turn.
use Rattle.std.specs.Prelude.{Bool, List, None, Option, Some, [], false, if◌then◌else◌, length, true, ℕ, ◌+◌, ◌++◌, ◌==◌, ◌∷◌}
use Rattle.mdcc_command_ask.specs.Acts.{ClientAct, at_link}
use Rattle.mdcc_command_ask.specs.Answers.{goes_on, message_taken}
use Rattle.mdcc_command_ask.specs.Requests.{Reaction, idle, sends_again, sends_if}
use Rattle.mdcc_command_ask.specs.Texts.{unanswered_line}
use Rattle.mdcc_command_ask.specs.declared.client.Client.{Client}
use Rattle.mdcc_command_ask.specs.declared.client.Phase.{Phase}
use Rattle.mdcc_command_ask.specs.declared.order.Order.{Order}
use Rattle.mdcc_base.specs.declared.outside.Address.{Address}
use Rattle.mdcc_config.specs.IsConfig.{address_above}
use Rattle.mdcc_config.specs.declared.config.Config.{Config}
use Rattle.mdcc_frag.specs.Joining.{JoinEntry, JoinStep, join}
use Rattle.mdcc_option.specs.declared.schema.Schema.{Schema}
use Rattle.mdcc_def_server_runs.specs.Acts.{Act}
use Rattle.mdcc_def_server_runs.specs.Arrivals.{Arrival, arrival_of}
use Rattle.mdcc_def_server_runs.specs.Servers.{bound_at}

-- what it does at the link and what it prints, in order, and what it is then
pub record ClientDoing : Type 0 where
  pub acts : List ClientAct
  pub client : Client

-- these acts alone
abbrev pub acts_only : List ClientAct → Client → ClientDoing
acts_only acts client = record { acts = acts; client = client }

-- one after the other
abbrev pub joined_to : ClientDoing → ClientDoing → ClientDoing
joined_to first second = record { acts = first.acts ++ second.acts; client = second.client }

abbrev pub client_and_then : ClientDoing → (Client → ClientDoing) → ClientDoing
client_and_then first next = joined_to first (next first.client)

-- it prints its text, and then sends its request where that is new
abbrev pub reaction_made : Config → Order → Reaction → ClientDoing
reaction_made config order reaction =
    acts_only (ClientAct.Print reaction.text ∷ at_link (sends_if config order reaction.sends reaction.client)) reaction.client

-- ---- a turn

abbrev pub is_answered : Phase → Bool
is_answered Phase.Answered = true
is_answered phase = false

abbrev pub arrival_taken : Schema → Order → Client → Arrival → Reaction
arrival_taken schema order client (Arrival.Whole envelope) = message_taken schema order client envelope
arrival_taken schema order client arrival = idle client

abbrev pub with_joiner : Client → List JoinEntry → Client
with_joiner client entries = record client { joiner = entries }

abbrev pub joined : Schema → Order → Client → JoinStep → Reaction
joined schema order client step = arrival_taken schema order (with_joiner client step.entries) (arrival_of step.answer)

abbrev pub bytes_taken : Schema → Order → Client → List ℕ → Reaction
bytes_taken schema order client bytes = joined schema order client (join bytes client.joiner)

-- where nothing came, the open request is sent again
abbrev pub came : Config → Order → Option (List ℕ) → Client → ClientDoing
came config order None client = acts_only (at_link (sends_again config order client)) client
came config order (Some bytes) client = reaction_made config order (bytes_taken config.cluster.schema order client bytes)

-- one receive at the endpoint of the centre's client
abbrev pub client_turn : Config → Order → Client → Option (List ℕ) → ClientDoing
client_turn config order client gave =
    client_and_then (acts_only (ClientAct.AtLink (Act.Receive (order.centre + 16) gave) ∷ []) client) (came config order gave)

-- ---- all of it

-- turns for what the receives gave, while an answer is missing
abbrev pub client_turns : Config → Order → List (Option (List ℕ)) → Client → ClientDoing
client_turns config order [] client = acts_only [] client
client_turns config order (gave ∷ more) client =
    if is_answered client.phase then acts_only [] client else client_and_then (client_turn config order client gave) (client_turns config order more)

abbrev pub new_client : Client
new_client = record { known = []; phase = Phase.Answered; request = []; joiner = [] }

-- the endpoint at which its answers come
abbrev pub bound_for : Config → Order → List Act
bound_for config order = bound_at (order.centre + 16) (address_above config 32 order.centre)

-- it makes its first request
abbrev pub begins_asking : Config → Order → Client → ClientDoing
begins_asking config order client = reaction_made config order (goes_on config.cluster.schema order client)

-- once its endpoint is bound
abbrev pub client_starts : Config → Order → ClientDoing
client_starts config order = client_and_then (acts_only (at_link (bound_for config order)) new_client) (begins_asking config order)

-- that the turns are over, where they are and an answer is missing
abbrev pub end_text : Bool → Phase → List ℕ
end_text is_over phase = if is_answered phase then [] else (if is_over then unanswered_line else [])

abbrev pub client_ended : Bool → Client → ClientDoing
client_ended is_over client = acts_only (ClientAct.Print (end_text is_over client.phase) ∷ []) client

-- turns, and their end
abbrev pub turns_to_end : Config → Order → ℕ → List (Option (List ℕ)) → Client → ClientDoing
turns_to_end config order turns given client = client_and_then (client_turns config order given client) (client_ended (length given == turns))

-- all that it does, where it has so many turns
abbrev pub whole_asking : Config → Order → ℕ → List (Option (List ℕ)) → ClientDoing
whole_asking config order turns given = client_and_then (client_starts config order) (turns_to_end config order turns given)
