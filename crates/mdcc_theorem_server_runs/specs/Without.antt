-- Turns without the datagrams that are dropped.
use Rattle.std.specs.Prelude.{Bool, Err, List, None, Ok, Option, Result, Some, [], false, if◌then◌else◌, is_none, not, true, ℕ, ◌&&◌, ◌∷◌, ◌≡◌}
use Rattle.mdcc_config.specs.declared.config.Config.{Config}
use Rattle.mdcc_frag.specs.Joining.{JoinEntry, entry_of, join}
use Rattle.mdcc_frag.specs.Reading.{piece_in}
use Rattle.mdcc_frag.specs.declared.joined.Joined.{Joined}
use Rattle.mdcc_frag.specs.declared.joined.Joined.TheVariants as joined
use Rattle.mdcc_frag.specs.declared.reading.DropCause.{DropCause}
use Rattle.mdcc_frag.specs.declared.reading.Piece.{Piece}
use Rattle.mdcc_def_messages.specs.Reading.{view_of}
use Rattle.mdcc_def_messages.specs.declared.messages.Message.{Message}
use Rattle.mdcc_theorem_server_runs.specs.Inputs.{inputs_in, turns}
use Rattle.mdcc_theorem_server_runs.specs.Told.{sends_in, server_lines_in}
use Rattle.mdcc_def_server_runs.specs.Acts.{facts_appended, steps_in}
use Rattle.mdcc_def_server_runs.specs.Arrivals.{Arrival, is_not_taken, message_in}
use Rattle.mdcc_def_server_runs.specs.Sites.{Doing, Site}
use Rattle.mdcc_def_server_runs.specs.Turns.{Given, is_silent, turn_of}

-- ---- what is dropped

-- at the endpoint of a centre: bytes that are no message, or one that goes between a node and its client
abbrev pub is_unfit : Arrival → Bool
is_unfit Arrival.Piece = false
is_unfit Arrival.Refused = true
is_unfit (Arrival.Whole envelope) = is_not_taken envelope.message

-- a client asks it of its centre
abbrev pub is_request : Message → Bool
is_request (Message.ClientRead serial key) = true
is_request (Message.ClientBegin serial parts) = true
is_request _ = false

-- at the endpoint of its client: bytes that are no message, or one that is no request
abbrev pub is_unasked : Arrival → Bool
is_unasked Arrival.Piece = false
is_unasked Arrival.Refused = true
is_unasked (Arrival.Whole envelope) = not (is_request envelope.message)

-- a piece of a message of which none is in the table
abbrev pub is_new_message : List JoinEntry → Result Piece DropCause → Bool
is_new_message table (Ok piece) = is_none (entry_of piece table)
is_new_message table (Err cause) = false

-- ---- what is left

-- Nothing came, where a piece is dropped, or where a datagram alone makes bytes whole of which all is dropped.
abbrev pub datagram_kept_by : (Arrival → Bool) → Bool → Joined → List ℕ → Option (List ℕ)
datagram_kept_by is_no new (joined.Whole whole) bytes = if new && is_no (message_in (view_of whole)) then None else Some bytes
datagram_kept_by is_no new joined.Kept bytes = Some bytes
datagram_kept_by is_no new joined.Repeated bytes = Some bytes
datagram_kept_by is_no new (joined.Dropped cause) bytes = None

abbrev pub datagram_kept : (Arrival → Bool) → List JoinEntry → Option (List ℕ) → Option (List ℕ)
datagram_kept is_no table None = None
datagram_kept is_no table (Some bytes) = datagram_kept_by is_no (is_new_message table (piece_in bytes)) (join bytes table).answer bytes

abbrev pub given_kept : Site → Given → Given
given_kept site given = record { own = datagram_kept is_unfit site.own given.own; asked = datagram_kept is_unasked site.asked given.asked; waits = given.waits }

-- a turn in which all that came is dropped is none
abbrev pub turn_kept : Given → Given → List Given → List Given
turn_kept given left more = if is_silent left && not (is_silent given) then more else (left ∷ more)

abbrev pub without_dropped : Config → Site → List Given → List Given
without_dropped config site [] = []
without_dropped config site (given ∷ more) =
    turn_kept given (given_kept site given) (without_dropped config (turn_of config site given).site more)

-- ---- what is the same

-- What is seen of both is the same: the facts that are appended to each log, the datagrams and the messages that cannot be sent, the lines,
-- and how many steps there were; and the centre afterwards is the same.
pub record AreSeenAlike (one other : Doing) : Type 0 where
  pub facts : (centre : ℕ) → facts_appended centre one.acts ≡ facts_appended centre other.acts
  pub sends : sends_in one.acts ≡ sends_in other.acts
  pub lines : server_lines_in one.acts ≡ server_lines_in other.acts
  pub steps : steps_in one.acts ≡ steps_in other.acts
  pub site : one.site ≡ other.site

-- The inputs are the same, and so is what is seen of the turns.
pub record AreAsGood (config : Config) (site : Site) (given left : List Given) : Type 0 where
  pub inputs : inputs_in config site left ≡ inputs_in config site given
  pub seen : AreSeenAlike (turns config site left) (turns config site given)

-- what the receives of a turn gave, whatever the link said of datagrams that wait
abbrev pub received_in : Given → Option (List ℕ) × Option (List ℕ)
received_in given = (given.own, given.asked)
