-- What a datagram brings to an endpoint.
use Rattle.std.specs.Prelude.{Bool, Err, Ok, Result, false, true}
use Rattle.mdcc_frag.specs.declared.joined.Joined.{Joined}
use Rattle.mdcc_frag.specs.declared.joined.Joined.TheVariants as joined
use Rattle.mdcc_def_messages.specs.Reading.{view_of}
use Rattle.mdcc_def_messages.specs.declared.messages.Envelope.{Envelope}
use Rattle.mdcc_def_messages.specs.declared.messages.Message.{Message}
use Rattle.mdcc_def_messages.specs.declared.wire.WireFault.{WireFault}

pub data Arrival : Type 0 where
  -- a piece of a message of which others are missing, or one that came before
  Piece : Arrival
  -- what is no piece of a message, or makes bytes whole that are no message
  Refused : Arrival
  Whole : (envelope : Envelope) → Arrival

abbrev pub message_in : Result Envelope WireFault → Arrival
message_in (Ok envelope) = Arrival.Whole envelope
message_in (Err fault) = Arrival.Refused

-- by what joins it to the other pieces
abbrev pub arrival_of : Joined → Arrival
arrival_of (joined.Whole bytes) = message_in (view_of bytes)
arrival_of joined.Kept = Arrival.Piece
arrival_of joined.Repeated = Arrival.Piece
arrival_of (joined.Dropped cause) = Arrival.Refused

-- whether a message goes between a node and its client
abbrev pub is_for_client : Message → Bool
is_for_client (Message.ClientRead serial key) = true
is_for_client (Message.ClientBegin serial parts) = true
is_for_client (Message.ClientAnswer serial answer) = true
is_for_client _ = false

-- whether a centre takes no such message: it goes between a node and its client, or its rule is not built
abbrev pub is_not_taken : Message → Bool
is_not_taken (Message.ClientRead serial key) = true
is_not_taken (Message.ClientBegin serial parts) = true
is_not_taken (Message.ClientAnswer serial answer) = true
is_not_taken (Message.Mark centre epoch seq) = true
is_not_taken (Message.Finished tx) = true
is_not_taken _ = false
