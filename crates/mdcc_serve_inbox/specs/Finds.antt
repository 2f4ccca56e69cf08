-- What a receive gave, and what it brought.
use Rattle.std.specs.Option.{option_map}
use Rattle.std.specs.Prelude.{Bool, Err, List, Ok, Option, Result, false, take, true, ⊤, ℕ, ◌≡◌, ◌≤◌, ◌⊎◌}
use Rattle.mdcc_base.specs.declared.faults.Memory.{Memory}
use Rattle.mdcc_frag.specs.Datagrams.{message_limit}
use Rattle.mdcc_frag.specs.Joining.{JoinEntry, JoinStep, is_taken}
use Rattle.mdcc_frag.specs.declared.joined.Joined.{Joined}
use Rattle.mdcc_serve_inbox.specs.declared.arrivals.Found.{Found}
use Rattle.mdcc_def_messages.specs.Lengths.{message_length}
use Rattle.mdcc_def_messages.specs.WellFormed.{IsWellFormedEnvelope}
use Rattle.mdcc_def_messages.specs.declared.messages.Envelope.{Envelope}
use Rattle.mdcc_def_messages.specs.declared.wire.WireFault.{WireFault}
use Rattle.mdcc_def_server_runs.specs.Arrivals.{Arrival}

-- the bytes that a receive gave, by how many they are and the buffer after it
abbrev pub bytes_given : Option ℕ → List ℕ → Option (List ℕ)
bytes_given count buffer = option_map (λ n. take n buffer) count

-- what is found, with the message that was read
abbrev pub arrival_of_found : Found → Envelope → Arrival
arrival_of_found Found.Piece envelope = Arrival.Piece
arrival_of_found Found.Refused envelope = Arrival.Refused
arrival_of_found Found.Message envelope = Arrival.Whole envelope

-- a message that is found is well-formed, and no longer than one may be
abbrev pub IsSoundFound : Found → Envelope → Type 0
IsSoundFound Found.Message envelope = IsWellFormedEnvelope envelope × (message_length envelope ≤ message_limit)
IsSoundFound found envelope = ⊤

-- what is found by a reading that ended so, unless there was no memory for it
abbrev pub found_by : Result (Unit {0}) WireFault → Result Found Memory
found_by (Ok done) = Ok Found.Message
found_by (Err WireFault.Memory) = Err (record {})
found_by (Err fault) = Ok Found.Refused

-- whether bytes came whole, which are then read
abbrev pub is_read_whole : Joined → Bool
is_read_whole (Joined.Whole bytes) = true
is_read_whole joined = false

-- Without memory either nothing has changed, where a piece was to be taken, or it was taken and made bytes whole, which could not be
-- read. A datagram that is dropped, or whose piece came before, needs none.
abbrev pub FindsNoMemory : JoinStep → List JoinEntry → List JoinEntry → Type 0
FindsNoMemory expected old new =
    ((new ≡ old) × (is_taken expected.answer ≡ true)) ⊎ ((new ≡ expected.entries) × (is_read_whole expected.answer ≡ true))
