-- Which messages are written, and by which of the functions.
use Rattle.std.specs.Prelude.{ℕ, Bool, true, false, nat_lt, ◌||◌, ◌==◌, if◌then◌else◌, Result, Ok, Err}
use Rattle.std.specs.Int.{is_in_range}
use Rattle.mdcc_def_messages.specs.declared.messages.Envelope.{Envelope}
use Rattle.mdcc_def_messages.specs.Lengths.{message_length}
use Rattle.mdcc_wire.specs.declared.encoding.EncodeFault.{EncodeFault}
use Rattle.mdcc_wire.specs.declared.encoding.EncodeFault.TheVariants.{TooLong, Memory}

-- above 2 MiB
abbrev pub is_too_long : Envelope → Bool
is_too_long envelope = nat_lt 2097152 (message_length envelope)

-- what is answered where there is memory
abbrev pub encoded : Envelope → Result (Unit {0}) EncodeFault
encoded envelope = if is_too_long envelope then Err TooLong else Ok tt

abbrev pub is_no_memory : EncodeFault → Bool
is_no_memory TooLong = false
is_no_memory Memory = true

-- ---- kinds

-- about a ballot of a leader, with versions or another ballot
abbrev pub is_of_ballot : ℕ → Bool
is_of_ballot kind = kind == 5 || kind == 8

-- about a ballot of a leader, with a structure
abbrev pub is_of_structure : ℕ → Bool
is_of_structure kind = kind == 6 || kind == 7

-- of what a centre holds, or between a node and its client
abbrev pub is_of_state : ℕ → Bool
is_of_state kind = is_in_range 11 15 kind

-- about what was heard of a centre's transactions
abbrev pub is_of_floor : ℕ → Bool
is_of_floor kind = kind == 16 || kind == 17

-- about one transaction
abbrev pub is_of_option : ℕ → Bool
is_of_option kind = is_in_range 1 4 kind || kind == 9 || kind == 10
