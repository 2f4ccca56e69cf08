-- What a view of a message shows.
use Rattle.std.specs.Prelude.{ℕ, Bool, not, ◌&&◌, ◌||◌, ◌==◌, if◌then◌else◌, List, [], Option, Some, None, Result, Ok, Err}
use Rattle.mdcc_option.specs.declared.choices.Choice.{Choice}
use Rattle.mdcc_struct.specs.Options.{Marks}
use Rattle.mdcc_def_messages.specs.declared.messages.Message.{Message}
use Rattle.mdcc_def_messages.specs.declared.messages.Message.TheVariants as messages
use Rattle.mdcc_def_messages.specs.declared.wire.WireFault.{WireFault}
use Rattle.mdcc_def_messages.specs.ReadingSteps.{◌>>=◌, u8_at, checked}
use Rattle.mdcc_def_messages.specs.ReadingParts.{choice_at}
use Rattle.mdcc_def_messages.specs.Reading.{known, known_in, endpoint, whole, body_at, view_of}
use Rattle.mdcc_parts.specs.Reads.{end_of}

-- a kind whose messages take no memory: all but promises and accepts, which have structures, and what a centre gives
abbrev pub is_plain : ℕ → Bool
is_plain kind = not (kind == 6) && not (kind == 7) && not (kind == 12)

-- the bytes, where they spell a message, or the first place that is not of the grammar
abbrev pub viewed : List ℕ → Result (List ℕ) WireFault
viewed bytes = do
  envelope ← view_of bytes
  Ok bytes

-- the same without the message
abbrev pub passed : List ℕ → Result (Unit {0}) WireFault
passed bytes = do
  format ← checked (known 1 2) (u8_at bytes 0)
  kind ← checked (known_in format.0) (u8_at bytes format.1)
  from ← checked (endpoint kind.1) (u8_at bytes kind.1)
  to ← checked (endpoint from.1) (u8_at bytes from.1)
  end ← end_of (body_at kind.0 bytes to.1)
  whole bytes (tt, end)

-- ---- what is read into a place

-- what stands in the place, with the place behind it, where it was read
abbrev pub placed : {T : Type 0} → Result ℕ WireFault → T → Result (T × ℕ) WireFault
placed (Ok after) x = Ok (x, after)
placed (Err fault) x = Err fault

abbrev pub placed_whole : {T : Type 0} → Result (Unit {0}) WireFault → T → Result T WireFault
placed_whole (Ok done) x = Ok x
placed_whole (Err fault) x = Err fault

-- ---- what stands in a message

-- the choice that is proposed, or for which a leader is asked
abbrev pub message_choice : Message → Option Choice
message_choice (messages.Propose choice) = Some choice
message_choice (messages.Lead choice) = Some choice
message_choice _ = None

-- the marks of its structure
abbrev pub message_marks : Message → Marks
message_marks (messages.Promise key version through ballot reported votes) = votes
message_marks (messages.Accept key version ballot options) = options
message_marks _ = []

-- ---- where it is looked for

-- the byte that is the number of the kind
abbrev pub kind_or_none : Result (ℕ × ℕ) WireFault → ℕ
kind_or_none (Ok kind) = kind.0
kind_or_none (Err fault) = 0

abbrev pub choice_or_none : Result (Choice × ℕ) WireFault → Option Choice
choice_or_none (Ok choice) = Some choice.0
choice_or_none (Err fault) = None

-- the choice of a message of a kind, whose body is at a place
abbrev pub choice_by : ℕ → List ℕ → ℕ → Option Choice
choice_by kind bytes at = if kind == 1 || kind == 4 then choice_or_none (choice_at bytes at) else None
