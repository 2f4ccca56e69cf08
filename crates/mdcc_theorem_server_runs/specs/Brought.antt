-- From which datagrams an input comes.
use Rattle.std.specs.List.{AllByRecursion}
use Rattle.std.specs.Prelude.{Contains, List, Ok, false, flat_map, ⊤, ℕ, ℤ, ◌++◌, ◌<◌, ◌^◌, ◌∷◌, ◌≡◌, ◌≤◌, length}
use Rattle.mdcc_base.specs.declared.key.Key.{Key}
use Rattle.mdcc_frag.specs.Datagrams.{count, message_limit, piece_of}
use Rattle.mdcc_frag.specs.Joining.{JoinEntry, join}
use Rattle.mdcc_frag.specs.Reading.{payload, piece_in}
use Rattle.mdcc_frag.specs.declared.datagrams.FragHead.{FragHead}
use Rattle.mdcc_frag.specs.declared.joined.Joined.TheVariants.{Whole}
use Rattle.mdcc_theorem_datagrams.specs.Laws.{table_after}
use Rattle.mdcc_def_messages.specs.Lengths.{message_length}
use Rattle.mdcc_def_messages.specs.Spelling.{message_bytes}
use Rattle.mdcc_def_messages.specs.WellFormed.{IsWellFormedEnvelope}
use Rattle.mdcc_def_messages.specs.declared.messages.Envelope.{Envelope}
use Rattle.mdcc_def_messages.specs.declared.messages.Message.{Message}
use Rattle.mdcc_option.specs.Transaction.{transaction_of}
use Rattle.mdcc_option.specs.declared.items.Part.{Part}
use Rattle.mdcc_def_rules.specs.declared.node.Input.{Input}
use Rattle.mdcc_def_server_runs.specs.Arrivals.{is_not_taken}
use Rattle.mdcc_def_server_runs.specs.Runs.{listed}
use Rattle.mdcc_def_server_runs.specs.Turns.{Given}
use Rattle.mdcc_theorem_encoding.specs.Laws.{AreBytes}

-- ---- bytes

-- the messages of which some pieces came have bytes
abbrev pub HoldsBytes : List JoinEntry → Type 0
HoldsBytes table = (entry : JoinEntry) → Contains table entry → AreBytes (entry.1).bytes

-- ---- datagrams

-- those that came at its own endpoint in these turns, and those at its client's
abbrev pub own_datagrams : List Given → List (List ℕ)
own_datagrams given = flat_map (λ turn. listed turn.own) given

abbrev pub asked_datagrams : List Given → List (List ℕ)
asked_datagrams given = flat_map (λ turn. listed turn.asked) given

-- One of these datagrams makes these bytes whole, by the pieces before it.
pub record IsJoined (table : List JoinEntry) (datagrams : List (List ℕ)) (bytes : List ℕ) : Type 0 where
  pub before : List (List ℕ)
  pub last : List ℕ
  pub after : List (List ℕ)
  pub are : datagrams ≡ before ++ last ∷ after
  pub whole : (join last (table_after before table)).answer ≡ Whole bytes

-- The piece of this index of these bytes, under this head, is that of one of these datagrams.
pub record HasPiece (datagrams : List (List ℕ)) (head : FragHead) (bytes : List ℕ) (index : ℕ) : Type 0 where
  pub before : List (List ℕ)
  pub datagram : List ℕ
  pub after : List (List ℕ)
  pub are : datagrams ≡ before ++ datagram ∷ after
  pub read : piece_in datagram ≡ Ok (record { head = head; total = length bytes; index = index })
  pub has : payload datagram ≡ piece_of index bytes

-- These bytes came piece by piece, all pieces under one head.
pub record CameInPieces (datagrams : List (List ℕ)) (bytes : List ℕ) : Type 0 where
  pub head : FragHead
  pub pieces : (index : ℕ) → index < count (length bytes) → HasPiece datagrams head bytes index

-- a well-formed message, no longer than one may be, that they spell
pub record IsMessageIn (table : List JoinEntry) (datagrams : List (List ℕ)) (envelope : Envelope) : Type 0 where
  pub well_formed : IsWellFormedEnvelope envelope
  pub short : message_length envelope ≤ message_limit
  pub joined : IsJoined table datagrams (message_bytes envelope)

-- ---- inputs

-- a message that is an input came in datagrams, and does not go between a node and its client
abbrev pub BringsMessage : List JoinEntry → List (List ℕ) → Input → Type 0
BringsMessage table datagrams (Input.Message envelope) = IsMessageIn table datagrams envelope × (is_not_taken envelope.message ≡ false)
BringsMessage table datagrams Input.Tick = ⊤
BringsMessage table datagrams Input.Sweep = ⊤
BringsMessage table datagrams (Input.Read key) = ⊤
BringsMessage table datagrams (Input.Begin parts) = ⊤

-- the request for a read
pub record AsksRead (table : List JoinEntry) (datagrams : List (List ℕ)) (key : Key) : Type 0 where
  pub envelope : Envelope
  pub serial : ℕ
  pub is : envelope.message ≡ Message.ClientRead serial key
  pub came : IsMessageIn table datagrams envelope

-- the request for a begin, whose parts make the transaction
pub record AsksBegin (schema : List (ℤ × ℤ)) (table : List JoinEntry) (datagrams : List (List ℕ)) (parts : List Part) : Type 0 where
  pub envelope : Envelope
  pub serial : ℕ
  pub asked : List Part
  pub is : envelope.message ≡ Message.ClientBegin serial asked
  pub makes : transaction_of schema asked ≡ Ok parts
  pub came : IsMessageIn table datagrams envelope

-- a read or a begin that is an input was asked for in datagrams
abbrev pub BringsRequest : List (ℤ × ℤ) → List JoinEntry → List (List ℕ) → Input → Type 0
BringsRequest schema table datagrams (Input.Message envelope) = ⊤
BringsRequest schema table datagrams Input.Tick = ⊤
BringsRequest schema table datagrams Input.Sweep = ⊤
BringsRequest schema table datagrams (Input.Read key) = AsksRead table datagrams key
BringsRequest schema table datagrams (Input.Begin parts) = AsksBegin schema table datagrams parts
