-- That a transaction was asked for: its client's request came in pieces at the endpoint of the centre that began it.
use Rattle.std.specs.List.{AllByRecursion}
use Rattle.std.specs.Prelude.{List, Ok, Some, ℕ, ◌+◌, ◌≡◌}
use Rattle.mdcc_def_ledger.specs.Ledger.{Entry}
use Rattle.mdcc_base.specs.declared.identifiers.TxId.{TxId}
use Rattle.mdcc_config.specs.declared.config.Config.{Config}
use Rattle.mdcc_def_messages.specs.Spelling.{message_bytes}
use Rattle.mdcc_def_messages.specs.WellFormed.{IsWellFormedMessage}
use Rattle.mdcc_def_messages.specs.declared.messages.Envelope.{Envelope}
use Rattle.mdcc_def_messages.specs.declared.messages.Message.{Message}
use Rattle.mdcc_option.specs.Transaction.{choices_of, transaction_of}
use Rattle.mdcc_option.specs.declared.choices.Choice.{Choice}
use Rattle.mdcc_option.specs.declared.items.Part.{Part}
use Rattle.mdcc_theorem_server_runs.specs.Brought.{CameInPieces}
use Rattle.mdcc_def_server_runs.specs.Acts.{Act}
use Rattle.mdcc_theorem_trace_states.specs.Words.{In}

-- a receive at the client's endpoint of the centre gave these bytes
abbrev pub WasReceived : List (ℕ × Act) → ℕ → List ℕ → Type 0
WasReceived done a bytes = In (a, Act.Receive (a + 16) (Some bytes)) done

-- a well-formed message came in pieces that were received there
pub record CameAsked (was_received : ℕ → List ℕ → Type 0) (a : ℕ) (message : Message) : Type 0 where
  pub datagrams : List (List ℕ)
  pub received : AllByRecursion (was_received a) datagrams
  pub envelope : Envelope
  pub is : envelope.message ≡ message
  pub formed : IsWellFormedMessage message
  pub came : CameInPieces datagrams (message_bytes envelope)

-- so did a request under this serial whose parts make these
pub record WasAskedUnder (config : Config) (was_received : ℕ → List ℕ → Type 0) (a serial : ℕ) (parts : List Part) : Type 0 where
  pub asked : List Part
  pub makes : transaction_of config.cluster.schema asked ≡ Ok parts
  pub request : CameAsked was_received a (Message.ClientBegin serial asked)

-- ---- what is begun

-- the transaction is named with a serial under which such parts were asked for, and the choices are theirs
pub record IsAskedFor (config : Config) (was_received : ℕ → List ℕ → Type 0) (named : List (TxId × ℕ)) (a : ℕ) (tx : TxId) (choices : List Choice) : Type 0 where
  pub serial : ℕ
  pub name : In (tx, serial) named
  pub parts : List Part
  pub asked : WasAskedUnder config was_received a serial parts
  pub are : choices ≡ choices_of tx parts

-- no two transactions of one life of a centre are named with one serial
abbrev pub IsOnce : List (TxId × ℕ) → Type 0
IsOnce named = (tx other : TxId) (serial : ℕ) → In (tx, serial) named → In (other, serial) named → tx.centre ≡ other.centre → tx.epoch ≡ other.epoch → tx ≡ other

-- Each transaction that the ledger has as begun was asked for by a client of its centre, in datagrams that the centre received; and in one life of
-- the centre there is one transaction for one serial.
pub record AreAskedFor (config : Config) (done : List (ℕ × Act)) (ledger : List Entry) : Type 0 where
  pub named : List (TxId × ℕ)
  pub each : (a : ℕ) (tx : TxId) (choices : List Choice) → In (Entry.Begun a tx choices) ledger → IsAskedFor config (WasReceived done) named a tx choices
  pub once : IsOnce named
