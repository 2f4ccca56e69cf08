-- What is pending at a centre, as the code holds it: each fact and message as its bytes.
use Rattle.std.specs.Prelude.{Bool, List, None, Option, Some, length, map, ℕ, ◌+◌}
use Rattle.mdcc_base.specs.Counts.{sum_over}
use Rattle.mdcc_base.specs.declared.identifiers.TxId.{TxId}
use Rattle.mdcc_def_messages.specs.Spelling.{fact_bytes}
use Rattle.mdcc_serve_outbox.specs.Outgoing.{outgoing}
use Rattle.mdcc_serve_outbox.specs.declared.outgoing.Outgoing.{Outgoing}
use Rattle.mdcc_def_server_runs.specs.Sites.{Pending}

-- the payloads of facts, messages, and outcomes, the oldest first
pub record PendingBytes : Type 0 where
  pub payloads : List (List ℕ)
  pub messages : List Outgoing
  pub heard : List (TxId × Bool)

abbrev pub pending_bytes : Pending → PendingBytes
pending_bytes pending = record { payloads = map fact_bytes pending.facts; messages = map outgoing pending.envelopes; heard = pending.heard }

-- ---- how many bytes they have

abbrev pub length_of : Option (List ℕ) → ℕ
length_of None = 0
length_of (Some bytes) = length bytes

abbrev pub size_of : List (List ℕ) → List Outgoing → ℕ
size_of payloads messages = sum_over (λ payload. length payload) payloads + sum_over (λ message. length_of message.bytes) messages
