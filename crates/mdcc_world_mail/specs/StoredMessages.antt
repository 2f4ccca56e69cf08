-- Messages as they are kept: their bytes, whether they were delivered, and the cursors of the centres.
use Rattle.std.specs.Prelude.{◌≡◌, ◌≤◌, Bool, Err, List, None, Ok, Option, Result, Some, [], false, get_or, length, map, true, ℕ, ◌-◌}
use Rattle.mdcc_world_mail.specs.Waiting.{before_first, waits_for}
use Rattle.mdcc_def_messages.specs.Lengths.{message_length, messages_length}
use Rattle.mdcc_def_messages.specs.Reading.{view_of}
use Rattle.mdcc_def_messages.specs.Mailbox.{Sent, unsent}
use Rattle.mdcc_def_messages.specs.declared.messages.Envelope.{Envelope}
use Rattle.mdcc_def_messages.specs.declared.messages.Message.{Message}
use Rattle.mdcc_def_messages.specs.declared.wire.WireFault.{WireFault}

-- ---- one message

abbrev pub envelope_or_empty : Result Envelope WireFault → Envelope
envelope_or_empty (Ok envelope) = envelope
envelope_or_empty (Err fault) = record { from = 0; to = 0; message = Message.SyncAsk [] }

-- the message that bytes spell; bytes that spell none stand for an empty one
unfoldable pub envelope_in : List ℕ → Envelope
envelope_in bytes = envelope_or_empty (view_of bytes)

abbrev pub sent_of : List ℕ → Bool → Sent
sent_of bytes is_delivered = record { envelope = envelope_in bytes; is_delivered = is_delivered }

-- the bytes spell a message to this addressee
pub record IsStoredMessage (bytes : List ℕ) (to : ℕ) : Type 0 where
  pub spells : view_of bytes ≡ Ok (envelope_in bytes)
  pub whole : length bytes ≡ message_length (envelope_in bytes)
  pub addressee : to ≡ (envelope_in bytes).to

abbrev pub marked_delivered : Sent → Sent
marked_delivered sent = record { envelope = sent.envelope; is_delivered = true }

-- what was read into a place, where there is such a message
abbrev pub envelope_if_read : Bool → Envelope → Option Envelope
envelope_if_read true envelope = Some envelope
envelope_if_read false envelope = None

-- ---- messages in order

abbrev pub envelopes_of : List Sent → List Envelope
envelopes_of messages = map (λ sent. sent.envelope) messages

-- none was delivered, and all have so many bytes
pub record IsMessageBatch (messages : List Sent) (bytes : ℕ) : Type 0 where
  pub not_delivered : messages ≡ map unsent (envelopes_of messages)
  pub whole : bytes ≡ messages_length (envelopes_of messages)

-- no message before the cursor of a centre waits for it
abbrev pub AreCursors : List ℕ → List Sent → Type 0
AreCursors cursors sent = (centre : ℕ) → 1 ≤ centre → get_or cursors (centre - 1) 0 ≤ before_first (waits_for centre) sent
