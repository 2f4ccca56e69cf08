-- A message and its bytes.
use Rattle.std.proofs.Common.{◌≡◌, ℕ, ◌+◌, List, [], ◌∷◌, ◌++◌, Ok, length, map, sym, ap, ◌∙◌, arith}
use Rattle.std.proofs.lemmas.List.{map-append}
use Rattle.mdcc_base.specs.Counts.{sum_over}
use Rattle.mdcc_world_mail.specs.StoredMessages.{IsMessageBatch, IsStoredMessage, envelope_in, envelope_or_empty, envelopes_of}
use Rattle.mdcc_theorem_encoding.proofs.Lengths.{length-message}
use Rattle.mdcc_def_messages.specs.Lengths.{message_length, messages_length}
use Rattle.mdcc_def_messages.specs.Reading.{view_of}
use Rattle.mdcc_def_messages.specs.Spelling.{message_bytes}
use Rattle.mdcc_def_messages.specs.WellFormed.{IsWellFormedEnvelope}
use Rattle.mdcc_def_messages.specs.Mailbox.{Sent, unsent}
use Rattle.mdcc_def_messages.specs.declared.messages.Envelope.{Envelope}
use Rattle.mdcc_theorem_encoding.proofs.Whole.{message_again}

-- ---- one message

spelled : (envelope : Envelope) (bytes : List ℕ) → IsWellFormedEnvelope envelope → bytes ≡ message_bytes envelope → view_of bytes ≡ Ok envelope
spelled envelope bytes w is = ap view_of is ∙ message_again envelope w

pub read-in : (envelope : Envelope) (bytes : List ℕ) → view_of bytes ≡ Ok envelope → envelope_in bytes ≡ envelope
unfolding envelope_in
read-in envelope bytes is = ap envelope_or_empty is

pub written-in : (envelope : Envelope) (bytes : List ℕ) → IsWellFormedEnvelope envelope → bytes ≡ message_bytes envelope → envelope_in bytes ≡ envelope
written-in envelope bytes w is = read-in envelope bytes (spelled envelope bytes w is)

pub written-message : (envelope : Envelope) (bytes : List ℕ) → IsWellFormedEnvelope envelope → bytes ≡ message_bytes envelope → IsStoredMessage bytes envelope.to
written-message envelope bytes w is =
    let same = written-in envelope bytes w is in
    record {
      spells = spelled envelope bytes w is ∙ ap (λ (e : Envelope). Ok e) (sym same);
      whole = ap length is ∙ sym (length-message envelope) ∙ ap message_length (sym same);
      addressee = ap (λ (e : Envelope). e.to) (sym same);
    }

-- ---- messages in order

pub pushed-envelopes : (messages : List Sent) (envelope : Envelope) → envelopes_of (messages ++ unsent envelope ∷ []) ≡ envelopes_of messages ++ envelope ∷ []
pushed-envelopes messages envelope = map-append (λ (s : Sent). s.envelope) messages (unsent envelope ∷ [])

sum_over-push : {X : Type 0} (size : X → ℕ) (xs : List X) (x : X) → sum_over size (xs ++ x ∷ []) ≡ sum_over size xs + size x
sum_over-push size [] x = omega arith
sum_over-push size (y ∷ xs) x = omega (arith, sum_over-push size xs x)

pub pushed-batch : (messages : List Sent) (bytes : ℕ) (envelope : Envelope) → IsMessageBatch messages bytes
    → IsMessageBatch (messages ++ unsent envelope ∷ []) (bytes + message_length envelope)
pushed-batch messages bytes envelope are =
    let pushed = pushed-envelopes messages envelope in
    record {
      not_delivered =
          ap (λ (xs : List Sent). xs ++ unsent envelope ∷ []) are.not_delivered ∙ sym (map-append unsent (envelopes_of messages) (envelope ∷ []))
          ∙ ap (λ (es : List Envelope). map unsent es) (sym pushed);
      whole = omega (arith, are.whole, sum_over-push message_length (envelopes_of messages) envelope, ap messages_length pushed);
    }
