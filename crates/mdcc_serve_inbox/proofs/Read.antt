-- A message and the bytes that it is read from.
use Rattle.std.proofs.Common.{◌≡◌, ◌≤◌, ℕ, Err, IfOk, List, Ok, Result, ap, arith, length, sym}
use Rattle.mdcc_base.specs.Unless.{GivesUnless}
use Rattle.mdcc_serve_inbox.specs.Finds.{IsSoundFound, found_by}
use Rattle.mdcc_def_messages.specs.Lengths.{message_length}
use Rattle.mdcc_def_messages.specs.Reading.{view_of}
use Rattle.mdcc_def_messages.specs.Spelling.{message_bytes}
use Rattle.mdcc_def_messages.specs.WellFormed.{IsWellFormedEnvelope}
use Rattle.mdcc_def_messages.specs.declared.messages.Envelope.{Envelope}
use Rattle.mdcc_def_messages.specs.declared.wire.WireFault.{WireFault}
use Rattle.mdcc_parts.specs.Reads.{is_wire_memory}
use Rattle.mdcc_theorem_encoding.proofs.Lengths.{length-message}
use Rattle.mdcc_theorem_encoding.proofs.Places.{IsBytes}
use Rattle.mdcc_theorem_encoding.proofs.Whole.{message_takes}
use Rattle.mdcc_wire.specs.Views.{placed_whole}

-- what is read is well-formed, and has as many bytes
sound_read : (bytes : List ℕ) (envelope : Envelope) → IsBytes bytes → length bytes ≤ 2097152 → view_of bytes ≡ Ok envelope
    → IsWellFormedEnvelope envelope × (message_length envelope ≤ 2097152)
sound_read bytes envelope are short read =
    let takes = message_takes bytes envelope are read in
    let as_many : length bytes ≡ length (message_bytes envelope) = ap length takes.1 in
    (takes.0, omega (length-message envelope, as_many, short, arith))

-- and so is what is found by it
pub sound_found : (bytes : List ℕ) (read : Result (Unit {0}) WireFault) (envelope : Envelope) → IsBytes bytes → length bytes ≤ 2097152
    → GivesUnless is_wire_memory (placed_whole read envelope) (view_of bytes) → IfOk (found_by read) (λ found. IsSoundFound found envelope)
sound_found bytes (Ok done) envelope are short gives = sound_read bytes envelope are short (sym gives)
sound_found bytes (Err (WireFault.Truncated at)) envelope are short gives = tt
sound_found bytes (Err (WireFault.Trailing at)) envelope are short gives = tt
sound_found bytes (Err WireFault.Kind) envelope are short gives = tt
sound_found bytes (Err (WireFault.Range at)) envelope are short gives = tt
sound_found bytes (Err (WireFault.NotCanonical at)) envelope are short gives = tt
sound_found bytes (Err WireFault.Memory) envelope are short gives = tt
