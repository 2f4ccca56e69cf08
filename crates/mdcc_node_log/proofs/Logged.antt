-- The payloads of logs of facts: what is read of them, and how many bytes the logs have.
use Rattle.std.proofs.Common.{◌≡◌, ℕ, ◌+◌, List, [], ◌∷◌, ◌++◌, length, map, refl, ◌∙◌, ap, arith, length-append, append-nil}
use Rattle.std.proofs.lemmas.List.{map-append}
use Rattle.std.proofs.lemmas.List.Concat.{flat_map-append}
use Rattle.std.specs.List.{AllByRecursion, flat_map}
use Rattle.mdcc_node_boot.specs.Loading.{fact_in, fact_read}
use Rattle.mdcc_base.specs.Counts.{sum_over}
use Rattle.mdcc_log_file.specs.Log.{frame_bytes, log_bytes, log_mark}
use Rattle.mdcc_theorem_encoding.proofs.Lengths.{length-fact}
use Rattle.mdcc_def_messages.specs.Lengths.{frame_length, log_length}
use Rattle.mdcc_def_messages.specs.Spelling.{fact_bytes, encodings_of}
use Rattle.mdcc_def_messages.specs.WellFormed.{IsWellFormedFact}
use Rattle.mdcc_def_messages.specs.declared.facts.Fact.{Fact}
use Rattle.mdcc_theorem_encoding.proofs.Whole.{fact_again}
use Rattle.mdcc_theorem_node_steps.specs.NodeInvariant.{fact_payloads}

-- ---- what is read of them

-- of the payloads of well-formed facts these facts are read
pub payloads-read : (facts : List Fact) → AllByRecursion IsWellFormedFact facts → map fact_read (encodings_of facts) ≡ fact_payloads facts
payloads-read [] w = refl
payloads-read (fact ∷ facts) w =
    map-append fact_read (encodings_of facts) (fact_bytes fact ∷ [])
    ∙ ap (λ front. front ++ fact_read (fact_bytes fact) ∷ []) (payloads-read facts w.1)
    ∙ ap (λ read. fact_payloads facts ++ fact_in read ∷ []) (fact_again fact w.0)

-- ---- how many bytes the logs have

-- one payload is one frame
length-single : (payload : List ℕ) → length (flat_map frame_bytes (payload ∷ [])) ≡ 5 + length payload
length-single payload = ap (λ bytes. length bytes) (append-nil (frame_bytes payload)) ∙ omega arith

length-more : (payloads : List (List ℕ)) (payload : List ℕ)
    → length (flat_map frame_bytes (payloads ++ payload ∷ [])) ≡ length (flat_map frame_bytes payloads) + (5 + length payload)
length-more payloads payload =
    ap (λ bytes. length bytes) (flat_map-append frame_bytes payloads (payload ∷ []))
    ∙ omega (arith, length-append (flat_map frame_bytes payloads) (flat_map frame_bytes (payload ∷ [])), length-single payload)

length-frames : (facts : List Fact) → length (flat_map frame_bytes (encodings_of facts)) ≡ sum_over frame_length facts
length-frames [] = refl
length-frames (fact ∷ facts) = omega (arith, length-more (encodings_of facts) (fact_bytes fact), length-fact fact, length-frames facts)

length-log_bytes : (payloads : List (List ℕ)) → length (log_bytes payloads) ≡ 9 + length (flat_map frame_bytes payloads)
length-log_bytes payloads =
    omega (arith, length-append (log_mark ++ flat_map frame_bytes payloads) (0 ∷ []), length-append log_mark (flat_map frame_bytes payloads))

-- the log of facts has the bytes that their lengths tell
pub logged-length : (facts : List Fact) → length (log_bytes (encodings_of facts)) ≡ log_length facts
logged-length facts = omega (arith, length-log_bytes (encodings_of facts), length-frames facts)

-- one payload more takes its own bytes and five
pub log-grows : (payloads : List (List ℕ)) (payload : List ℕ) → length (log_bytes (payloads ++ payload ∷ [])) ≡ length (log_bytes payloads) + (length payload + 5)
log-grows payloads payload = omega (arith, length-log_bytes (payloads ++ payload ∷ []), length-log_bytes payloads, length-more payloads payload)
