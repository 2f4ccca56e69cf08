-- How many bytes are pending.
use Rattle.std.proofs.Common.{◌≡◌, ◌+◌, ◌++◌, ◌∷◌, ◌∙◌, [], Bool, List, None, Some, ℕ, ap, arith, cond, false, length, map, refl, true}
use Rattle.std.proofs.lemmas.Bool.Decides.{nat_tests}
use Rattle.std.specs.Prelude.{nat_le}
use Rattle.mdcc_base.specs.Counts.{sum_over}
use Rattle.mdcc_def_messages.specs.Spelling.{fact_bytes, message_bytes}
use Rattle.mdcc_def_messages.specs.declared.facts.Fact.{Fact}
use Rattle.mdcc_def_messages.specs.declared.messages.Envelope.{Envelope}
use Rattle.mdcc_serve_outbox.specs.Outgoing.{outgoing}
use Rattle.mdcc_serve_outbox.specs.Shows.{count_limited}
use Rattle.mdcc_serve_outbox.specs.declared.outgoing.Outgoing.{Outgoing}
use Rattle.mdcc_def_server_runs.specs.Sites.{Pending}
use Rattle.mdcc_def_server_runs.specs.Turns.{pending_limit, pending_size, waiting_size}
use Rattle.mdcc_serve_site.specs.PendingBytes.{length_of, size_of}
use Rattle.mdcc_wire.specs.Encoding.{is_too_long}

-- ---- one more

sum_more : {X : Type 0} (size : X → ℕ) (xs : List X) (x : X) → sum_over size (xs ++ x ∷ []) ≡ sum_over size xs + size x
sum_more size [] x = omega arith
sum_more size (y ∷ xs) x = (let rest = sum_more size xs x in omega (rest, arith))

-- where so many were counted, so many more are
counted_on : (size all more next : ℕ) → size ≡ count_limited all → next ≡ all + more → count_limited (size + more) ≡ count_limited next
counted_on size all more next is more_is = omega (is, more_is, arith)

pub counts_fact : (payloads : List (List ℕ)) (messages : List Outgoing) (payload : List ℕ) (size more : ℕ) → size ≡ count_limited (size_of payloads messages) → more ≡ length payload
    → count_limited (size + more) ≡ count_limited (size_of (payloads ++ payload ∷ []) messages)
counts_fact payloads messages payload size more is long =
    let all = sum_more (λ (p : List ℕ). length p) payloads payload in
    counted_on size (size_of payloads messages) more (size_of (payloads ++ payload ∷ []) messages) is (omega (all, long, arith))

pub counts_message : (payloads : List (List ℕ)) (messages : List Outgoing) (message : Outgoing) (size more : ℕ) → size ≡ count_limited (size_of payloads messages) → more ≡ length_of message.bytes
    → count_limited (size + more) ≡ count_limited (size_of payloads (messages ++ message ∷ []))
counts_message payloads messages message size more is long =
    let all = sum_more (λ (m : Outgoing). length_of m.bytes) messages message in
    counted_on size (size_of payloads messages) more (size_of payloads (messages ++ message ∷ [])) is (omega (all, long, arith))

-- ---- those of facts and messages

payload_sizes : (facts : List Fact) → sum_over (λ payload. length payload) (map fact_bytes facts) ≡ sum_over (λ fact. length (fact_bytes fact)) facts
payload_sizes [] = refl
payload_sizes (fact ∷ facts) = ap (λ (n : ℕ). length (fact_bytes fact) + n) (payload_sizes facts)

waits_by : (envelope : Envelope) (long : Bool) → length_of (cond long None (Some (message_bytes envelope))) ≡ cond long 0 (length (message_bytes envelope))
waits_by envelope true = refl
waits_by envelope false = refl

message_sizes : (envelopes : List Envelope) → sum_over (λ message. length_of message.bytes) (map outgoing envelopes) ≡ sum_over waiting_size envelopes
message_sizes [] = refl
message_sizes (envelope ∷ envelopes) =
    ap (λ (n : ℕ). n + sum_over (λ (m : Outgoing). length_of m.bytes) (map outgoing envelopes)) (waits_by envelope (is_too_long envelope))
    ∙ ap (λ (n : ℕ). waiting_size envelope + n) (message_sizes envelopes)

pub pending_sizes : (pending : Pending) → size_of (map fact_bytes pending.facts) (map outgoing pending.envelopes) ≡ pending_size pending
pending_sizes pending =
    ap (λ (n : ℕ). n + sum_over (λ (m : Outgoing). length_of m.bytes) (map outgoing pending.envelopes)) (payload_sizes pending.facts)
    ∙ ap (λ (n : ℕ). sum_over (λ (fact : Fact). length (fact_bytes fact)) pending.facts + n) (message_sizes pending.envelopes)

-- the limit is below the end of the count
pub full_counted : (size all : ℕ) → size ≡ count_limited all → nat_le pending_limit size ≡ nat_le pending_limit all
full_counted size all is = grind (arith, nat_tests, is)
