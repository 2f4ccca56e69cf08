-- Facts of short payloads are short.
use Rattle.std.proofs.Common.{◌≡◌, ℕ, true, nat_le, ◌<◌, ◌≤◌, ◌^◌, List, [], ◌∷◌, Ok, Some, ap, arith, get_or, length, suc, zero}
use Rattle.std.specs.List.{list_all}
use Rattle.std.specs.Prelude.{slice_get}
use Rattle.std.proofs.lemmas.Bool.{and_parts}
use Rattle.std.proofs.lemmas.Bool.Decides.{nat_tests}
use Rattle.mdcc_node_boot.specs.Loading.{AreWithinFrames}
use Rattle.mdcc_def_messages.specs.Lengths.{fact_length}
use Rattle.mdcc_def_messages.specs.Reading.{fact_of}
use Rattle.mdcc_def_messages.specs.Spelling.{fact_bytes}
use Rattle.mdcc_def_messages.specs.declared.facts.Fact.{Fact}
use Rattle.mdcc_theorem_encoding.specs.Laws.{AreBytes, FactsHaveOneSpelling}

pub each-byte : (bytes : List ℕ) → ((i : ℕ) → get_or bytes i 0 < 2 ^ 8) → AreBytes bytes
each-byte [] h = tt
each-byte (b ∷ bytes) h = (h 0, each-byte bytes (λ i. h (suc i)))

-- a fact that is read has the length of its payload
pub fits : (bytes : List ℕ) (fact : Fact) (most : ℕ) → FactsHaveOneSpelling → ((f : Fact) → fact_length f ≡ length (fact_bytes f))
    → AreBytes bytes → fact_of bytes ≡ Ok fact → length bytes ≤ most → fact_length fact ≤ most
fits bytes fact most one exact are read short =
    omega (arith, exact fact, ap (λ (b : List ℕ). length b) (one bytes fact are read))

pub each_short : (payloads : List (List ℕ)) (i : ℕ) (payload : List ℕ) → AreWithinFrames payloads → slice_get payloads i ≡ Some payload → length payload ≤ 2097152
each_short [] i payload short at = absurd (cc)
each_short (p ∷ payloads) zero payload short at = let same : p ≡ payload = cc in rw (← same) short.0
each_short (p ∷ payloads) (suc i) payload short at = each_short payloads i payload short.1 at

at_most : (n most : ℕ) → nat_le n most ≡ true → n ≤ most
at_most n most h = grind (arith, nat_tests)

-- the test on each
pub all_short : (payloads : List (List ℕ)) → list_all (λ payload. nat_le (length payload) 2097152) payloads ≡ true → AreWithinFrames payloads
all_short [] h = tt
all_short (payload ∷ payloads) h =
    let parts = and_parts (nat_le (length payload) 2097152) (list_all (λ payload. nat_le (length payload) 2097152) payloads) h in
    (at_most (length payload) 2097152 parts.0, all_short payloads parts.1)
