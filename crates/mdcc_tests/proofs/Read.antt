-- Facts that are read from few bytes are short.
use Rattle.std.proofs.Common.{◌≡◌, ℕ, ◌<◌, ◌≤◌, ◌^◌, List, [], ◌∷◌, Ok, ap, arith, get_or, length, suc}
use Rattle.mdcc_def_messages.specs.Lengths.{fact_length}
use Rattle.mdcc_def_messages.specs.Reading.{fact_of}
use Rattle.mdcc_def_messages.specs.Spelling.{fact_bytes}
use Rattle.mdcc_def_messages.specs.declared.facts.Fact.{Fact}
use Rattle.mdcc_theorem_encoding.specs.Laws.{AreBytes, FactsHaveOneSpelling}

pub each-byte : (bytes : List ℕ) → ((i : ℕ) → get_or bytes i 0 < 2 ^ 8) → AreBytes bytes
each-byte [] h = tt
each-byte (b ∷ bytes) h = (h 0, each-byte bytes (λ i. h (suc i)))

-- a fact that is read has the length of its bytes
pub fits : (bytes : List ℕ) (fact : Fact) (most : ℕ) → FactsHaveOneSpelling → ((f : Fact) → fact_length f ≡ length (fact_bytes f))
    → AreBytes bytes → fact_of bytes ≡ Ok fact → length bytes ≤ most → fact_length fact ≤ most
fits bytes fact most one exact are read short =
    omega (arith, exact fact, ap (λ (b : List ℕ). length b) (one bytes fact are read))
