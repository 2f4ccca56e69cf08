-- Laws of the bytes of messages and of facts.
use Rattle.std.specs.Prelude.{◌≡◌, ℕ, ◌^◌, ◌<◌, List, [], ◌++◌, Ok}
use Rattle.std.specs.List.{AllByRecursion}
use Rattle.mdcc_def_messages.specs.declared.facts.Fact.{Fact}
use Rattle.mdcc_def_messages.specs.declared.messages.Envelope.{Envelope}
use Rattle.mdcc_def_messages.specs.Reading.{view_of, fact_of}
use Rattle.mdcc_def_messages.specs.Spelling.{message_bytes, fact_bytes}
use Rattle.mdcc_def_messages.specs.WellFormed.{IsWellFormedEnvelope, IsWellFormedFact}

abbrev pub AreBytes : List ℕ → Type 0
AreBytes bytes = AllByRecursion (λ b. b < 2 ^ 8) bytes

-- ---- messages

-- what is written of a well-formed message is read back as that message
abbrev pub MessagesAreReadBack : Type 0
MessagesAreReadBack = (envelope : Envelope) → IsWellFormedEnvelope envelope → view_of (message_bytes envelope) ≡ Ok envelope

-- only well-formed messages are read
abbrev pub MessagesReadAreWellFormed : Type 0
MessagesReadAreWellFormed = (bytes : List ℕ) (envelope : Envelope) → AreBytes bytes → view_of bytes ≡ Ok envelope → IsWellFormedEnvelope envelope

-- bytes that are read as a message are its one spelling
abbrev pub MessagesHaveOneSpelling : Type 0
MessagesHaveOneSpelling = (bytes : List ℕ) (envelope : Envelope) → AreBytes bytes → view_of bytes ≡ Ok envelope → bytes ≡ message_bytes envelope

-- the spelling of a message begins that of no other, nor more than itself
abbrev pub NoMessageBeginsAnother : Type 0
NoMessageBeginsAnother =
    (a b : Envelope) (rest : List ℕ) → IsWellFormedEnvelope a → IsWellFormedEnvelope b
    → message_bytes a ++ rest ≡ message_bytes b → (a ≡ b) × (rest ≡ [])

-- ---- facts

abbrev pub FactsAreReadBack : Type 0
FactsAreReadBack = (fact : Fact) → IsWellFormedFact fact → fact_of (fact_bytes fact) ≡ Ok fact

abbrev pub FactsReadAreWellFormed : Type 0
FactsReadAreWellFormed = (bytes : List ℕ) (fact : Fact) → AreBytes bytes → fact_of bytes ≡ Ok fact → IsWellFormedFact fact

abbrev pub FactsHaveOneSpelling : Type 0
FactsHaveOneSpelling = (bytes : List ℕ) (fact : Fact) → AreBytes bytes → fact_of bytes ≡ Ok fact → bytes ≡ fact_bytes fact

abbrev pub NoFactBeginsAnother : Type 0
NoFactBeginsAnother =
    (a b : Fact) (rest : List ℕ) → IsWellFormedFact a → IsWellFormedFact b
    → fact_bytes a ++ rest ≡ fact_bytes b → (a ≡ b) × (rest ≡ [])
