-- What is given back of the facts of a centre stays so when further facts come.
use Rattle.std.specs.Prelude.{◌≡◌, List, false, true, ◌∷◌}
use Rattle.mdcc_def_messages.specs.declared.facts.Fact.{Fact}
use Rattle.mdcc_facts.specs.Adding.{MayBeAdded}
pub use Rattle.mdcc_facts.specs.Adding.{tells_of_finished}
use Rattle.mdcc_given_back.specs.Rest.{AreRest, IsRest, is_bared, is_dropped}

-- of what is dropped nothing is asked later, where the further fact tells nothing of a finished transaction
abbrev pub DroppedStays : Type 0
DroppedStays =
    (new : Fact) (all : List Fact) (fact : Fact)
    → tells_of_finished all new ≡ false → is_dropped all fact ≡ true → is_dropped (new ∷ all) fact ≡ true

-- and of a vote whose ballot alone is asked no more is
abbrev pub BaredStays : Type 0
BaredStays = (new : Fact) (all : List Fact) (fact : Fact) → is_bared all fact ≡ true → is_bared (new ∷ all) fact ≡ true

-- a rest by all facts is one by one fact more
abbrev pub RestsStay : Type 0
RestsStay =
    (new : Fact) (all rest facts : List Fact)
    → tells_of_finished all new ≡ false → AreRest all rest facts → AreRest (new ∷ all) rest facts

-- so a rest with a further fact is a rest of all facts with it
abbrev pub RestsGrow : Type 0
RestsGrow = (new : Fact) (rest facts : List Fact) → tells_of_finished facts new ≡ false → IsRest rest facts → IsRest (new ∷ rest) (new ∷ facts)

-- each fact that may be added is such a one
abbrev pub RestsGrowByAdded : Type 0
RestsGrowByAdded = (new : Fact) (rest facts : List Fact) → MayBeAdded facts new → IsRest rest facts → IsRest (new ∷ rest) (new ∷ facts)
