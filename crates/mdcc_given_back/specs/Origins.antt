-- The epochs of which a sweep tells, by the facts that are left.
use Rattle.std.specs.Prelude.{◌≡◌, List}
use Rattle.mdcc_def_messages.specs.declared.facts.Fact.{Fact}
use Rattle.mdcc_def_protocol.specs.Floors.{origins_of, sweep}
use Rattle.mdcc_given_back.specs.Rest.{IsRest}

-- an outcome is dropped where its transaction is finished: then a floor of its epoch is left
abbrev pub OriginsStay : Type 0
OriginsStay = (rest facts : List Fact) → IsRest rest facts → origins_of rest ≡ origins_of facts

abbrev pub SweepStays : Type 0
SweepStays = (rest facts : List Fact) → IsRest rest facts → sweep rest ≡ sweep facts
