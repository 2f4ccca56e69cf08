-- Facts whose encodings are stored, the newest first.
use Rattle.std.specs.Prelude.{◌≡◌, ◌∷◌, [], List, ⊤, ℕ}
use Rattle.mdcc_def_messages.specs.Spelling.{encodings_of}
use Rattle.mdcc_def_messages.specs.WellFormed.{IsWellFormedFact}
use Rattle.mdcc_def_messages.specs.declared.facts.Fact.{Fact}

abbrev pub AreWellFormed : List Fact → Type 0
AreWellFormed [] = ⊤
AreWellFormed (fact ∷ facts) = IsWellFormedFact fact × AreWellFormed facts

-- the encodings are those of these facts
pub record HoldsEncodings (encodings : List (List ℕ)) (facts : List Fact) : Type 0 where
  pub encodings_are : encodings ≡ encodings_of facts
  pub well_formed : AreWellFormed facts
