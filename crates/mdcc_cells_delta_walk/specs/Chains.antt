-- The encodings that a walk of an index comes by, the newest first.
use Rattle.std.specs.Prelude.{◌≡◌, ◌<◌, List, None, Option, Some, [], get_or, length, map, ℕ, ◌∷◌}
use Rattle.mdcc_base.specs.declared.key.Key.{Key}
use Rattle.mdcc_cells_chains.specs.Keys.{instance_eq}
use Rattle.mdcc_cells_chains.specs.Walks.{entry_at, older, walk}
use Rattle.mdcc_def_messages.specs.Spelling.{fact_bytes}
use Rattle.mdcc_def_messages.specs.declared.facts.Fact.{Fact}
use Rattle.mdcc_cells_facts.specs.Holding.{AreWellFormed}
use Rattle.mdcc_theorem_fact_folds.specs.Entered.{indices_found}
use Rattle.mdcc_theorem_fact_folds.specs.IndexWalks.{keys_of}

-- the encoding of the fact that is entered at an index
abbrev pub encoding_at : List (List ℕ) → List ℕ → ℕ → List ℕ
encoding_at encodings numbers index = get_or encodings (get_or numbers index 0) []

-- those of a walk
abbrev pub encodings_walked : List (List ℕ) → List (Key × ℕ) → List ℕ → Key × ℕ → List (List ℕ)
encodings_walked encodings keys numbers instance = map (encoding_at encodings numbers) (walk (instance_eq instance) keys)

-- those of a walk from an index on, which is the one at which it stands
abbrev pub encodings_from : List (List ℕ) → List (Key × ℕ) → List ℕ → Key × ℕ → Option ℕ → List (List ℕ)
encodings_from encodings keys numbers instance None = []
encodings_from encodings keys numbers instance (Some index) = encoding_at encodings numbers index ∷ encodings_walked encodings (older index keys) numbers instance

-- each entry of an index has the number of a fact
pub record AreFactNumbers (encodings : List (List ℕ)) (keys : List (Key × ℕ)) (numbers : List ℕ) : Type 0 where
  pub alike : length numbers ≡ length keys
  pub below : (index : ℕ) → index < length numbers → get_or numbers index 0 < length encodings

abbrev pub first_encoding : List (List ℕ) → Option (List ℕ)
first_encoding [] = None
first_encoding (text ∷ texts) = Some text

abbrev pub later_encodings : List (List ℕ) → List (List ℕ)
later_encodings [] = []
later_encodings (text ∷ texts) = texts

-- these are the encodings of these facts
pub record AreOf (texts : List (List ℕ)) (facts : List Fact) : Type 0 where
  pub encodings_are : texts ≡ map fact_bytes facts
  pub well_formed : AreWellFormed facts

-- where the index has the keys of entries, and the numbers beside them stand at their indices, a walk comes by what is stored under the numbers that are found by the instance
abbrev pub EncodingsAreFound : Type 0
EncodingsAreFound =
    (encodings : List (List ℕ)) (entries : List ((Key × ℕ) × ℕ)) (numbers : List ℕ) (instance : Key × ℕ)
    → ((index : ℕ) (entry : (Key × ℕ) × ℕ) → entry_at entries index ≡ Some entry → get_or numbers index 0 ≡ entry.1)
    → encodings_walked encodings (keys_of entries) numbers instance ≡ map (λ number. get_or encodings number []) (indices_found (instance_eq instance) entries)
