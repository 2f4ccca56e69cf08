-- How claims lie in memory.
use Rattle.std.specs.Prelude.{All, IsTrue, List, None, Option, Some, [], if◌then◌else◌, length, map, slice_get, ℕ, ◌++◌, ◌+◌, ◌-◌, ◌==◌, ◌≤◌, ◌∷◌}
use Rattle.mdcc_option.specs.declared.choices.Choice.{Choice}
use Rattle.mdcc_struct.specs.Maps.{TxMap, are_ascending}
use Rattle.mdcc_leader_structures.specs.declared.claims.Entry.{Entry}

-- what a place says: 0 that no choice is known, and else a choice, counted from 1
abbrev pub choice_in : List Choice → ℕ → Option Choice
choice_in choices place = if place == 0 then None else slice_get choices (place - 1)

-- the claims of entries
abbrev pub claims_in : List Choice → List Entry → TxMap (Option Choice)
claims_in choices entries = map (λ e. (e.tx, choice_in choices e.place)) entries

-- places are within, and transactions ascend
pub record AreClaimEntries (choices : List Choice) (entries : List Entry) : Type 0 where
  pub within : All (λ e. e.place ≤ length choices) entries
  pub ascending : IsTrue (are_ascending (claims_in choices entries))

-- the choices with one more, where it is known
abbrev pub choices_kept : List Choice → Option Choice → List Choice
choices_kept choices None = choices
choices_kept choices (Some choice) = choices ++ choice ∷ []

-- the place of that choice
abbrev pub kept_choice_place : List Choice → Option Choice → ℕ
kept_choice_place choices None = 0
kept_choice_place choices (Some choice) = length choices + 1

-- the choices once a claim of this place has one more, where its own is not known
abbrev pub filled : List Choice → ℕ → Option Choice → List Choice
filled choices place choice = if place == 0 then choices_kept choices choice else choices

-- its place then
abbrev pub filled_place : List Choice → ℕ → Option Choice → ℕ
filled_place choices place choice = if place == 0 then kept_choice_place choices choice else place
