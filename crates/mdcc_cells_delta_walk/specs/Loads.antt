-- The load of an instance, as it is summed over encodings.
use Rattle.std.specs.List.{fold, list_any}
use Rattle.std.specs.Prelude.{Bool, List, None, Option, Some, [], filter, not, ℕ, ◌&&◌, ◌∷◌}
use Rattle.mdcc_base.specs.declared.identifiers.TxId.{TxId}
use Rattle.mdcc_base.specs.declared.key.Key.{Key}
use Rattle.mdcc_option.specs.declared.items.Item.{Item}
use Rattle.mdcc_option.specs.declared.items.Update.{Update}
use Rattle.mdcc_def_protocol.specs.Marks.{Amounts}
use Rattle.mdcc_def_protocol.specs.declared.fit.Load.{Load}
use Rattle.mdcc_escrow.specs.Weights.{with_live}
use Rattle.mdcc_cells_delta_walk.specs.Entries.{DeltaEntry, live_read}
use Rattle.mdcc_cells_delta_walk.specs.Steps.{has_live}

abbrev pub no_item : Item
no_item = record { body = []; values = [] }

-- an update that weighs as much: what is written weighs nothing
abbrev pub update_as : Option Amounts → Update
update_as None = Update.Write no_item []
update_as (Some amounts) = Update.Add amounts

-- the load with one more entry
abbrev pub with_added : List TxId → Load → DeltaEntry → Load
with_added seen load e = with_live seen load (e.0, update_as e.1)

-- whether a transaction counts before these older encodings
abbrev pub counts : (TxId → Bool) → Key → ℕ → List (List ℕ) → TxId → Bool
counts void key version older tx = not (void tx) && not (list_any (has_live key version tx) older)

-- the load with those of a fact's entries that count
abbrev pub with_entries : List TxId → (TxId → Bool) → Key → ℕ → List (List ℕ) → Load → List DeltaEntry → Load
with_entries seen void key version older load entries = fold (with_added seen) load (filter (λ e. counts void key version older e.0) entries)

abbrev pub load_over : List TxId → (TxId → Bool) → Key → ℕ → Load → List (List ℕ) → Load
load_over seen void key version load [] = load
load_over seen void key version load (text ∷ older) = load_over seen void key version (with_entries seen void key version older load (live_read key version text)) older
