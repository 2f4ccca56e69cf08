-- The live entries of an instance, one after the other, over the encodings of its facts.
use Rattle.std.specs.Prelude.{◌≡◌, ◌++◌, Bool, List, None, Option, Some, [], if◌then◌else◌, not, ℕ, ◌&&◌, ◌∷◌}
use Rattle.mdcc_base.specs.declared.identifiers.TxId.{TxId}
use Rattle.mdcc_base.specs.declared.key.Key.{Key}
use Rattle.mdcc_def_protocol.specs.Fit.{has_tx}
use Rattle.mdcc_def_protocol.specs.declared.fit.Load.{Load}
use Rattle.mdcc_struct.specs.Maps.{txs_of}
use Rattle.mdcc_cells_delta_walk.specs.Entries.{DeltaEntry, added_by, left_in, live_read, rest_in}
use Rattle.mdcc_cells_delta_walk.specs.Loads.{with_added}
use Rattle.mdcc_cells_delta_walk.specs.declared.live_walk.LiveWalk.{LiveWalk}

-- those of all facts
abbrev pub live_in : Key → ℕ → List (List ℕ) → List DeltaEntry
live_in key version [] = []
live_in key version (text ∷ texts) = live_read key version text ++ live_in key version texts

-- those that are left, where a walk stands at the beginning of one
abbrev pub left_live : LiveWalk → List DeltaEntry
left_live w = left_in w.entries ++ live_in w.key w.version w.walk

-- those that are left after the one at whose update it stands
abbrev pub rest_live : LiveWalk → List DeltaEntry
rest_live w = rest_in w.entries ++ live_in w.key w.version w.walk

-- it stands at the update of the first of these, or there is none
abbrev pub IsAtLive : List DeltaEntry → Option TxId → LiveWalk → Type 0
IsAtLive [] found w = found ≡ None
IsAtLive (first ∷ others) found w = record { tx : found ≡ Some first.0; added : added_by w.entries ≡ first.1; rest : rest_live w ≡ others }

-- a walk over these, or there is none
abbrev pub Begins : List DeltaEntry → Option LiveWalk → Type 0
Begins entries None = entries ≡ []
Begins entries (Some w) = left_live w ≡ entries

-- an entry counts where no later one is the transaction's: those come from older facts
abbrev pub counts_before : (TxId → Bool) → List DeltaEntry → TxId → Bool
counts_before void later tx = not (void tx) && not (has_tx (txs_of later) tx)

abbrev pub load_among : List TxId → (TxId → Bool) → Load → List DeltaEntry → Load
load_among seen void load [] = load
load_among seen void load (e ∷ later) = load_among seen void (if counts_before void later e.0 then with_added seen load e else load) later

-- a search for the first of these: where nothing was found so far they are those of the facts that are left
abbrev pub IsFinding : List DeltaEntry → Option TxId → LiveWalk → Type 0
IsFinding entries None w = live_in w.key w.version w.walk ≡ entries
IsFinding entries (Some tx) w = IsAtLive entries (Some tx) w
