-- Which entries of a map are new beside another map.
use Rattle.std.specs.Prelude.{[], filter, if◌then◌else◌, is_some, not, ◌∷◌}
use Rattle.mdcc_struct.specs.Maps.{TxMap, inserted, value_of}

-- the entries whose transactions neither a map nor an earlier entry has
abbrev pub new_entries : {X : Type 0} → TxMap X → TxMap X → TxMap X
new_entries m [] = []
new_entries m (e ∷ es) = if is_some (value_of m e.0) then new_entries m es else e ∷ new_entries (inserted m e) es

-- those that a map does not have. Of entries that ascend they are the same
abbrev pub entries_beside : {X : Type 0} → TxMap X → TxMap X → TxMap X
entries_beside m es = filter (λ e. not (is_some (value_of m e.0))) es
