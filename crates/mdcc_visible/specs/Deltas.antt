-- Executed deltas as a list, and what they make of an item.
use Rattle.std.specs.List.{enumerate_from}
use Rattle.std.specs.Prelude.{List, map, ℕ, ℤ}
use Rattle.mdcc_base.specs.declared.identifiers.TxId.{TxId}
use Rattle.mdcc_option.specs.OneCopy.{read_value, value_after}
use Rattle.mdcc_option.specs.declared.items.Delta.{Delta}
use Rattle.mdcc_option.specs.declared.items.Item.{Item}
use Rattle.mdcc_struct.specs.Maps.{TxMap}
use Rattle.mdcc_def_protocol.specs.Marks.{Amounts}

abbrev pub delta_in : TxId × Amounts → Delta
delta_in e = record { tx = e.0; amounts = e.1 }

-- the deltas of a map, in its order
abbrev pub deltas_of_map : TxMap Amounts → List Delta
deltas_of_map m = map delta_in m

-- the value of the attribute at a place, as it is read
abbrev pub value_shown : List Delta → ℕ × ℤ → ℤ
value_shown deltas base = read_value (value_after deltas base)

-- the item with the deltas in its values
abbrev pub item_shown : List Delta → Item → Item
item_shown deltas item = record item { values = map (value_shown deltas) (enumerate_from 0 item.values) }
