-- What deltas make of an item, as a list and as a map.
use Rattle.std.proofs.Common.{◌≡◌, ℕ, ◌+◌, ℤ, ◌+ℤ◌, List, [], ◌∷◌, map, fold, refl}
use Rattle.std.specs.List.{enumerate_from}
use Rattle.mdcc_option.specs.OneCopy.{amount_at, value_after}
use Rattle.mdcc_option.specs.declared.items.Item.{Item}
use Rattle.mdcc_struct.specs.Maps.{TxMap}
use Rattle.mdcc_def_protocol.specs.Marks.{Amounts}
use Rattle.mdcc_def_protocol.specs.Visible.{item_read, value_read}
use Rattle.mdcc_visible.specs.Deltas.{deltas_of_map, item_shown, value_shown}

after : (m : TxMap Amounts) (place : ℕ) (base : ℤ) → value_after (deltas_of_map m) (place, base) ≡ fold (λ value e. value +ℤ amount_at (place + 1) e.1) base m
after [] place base = refl
after (e ∷ es) place base = after es place (base +ℤ amount_at (place + 1) e.1)

values : (m : TxMap Amounts) (start : ℕ) (bases : List ℤ) → map (value_shown (deltas_of_map m)) (enumerate_from start bases) ≡ map (value_read m) (enumerate_from start bases)
values m start [] = refl
values m start (base ∷ bases) = rw (after m start base, values m (start + 1) bases) refl

pub item_shown-read : (m : TxMap Amounts) (item : Item) → item_shown (deltas_of_map m) item ≡ item_read m item
item_shown-read m item = rw (values m 0 item.values) refl

pub ruleset shown_items = (item_shown-read)
