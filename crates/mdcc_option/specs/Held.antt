-- What a one-copy store has of a key.
use Rattle.std.specs.Prelude.{ℕ, List}
use Rattle.mdcc_option.specs.declared.items.Item.{Item}
use Rattle.mdcc_option.specs.declared.items.Delta.{Delta}

-- the version, the item that was written as its base, and the deltas on it, ascending by transaction
pub record Held : Type 0 where
  pub version : ℕ
  pub base : Item
  pub deltas : List Delta
