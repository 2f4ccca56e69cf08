-- What a client may be asked for.
use Rattle.std.specs.List.{list_all}
use Rattle.std.specs.Prelude.{length, true, ◌+◌, ◌≡◌, ◌≤◌}
use Rattle.mdcc_command_ask.specs.declared.order.Order.{Order}
use Rattle.mdcc_command_words.specs.Asks.{names_read}

-- at most sixteen keys and updates, and each update that names a read names one of the order
pub record IsOrder (order : Order) : Type 0 where
  pub few : length order.keys + length order.updates ≤ 16
  pub named : list_all (names_read (length order.keys)) order.updates ≡ true
