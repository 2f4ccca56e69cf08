-- Open transactions, as a manager keeps them: each option has a mark that says whether it went to a leader.
use Rattle.std.specs.Prelude.{List, None, Option, Some, [], false, if◌then◌else◌, map, ◌||◌, ◌∷◌}
use Rattle.mdcc_base.specs.Key.{key_eq}
use Rattle.mdcc_base.specs.TxId.{tx_eq}
use Rattle.mdcc_base.specs.declared.identifiers.TxId.{TxId}
use Rattle.mdcc_base.specs.declared.key.Key.{Key}
use Rattle.mdcc_manager.specs.declared.opened.OpenChoice.{OpenChoice}
use Rattle.mdcc_manager.specs.declared.opened.OpenTransaction.{OpenTransaction}
use Rattle.mdcc_option.specs.declared.choices.Choice.{Choice}
use Rattle.mdcc_def_protocol.specs.Volatile.{Undecided, has_key}

-- a choice beside the keys that are marked led
abbrev pub kept_choice : List Key → Choice → OpenChoice
kept_choice led choice = record { choice = choice; led = has_key led choice.key }

-- an open transaction
abbrev pub kept_of : Undecided → OpenTransaction
kept_of t = record { tx = t.tx; choices = map (kept_choice t.led) t.choices; ticks = t.ticks }

-- choices of which none is led
abbrev pub open_choices : List Choice → List OpenChoice
open_choices choices = map (λ choice. record { choice = choice; led = false }) choices

-- the choice of a key, where it is not led
abbrev pub unled_at : List OpenChoice → Key → Option Choice
unled_at [] key = None
unled_at (entry ∷ entries) key =
    if key_eq entry.choice.key key then (if entry.led then None else Some entry.choice) else unled_at entries key

-- the choice is marked led, where it is of this key
abbrev pub led_at : Key → OpenChoice → OpenChoice
led_at key entry = record entry { led = key_eq entry.choice.key key || entry.led }

-- the choice of this key is marked led, where this is the transaction
abbrev pub led_in : TxId → Key → OpenTransaction → OpenTransaction
led_in tx key t = if tx_eq t.tx tx then record t { choices = map (led_at key) t.choices } else t
