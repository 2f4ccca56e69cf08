-- A round trip of three centres: the first begins a transaction that writes two keys, and the proposals and the votes are delivered out of order.
use Rattle.std.specs.Prelude.{Err, List, Ok, Result, [], pos, ℕ, ◌∷◌}
use Rattle.mdcc_base.specs.declared.identifiers.TxId.{TxId}
use Rattle.mdcc_base.specs.declared.key.Key.{Key}
use Rattle.mdcc_option.specs.declared.choices.Choice.{Choice}
use Rattle.mdcc_option.specs.declared.cluster.Cluster.{Cluster}
use Rattle.mdcc_option.specs.declared.cluster.FastLimit.{FastLimit}
use Rattle.mdcc_option.specs.declared.items.Item.{Item}
use Rattle.mdcc_option.specs.declared.items.Update.{Update}
use Rattle.mdcc_def_protocol.specs.Volatile.{Undecided}
use Rattle.mdcc_def_language.specs.declared.events.Event.{Event}
use Rattle.mdcc_def_language.specs.declared.events.UpdateWord.{UpdateWord}
use Rattle.mdcc_def_language.specs.declared.world.EventFault.{EventFault}
use Rattle.mdcc_def_simulation.specs.Events.{after_event}
use Rattle.mdcc_def_simulation.specs.State.{Happened, World, first_world}

-- three centres, one attribute from 0 to 100
abbrev pub cluster_of_three : Cluster
cluster_of_three = record { quorums = record { centres = 3; classic = 2; fast = 3 }; schema = (pos 0, pos 100) ∷ []; gamma = 0; cells = 1000; limit = FastLimit.Safe }

abbrev pub written_item : Item
written_item = record { body = []; values = pos 10 ∷ [] }

-- the keys a and b
abbrev pub first_item_key : Key
first_item_key = 97 ∷ []

abbrev pub second_item_key : Key
second_item_key = 98 ∷ []

abbrev pub inserting_tx : TxId
inserting_tx = record { centre = 1; epoch = 1; seq = 1 }

-- the transaction writes the first version of each
abbrev pub choice_on : Key → Choice
choice_on key = record { tx = inserting_tx; key = key; version = 0; update = Update.Write written_item []; write_set = (first_item_key, 0) ∷ (second_item_key, 0) ∷ [] }

abbrev pub transaction : Undecided
transaction = record { tx = inserting_tx; choices = choice_on first_item_key ∷ choice_on second_item_key ∷ []; led = []; ticks = 0 }

abbrev pub members : List ℕ
members = 1 ∷ 2 ∷ 3 ∷ []

-- what happened, or nothing
abbrev pub happened : World → Result Happened EventFault → Happened
happened w (Ok h) = h
happened w (Err fault) = record { world = w; lines = [] }

abbrev pub line_happened : World → Event → Happened
line_happened w event = happened w (after_event w event)

-- it was begun
abbrev pub world_begun : World
world_begun = (line_happened (first_world cluster_of_three) (Event.Begin 1 (UpdateWord.New first_item_key written_item ∷ UpdateWord.New second_item_key written_item ∷ []))).world

-- the proposals, and then the votes, are delivered
abbrev pub proposals_delivered : Happened
proposals_delivered = line_happened world_begun (Event.Deliver (6 ∷ 2 ∷ 3 ∷ 4 ∷ 5 ∷ 1 ∷ []))

abbrev pub votes_delivered : Happened
votes_delivered = line_happened proposals_delivered.world (Event.Deliver (12 ∷ 11 ∷ 9 ∷ 10 ∷ 8 ∷ 7 ∷ []))
