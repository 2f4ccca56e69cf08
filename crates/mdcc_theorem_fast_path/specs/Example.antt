-- A fast path of a trace: three centres, of which the first begins a transaction on two keys.
use Rattle.std.specs.Prelude.{List, [], ◌∷◌}
use Rattle.mdcc_def_language.specs.declared.events.Event.{Event}
use Rattle.mdcc_def_language.specs.declared.events.UpdateWord.{UpdateWord}
use Rattle.mdcc_theorem_round_trip.specs.Example.{first_item_key, second_item_key, written_item}

abbrev pub schedule : List Event
schedule = Event.Begin 1 (UpdateWord.New first_item_key written_item ∷ UpdateWord.New second_item_key written_item ∷ []) ∷ []
