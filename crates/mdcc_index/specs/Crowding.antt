-- Whether a key has too many deltas with one more fact.
use Rattle.std.specs.Prelude.{Bool, List, ◌∷◌, length, nat_lt}
use Rattle.mdcc_base.specs.declared.key.Key.{Key}
use Rattle.mdcc_def_messages.specs.declared.facts.Fact.{Fact}
use Rattle.mdcc_def_protocol.specs.Facts.{executed_of}

abbrev pub is_key_crowded : List Fact → Fact → Key → Bool
is_key_crowded facts fact key = nat_lt 64 (length (executed_of (fact ∷ facts) key))
