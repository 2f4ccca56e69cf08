-- What a further fact brings to what a centre holds: news, or too much.
use Rattle.std.specs.List.{list_any}
use Rattle.std.specs.Prelude.{Bool, List, [], is_some, length, map, nat_lt, not, ℕ, ◌&&◌, ◌==◌, ◌||◌, ◌∷◌}
use Rattle.mdcc_base.specs.declared.key.Key.{Key}
use Rattle.mdcc_option.specs.declared.choices.Outcome.{Outcome}
use Rattle.mdcc_option.specs.declared.items.Delta.{Delta}
use Rattle.mdcc_struct.specs.Maps.{value_of}
use Rattle.mdcc_def_protocol.specs.Facts.{current_of, deltas_at, executed_of}
use Rattle.mdcc_def_messages.specs.declared.facts.Fact.{Fact}

-- whether data of a key bring a higher version than is held, or a delta of the held one that is not executed
abbrev pub is_news : List Fact → Key → ℕ → List Delta → Bool
is_news facts key version adds =
    let current = current_of facts key in
    nat_lt current version
    || (current == version && list_any (λ delta. not (is_some (value_of (deltas_at facts key current) delta.tx))) adds)

-- the keys at which a fact may change what is held
abbrev pub keys_in : Fact → List Key
keys_in (Fact.Heard tx (Outcome.Commit choices)) = map (λ choice. choice.key) choices
keys_in (Fact.Adopted key version item adds) = key ∷ []
keys_in _ = []

-- whether more than 64 deltas of one version would be executed
abbrev pub is_crowding : List Fact → Fact → Bool
is_crowding facts fact = list_any (λ key. nat_lt 64 (length (executed_of (fact ∷ facts) key))) (keys_in fact)
