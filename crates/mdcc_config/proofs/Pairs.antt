-- What is no pair.
use Rattle.std.proofs.Common.{◌≡◌, List, [], ◌∷◌, length, None, refl}
use Rattle.serde_json.specs.View.{items_view}
use Rattle.serde_json.specs.declared.value.Value.{Value}
use Rattle.mdcc_config.specs.Readings.{pair_in}

-- a list that has not two entries
pub not_two : (values : List Value) → (length values ≡ 2 → ⊥) → None ≡ pair_in (items_view values)
not_two [] other = refl
not_two (a ∷ []) other = refl
not_two (a ∷ b ∷ []) other = absurd (other refl)
not_two (a ∷ b ∷ c ∷ values) other = refl
