-- What accepted choices of one instance may take together.
use Rattle.std.specs.Prelude.{Contains, List, None, Option, Some, [], get_or, length, not, pos, ℕ, ◌-ℤ◌, ◌-◌, ◌≡◌, ◌≤◌, ◌∷◌, ⊤}
use Rattle.mdcc_base.specs.Counts.{number_of, sum_over}
use Rattle.mdcc_option.specs.OneCopy.{amount_at}
use Rattle.mdcc_option.specs.Transaction.{bounds_of}
use Rattle.mdcc_option.specs.declared.choices.Choice.{Choice}
use Rattle.mdcc_option.specs.declared.items.Item.{Item}
use Rattle.mdcc_option.specs.declared.schema.Schema.{Schema}
use Rattle.mdcc_def_protocol.specs.Fit.{above_zero, amounts_in, decrease, increase}
use Rattle.mdcc_def_protocol.specs.Marks.{is_write}

-- choices of distinct transactions
abbrev pub AreOfDistinctTxs : List Choice → Type 0
AreOfDistinctTxs [] = ⊤
AreOfDistinctTxs (c ∷ cs) = ((d : Choice) → Contains cs d → d.tx ≡ c.tx → ⊥) × AreOfDistinctTxs cs

-- how much a choice takes from an attribute
abbrev pub taken_from_room : ℕ → Choice → ℕ
taken_from_room attribute choice = decrease (amount_at attribute (amounts_in choice.update))

-- how much it gives
abbrev pub added_to_room : ℕ → Choice → ℕ
added_to_room attribute choice = increase (amount_at attribute (amounts_in choice.update))

-- how far an attribute of a base is above its lower bound; without a base there is no room
abbrev pub room_below : Schema → ℕ → Option Item → ℕ
room_below schema attribute None = 0
room_below schema attribute (Some base) = above_zero (get_or base.values (attribute - 1) (pos 0) -ℤ (bounds_of schema attribute).0)

-- how far it is below its upper bound
abbrev pub room_above : Schema → ℕ → Option Item → ℕ
room_above schema attribute None = 0
room_above schema attribute (Some base) = above_zero ((bounds_of schema attribute).1 -ℤ get_or base.values (attribute - 1) (pos 0))

-- together they are at most 64 Adds, and neither take nor give more than there is room for.
-- What one gives makes no room for what another takes
pub record AreWithinRooms (schema : Schema) (base : Option Item) (choices : List Choice) : Type 0 where
  pub adds : number_of (λ (choice : Choice). not (is_write choice.update)) choices ≤ 64
  pub decreases : (attribute : ℕ) → 1 ≤ attribute → attribute ≤ length schema → sum_over (taken_from_room attribute) choices ≤ room_below schema attribute base
  pub increases : (attribute : ℕ) → 1 ≤ attribute → attribute ≤ length schema → sum_over (added_to_room attribute) choices ≤ room_above schema attribute base
