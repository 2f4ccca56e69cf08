-- How far a walk over two maps has come.
use Rattle.std.specs.Prelude.{ℕ, ◌≡◌, ◌≤◌, Some, slice_get}
use Rattle.mdcc_base.specs.declared.identifiers.TxId.{TxId}
use Rattle.mdcc_struct.specs.Maps.{TxMap}
use Rattle.mdcc_struct.specs.Places.{place_of}

-- the place in the second map is no further than that of the i-th transaction of the first
abbrev pub IsReached : {X : Type 0} → TxMap X → ℕ → TxMap X → ℕ → Type 0
IsReached {X = X} a i b place = (e : TxId × X) → slice_get a i ≡ Some e → place ≤ place_of b e.0
