-- Loads that are summed entry by entry, and never pass their caps.
use Rattle.std.specs.Prelude.{Bool, List, [], get_or, if◌then◌else◌, min, not, pos, ℕ, ℤ, ◌+ℤ◌, ◌+◌, ◌-◌, ◌^◌, ◌∷◌}
use Rattle.mdcc_base.specs.declared.identifiers.TxId.{TxId}
use Rattle.mdcc_option.specs.OneCopy.{amount_at}
use Rattle.mdcc_option.specs.declared.items.Update.{Update}
use Rattle.mdcc_def_protocol.specs.Fit.{amounts_in, capped_sum, decrease, has_tx, increase}
use Rattle.mdcc_def_protocol.specs.Marks.{Amounts, is_write}
use Rattle.mdcc_def_protocol.specs.declared.fit.Load.{Load}

-- one more where the test holds, up to 2^32 - 1
abbrev pub counted : Bool → ℕ → ℕ
counted test count = min (count + (if test then 1 else 0)) (2 ^ 32 - 1)

-- a size more, up to 2^96
abbrev pub with_amount : ℕ → ℤ → ℤ
with_amount size sum = capped_sum (sum +ℤ pos size)

-- the sums with the sizes of an update's amounts
abbrev pub sums_with : (ℤ → ℕ) → Amounts → List ℤ → List ℤ
sums_with size amounts sums =
    with_amount (size (amount_at 1 amounts)) (get_or sums 0 (pos 0))
    ∷ with_amount (size (amount_at 2 amounts)) (get_or sums 1 (pos 0))
    ∷ with_amount (size (amount_at 3 amounts)) (get_or sums 2 (pos 0))
    ∷ with_amount (size (amount_at 4 amounts)) (get_or sums 3 (pos 0))
    ∷ []

-- the load with one more live update
abbrev pub with_live : List TxId → Load → TxId × Update → Load
with_live seen load e = record {
  writes = counted (is_write e.1) load.writes;
  unseen = counted (not (has_tx seen e.0)) load.unseen;
  count = counted (not (is_write e.1)) load.count;
  down = sums_with decrease (amounts_in e.1) load.down;
  up = sums_with increase (amounts_in e.1) load.up;
}

abbrev pub no_load : Load
no_load = record {
  writes = 0;
  unseen = 0;
  count = 0;
  down = pos 0 ∷ pos 0 ∷ pos 0 ∷ pos 0 ∷ [];
  up = pos 0 ∷ pos 0 ∷ pos 0 ∷ pos 0 ∷ [];
}
