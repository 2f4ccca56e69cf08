-- Which bounds make a schema.
use Rattle.std.specs.Prelude.{ℕ, ◌+◌, ℤ, ◌&&◌, not, nat_le, if◌then◌else◌, List, [], ◌∷◌, length, Option, Some, None, Result, Ok, Err}
use Rattle.mdcc_option.specs.Bounds.{is_bound}
use Rattle.mdcc_option.specs.declared.schema.SchemaFault.{SchemaFault}
use Rattle.mdcc_option.specs.declared.schema.SchemaFault.TheVariants.{Count, Bound}

-- the number of the first bad bounds, where the first of the list has number n
abbrev pub bad_bound_from : ℕ → List (ℤ × ℤ) → Option ℕ
bad_bound_from n [] = None
bad_bound_from n (b ∷ bs) = if is_bound b then bad_bound_from (n + 1) bs else Some n

abbrev pub schema_by : Option ℕ → List (ℤ × ℤ) → Result (List (ℤ × ℤ)) SchemaFault
schema_by None bounds = Ok bounds
schema_by (Some n) bounds = Err (Bound n)

-- the bounds, or why they make no schema
abbrev pub schema_of : List (ℤ × ℤ) → Result (List (ℤ × ℤ)) SchemaFault
schema_of bounds =
    if not (nat_le 1 (length bounds) && nat_le (length bounds) 4) then Err Count
    else schema_by (bad_bound_from 1 bounds) bounds
