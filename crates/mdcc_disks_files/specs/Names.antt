-- The names of the files.
use Rattle.std.specs.Prelude.{List, None, Option, Some, codes, decimal, if◌then◌else◌, nat_le, ℕ, ◌&&◌, ◌++◌, ◌-◌}

abbrev pub name_with : ℕ → List ℕ → List ℕ
name_with centre ending = codes "mdcc-" ++ decimal centre ++ ending

-- disk K has the first area of centre K, and disk 16 + K the second one
abbrev pub name_of : ℕ → Option (List ℕ)
name_of place =
    if nat_le 1 place && nat_le place 9 then Some (name_with place (codes ".log"))
    else (if nat_le 17 place && nat_le place 25 then Some (name_with (place - 16) (codes ".alt")) else None)
