-- Parts of the lines of a report.
use Rattle.std.specs.Prelude.{ℕ, ℤ, List, ◌∷◌, ◌++◌, codes, decimal}
use Rattle.std.specs.Fmt.{signed_decimal}
use Rattle.std.specs.List.{flat_map}

-- centres, each behind a space
abbrev pub centres_text : List ℕ → List ℕ
centres_text centres = flat_map (λ centre. codes " " ++ decimal centre) centres

-- values, each behind a comma
abbrev pub more_values_text : List ℤ → List ℕ
more_values_text values = flat_map (λ value. 44 ∷ signed_decimal value) values
