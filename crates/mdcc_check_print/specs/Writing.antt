-- Parts of words that are printed.
use Rattle.std.specs.Prelude.{List, flat_map, ℕ, ℤ, ◌∷◌}
use Rattle.mdcc_sched_words.specs.Spelled.{amount_text}

-- amounts, each behind a comma
abbrev pub more_amounts_text : List (ℕ × ℤ) → List ℕ
more_amounts_text amounts = flat_map (λ amount. 44 ∷ amount_text amount) amounts
