-- The statuses of the program.
use Rattle.std.specs.Prelude.{Bool, [], ℕ, ◌==◌, ◌∷◌}
use Rattle.std.specs.List.{list_any}

-- done; other words; a configuration, a header or a centre that is refused; a line; input, output, disk and link that failed; a log
-- that is none; memory; a limit; epochs; a history that is not right, or logs that contradict each other
abbrev pub is_program_status : ℕ → Bool
is_program_status status = list_any (λ s. s == status) (0 ∷ 2 ∷ 3 ∷ 4 ∷ 5 ∷ 6 ∷ 7 ∷ 8 ∷ 9 ∷ 10 ∷ 11 ∷ 12 ∷ 13 ∷ [])
