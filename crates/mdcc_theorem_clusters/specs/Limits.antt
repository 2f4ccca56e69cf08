-- How many entries the ledger of an execution may have, and how many steps it may take.
use Rattle.std.specs.Prelude.{List, [], ℕ, ◌*◌, ◌+◌, ◌-◌, ◌^◌, ◌∷◌, ◌≤◌}
use Rattle.mdcc_def_server_runs.specs.Acts.{Act, steps_by}

-- how many steps all centres did together
abbrev pub steps_done : List (ℕ × Act) → ℕ
steps_done [] = 0
steps_done (one ∷ done) = steps_by one.1 + steps_done done

-- A step adds its fact; or it begins a transaction; or at a tick it may send structures: at most 8 for each transaction that is open at its
-- centre, of which there are at most 256, and 8 for each that was begun by any.
abbrev pub most_of_step : ℕ → ℕ
most_of_step steps = 2048 + 8 * steps

-- beside the facts
abbrev pub most_beside : ℕ → ℕ
most_beside steps = steps * most_of_step steps

-- with so few steps no version comes to its end, since a step begins at most one transaction
pub record IsShortRun (done : List (ℕ × Act)) : Type 0 where
  pub steps : steps_done done ≤ 2 ^ 64 - 1
