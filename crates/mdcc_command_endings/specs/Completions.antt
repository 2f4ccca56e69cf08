-- How a command ends where nothing failed.
use Rattle.std.specs.Prelude.{ℕ, ◌≡◌, ◌⊎◌}
use Rattle.mdcc_base.specs.Causes.{Rose}

-- a count of faults did not rise
abbrev pub IsStill : ℕ → ℕ → Type 0
IsStill before now = Rose before now → ⊥

-- it did all, or there was no memory, or a limit was reached
abbrev pub CompletesAs : ℕ → Type 0 → Type 0 → Type 0
CompletesAs status whole limit = ((status ≡ 0) × whole) ⊎ ((status ≡ 10) ⊎ ((status ≡ 11) × limit))
