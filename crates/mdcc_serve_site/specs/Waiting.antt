-- Whether more waits at a centre, by what is known of its link.
use Rattle.std.specs.Prelude.{Bool, None, Option, Some, false, true, ℕ, ◌&&◌, ◌+◌, ◌≡◌}

-- it is known that nothing waits there
abbrev pub knows_none : Option Bool → Bool
knows_none None = false
knows_none (Some true) = false
knows_none (Some false) = true

-- A datagram is said to wait only where it is not known that none does at either endpoint of the centre.
abbrev pub MayWait : (ℕ → Option Bool) → ℕ → Bool → Type 0
MayWait waiting centre waits = waits ≡ true → (knows_none (waiting centre) && knows_none (waiting (centre + 16))) ≡ false
