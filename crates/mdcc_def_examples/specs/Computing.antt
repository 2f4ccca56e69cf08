-- What lets printed numbers compute. std keeps the digits of a number closed: a proof that opens a definition of ours
-- which opened them opens them too, so the examples name this one in their `tactic` line.
use Rattle.std.specs.Prelude.{ℕ}
use Rattle.std.specs.Fmt.{digits}

-- no more than a name: its value is never used
unfoldable pub decimals : ℕ
unfolding digits
decimals = 0
