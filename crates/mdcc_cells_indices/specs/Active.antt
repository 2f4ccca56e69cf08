-- Facts that are more than a rejection at the fast ballot.
use Rattle.std.specs.Prelude.{Bool, length, nat_lt, not, true, ◌||◌}
use Rattle.mdcc_base.specs.Ballot.{ballot_eq, fast_ballot}
use Rattle.mdcc_struct.specs.Options.{accepts_in}
use Rattle.mdcc_def_messages.specs.declared.facts.Fact.{Fact}

-- a vote at a classic ballot, or one with a mark that accepts; any fact but a vote
abbrev pub is_active : Fact → Bool
is_active (Fact.Voted key version ballot options offered) = not (ballot_eq ballot fast_ballot) || nat_lt 0 (length (accepts_in options))
is_active _ = true
