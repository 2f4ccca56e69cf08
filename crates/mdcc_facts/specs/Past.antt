-- Which marks of a structure are past: those that were voted, and those of finished transactions, which may be forgotten.
use Rattle.std.specs.Prelude.{Bool, List, is_some, ℕ, ◌||◌}
use Rattle.mdcc_base.specs.Counts.{number_of}
use Rattle.mdcc_base.specs.declared.identifiers.Ballot.{Ballot}
use Rattle.mdcc_base.specs.declared.identifiers.TxId.{TxId}
use Rattle.mdcc_base.specs.declared.key.Key.{Key}
use Rattle.mdcc_struct.specs.Maps.{value_of}
use Rattle.mdcc_struct.specs.declared.options.Options.{Options}
use Rattle.mdcc_def_protocol.specs.Facts.{is_finished, votes_of}
use Rattle.mdcc_def_messages.specs.declared.facts.Fact.{Fact}

-- whether a transaction was voted in an instance at a ballot, or is finished
abbrev pub is_past_mark : List Fact → Key → ℕ → Ballot → TxId → Bool
is_past_mark facts key version ballot tx = is_some (value_of (votes_of facts key version ballot) tx) || is_finished facts tx

-- how many transactions of a structure were or are
abbrev pub count_past : List Fact → Key → ℕ → Ballot → Options → ℕ
count_past facts key version ballot options = number_of (λ e. is_past_mark facts key version ballot e.0) options
