-- The marks of an instance one after the other.
use Rattle.std.specs.List.{fold}
use Rattle.std.specs.Option.{option_and_then, option_map}
use Rattle.std.specs.Prelude.{List, None, Option, find, ℕ}
use Rattle.mdcc_base.specs.declared.identifiers.Ballot.{Ballot}
use Rattle.mdcc_base.specs.declared.identifiers.TxId.{TxId}
use Rattle.mdcc_base.specs.declared.key.Key.{Key}
use Rattle.mdcc_option.specs.declared.choices.Mark.{Mark}
use Rattle.mdcc_def_messages.specs.declared.facts.Fact.{Fact}
use Rattle.mdcc_def_protocol.specs.Facts.{votes_of}
use Rattle.mdcc_def_protocol.specs.Stores.{is_above}
use Rattle.mdcc_theorem_fact_folds.specs.Votes.{least_above, older_mark}

-- the next mark above a transaction, or the first, of the votes at a ballot, with that ballot
abbrev pub next_voted : List Fact → Key → ℕ → Ballot → Option TxId → Option (Ballot × TxId × Mark)
next_voted facts key version ballot last =
    option_map (λ e. (ballot, e.0, e.1)) (find (λ e. is_above last e.0) (votes_of facts key version ballot))

-- the same by walks: a walk for the transaction, and one for its mark
abbrev pub next_marked : Key → ℕ → Ballot → Option TxId → List Fact → Option (Ballot × TxId × Mark)
next_marked key version ballot last chain =
    option_and_then (λ tx. option_map (λ mark. (ballot, tx, mark)) (fold (older_mark key version ballot tx) None chain))
    (fold (least_above key version ballot last) None chain)
