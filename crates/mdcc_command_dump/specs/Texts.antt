-- The lines of a fact.
use Rattle.std.specs.List.{flat_map}
use Rattle.std.specs.Prelude.{List, codes, decimal, length, ℕ, ◌++◌}
use Rattle.mdcc_base.specs.Ballot.{ballot_text}
use Rattle.mdcc_base.specs.TxId.{tx_text}
use Rattle.mdcc_base.specs.declared.identifiers.Ballot.{Ballot}
use Rattle.mdcc_base.specs.declared.identifiers.TxId.{TxId}
use Rattle.mdcc_def_messages.specs.declared.facts.Fact.{Fact}
use Rattle.mdcc_option.specs.declared.choices.Mark.{Mark}
use Rattle.mdcc_option.specs.declared.choices.Outcome.{Outcome}

abbrev pub mark_text : Mark → List ℕ
mark_text (Mark.Accept choice) = codes "accept"
mark_text Mark.Reject = codes "reject"

-- how a transaction ended
abbrev pub end_text : Outcome → List ℕ
end_text (Outcome.Commit choices) = codes "commit"
end_text Outcome.Abort = codes "abort"

-- a line for each mark of a vote
abbrev pub mark_line : ℕ → List ℕ → ℕ → Ballot → TxId × Mark → List ℕ
mark_line number key version ballot (tx, mark) =
    decimal number ++ codes " voted " ++ key ++ codes " " ++ decimal version ++ codes " " ++ ballot_text ballot ++ codes " " ++ tx_text tx ++ codes " " ++ mark_text mark ++ codes "\n"

-- the lines of the fact of this number
abbrev pub dumped_fact_lines : ℕ → Fact → List ℕ
dumped_fact_lines number (Fact.Booted epoch) = decimal number ++ codes " booted " ++ decimal epoch ++ codes "\n"
dumped_fact_lines number (Fact.Promised key low high ballot) =
    decimal number ++ codes " promised " ++ key ++ codes " " ++ decimal low ++ codes " " ++ decimal high ++ codes " " ++ ballot_text ballot ++ codes "\n"
dumped_fact_lines number (Fact.Voted key version ballot options offered) = flat_map (mark_line number key version ballot) options
dumped_fact_lines number (Fact.Heard tx outcome) = decimal number ++ codes " heard " ++ tx_text tx ++ codes " " ++ end_text outcome ++ codes "\n"
dumped_fact_lines number (Fact.Adopted key version item adds) =
    decimal number ++ codes " adopted " ++ key ++ codes " " ++ decimal version ++ codes " adds " ++ decimal (length adds) ++ codes "\n"
dumped_fact_lines number (Fact.Floor centre epoch seq) =
    decimal number ++ codes " floor " ++ decimal centre ++ codes " " ++ decimal epoch ++ codes " " ++ decimal seq ++ codes "\n"
