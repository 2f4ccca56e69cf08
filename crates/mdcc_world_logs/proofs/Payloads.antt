-- How many bytes a log has with one fact more.
use Rattle.std.proofs.Common.{◌≡◌, ◌+◌, ◌∷◌, List, arith}
use Rattle.mdcc_def_messages.specs.Lengths.{fact_length, log_length}
use Rattle.mdcc_def_messages.specs.declared.facts.Fact.{Fact}

pub log-more : (fact : Fact) (facts : List Fact) → log_length (fact ∷ facts) ≡ log_length facts + (5 + fact_length fact)
log-more fact facts = omega arith
