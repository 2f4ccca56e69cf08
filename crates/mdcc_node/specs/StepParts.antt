-- What a step is made of.
use Rattle.std.specs.Prelude.{Bool, Err, List, None, Ok, Option, Result, Some, [], if◌then◌else◌, is_some, not, ◌&&◌, ◌||◌, ◌∷◌}
use Rattle.mdcc_base.specs.Ballot.{fast_ballot}
use Rattle.mdcc_base.specs.declared.identifiers.TxId.{TxId}
use Rattle.mdcc_base.specs.declared.key.Key.{Key}
use Rattle.mdcc_option.specs.declared.choices.Choice.{Choice}
use Rattle.mdcc_option.specs.declared.choices.Mark.{Mark}
use Rattle.mdcc_option.specs.declared.faults.BeginFault.{BeginFault}
use Rattle.mdcc_def_protocol.specs.Facts.{is_finished, is_settled, unresolved_of}
use Rattle.mdcc_def_protocol.specs.Marks.{is_accept}
use Rattle.mdcc_def_messages.specs.declared.facts.Fact.{Fact}
use Rattle.mdcc_def_messages.specs.declared.messages.Envelope.{Envelope}
use Rattle.mdcc_def_rules.specs.declared.node.Answer.{Answer}
use Rattle.mdcc_def_rules.specs.declared.node.Step.{Step}
use Rattle.mdcc_def_rules.specs.declared.node.StepFault.{StepFault}
use Rattle.mdcc_struct.specs.Maps.{value_of}
use Rattle.mdcc_struct.specs.declared.options.Options.{Options}

-- messages and an answer to a client
abbrev pub replied : List Envelope → Answer → Step
replied sends answer = record { fact = None; sends = sends; heard = None; answer = Some answer }

-- what is given where the manager refuses to begin: want of memory is no answer
abbrev pub refused_given : Key → BeginFault → Result Step StepFault
refused_given key BeginFault.Memory = Err StepFault.Memory
refused_given key fault = Ok (replied [] (Answer.Refused key fault))

-- the choice that stands beside a mark: a rejected one
abbrev pub offered : Choice → Mark → Option Choice
offered choice mark = if is_accept mark then None else Some choice

-- the vote of an acceptor on one choice at the fast ballot
abbrev pub vote_fact : Choice → Mark → Fact
vote_fact choice mark = Fact.Voted choice.key choice.version fast_ballot ((choice.tx, mark) ∷ []) (offered choice mark)

-- whether a transaction was not heard and is not finished, and no vote holds a choice of it
abbrev pub is_unknown : List Fact → TxId → Bool
is_unknown facts tx = not (is_settled facts tx) && not (is_some (value_of (unresolved_of facts) tx))

-- whether a transaction has no mark among votes, and is not finished
abbrev pub is_new : List Fact → Options → TxId → Bool
is_new facts votes tx = not (is_some (value_of votes tx) || is_finished facts tx)
