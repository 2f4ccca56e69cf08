-- The node's rules around its acceptor: what each answer adds and sends.
use Rattle.std.specs.Prelude.{List, None, Option, Some, [], filter, flat_map, if◌then◌else◌, not, ℕ, ◌==◌, ◌∷◌}
use Rattle.mdcc_base.specs.Ballot.{fast_ballot}
use Rattle.mdcc_base.specs.declared.identifiers.Ballot.{Ballot}
use Rattle.mdcc_base.specs.declared.identifiers.TxId.{TxId}
use Rattle.mdcc_base.specs.declared.key.Key.{Key}
use Rattle.mdcc_option.specs.declared.choices.Choice.{Choice}
use Rattle.mdcc_option.specs.declared.choices.Mark.{Mark}
use Rattle.mdcc_option.specs.declared.choices.Outcome.{Outcome}
use Rattle.mdcc_struct.specs.declared.options.Options.{Options}
use Rattle.mdcc_def_protocol.specs.Acceptor.{new_marks, on_accept, on_prepare, on_propose}
use Rattle.mdcc_def_protocol.specs.Facts.{is_finished, is_settled, outcome_kept, report_of, vote_of}
use Rattle.mdcc_def_protocol.specs.Marks.{is_accept}
use Rattle.mdcc_def_rules.specs.Messages.{to_each, to_one}
use Rattle.mdcc_def_rules.specs.Steps.{NodeStep, adding, nothing_done, sending}
use Rattle.mdcc_def_protocol.specs.Volatile.{Volatile}
use Rattle.mdcc_def_protocol.specs.declared.acceptor.AcceptAnswer.{AcceptAnswer}
use Rattle.mdcc_def_protocol.specs.declared.acceptor.PrepareAnswer.{PrepareAnswer}
use Rattle.mdcc_def_protocol.specs.declared.acceptor.ProposeAnswer.{ProposeAnswer}
use Rattle.mdcc_def_messages.specs.declared.facts.Fact.{Fact}
use Rattle.mdcc_def_messages.specs.declared.messages.Envelope.{Envelope}
use Rattle.mdcc_def_messages.specs.declared.messages.Message.{Message}
use Rattle.mdcc_def_rules.specs.Here.{Here}

-- ---- proposals

-- what the answer to a proposal from s sends to s, and the vote that it adds
abbrev pub proposed_step : ℕ → Volatile → ℕ → Choice → ProposeAnswer → NodeStep
proposed_step me volatile s choice (ProposeAnswer.Known outcome) = sending volatile (to_one me s (Message.Outcome choice.tx outcome))
proposed_step me volatile s choice ProposeAnswer.Finished = sending volatile (to_one me s (Message.Finished choice.tx))
proposed_step me volatile s choice (ProposeAnswer.Again ballot mark) =
    sending volatile (to_one me s (Message.Voted choice.key choice.version ballot choice.tx mark))
proposed_step me volatile s choice (ProposeAnswer.Escalate cause) =
    sending volatile (to_one me s (Message.Escalate choice.key choice.version choice.tx cause))
proposed_step me volatile s choice (ProposeAnswer.Vote mark) =
    adding volatile
    (Fact.Voted choice.key choice.version fast_ballot ((choice.tx, mark) ∷ []) (if is_accept mark then None else Some choice))
    (to_one me s (Message.Voted choice.key choice.version fast_ballot choice.tx mark))

-- a proposal from s
abbrev pub propose_step : Here → Volatile → ℕ → Choice → NodeStep
propose_step here volatile s choice = proposed_step here.me volatile s choice (on_propose here.cluster here.facts choice)

-- ---- promises

-- a promise, with what this node voted in the instance below its ballot
abbrev pub promise_message : List Fact → Key → ℕ → ℕ → Ballot → Message
promise_message facts key version high ballot =
    let report = report_of 0 facts key version ballot in
    Message.Promise key version high ballot report.ballot report.votes

abbrev pub prepared_step : ℕ → List Fact → Volatile → ℕ → Key → ℕ → Ballot → PrepareAnswer → NodeStep
prepared_step me facts volatile l key version ballot (PrepareAnswer.Refused promise) =
    sending volatile (to_one me l (Message.Refused key version ballot promise))
prepared_step me facts volatile l key version ballot (PrepareAnswer.Again high) =
    sending volatile (to_one me l (promise_message facts key version high ballot))
prepared_step me facts volatile l key version ballot (PrepareAnswer.Promise high) =
    adding volatile (Fact.Promised key version high ballot) (to_one me l (promise_message facts key version high ballot))

-- a leader l asks for a promise
abbrev pub prepare_step : ℕ → List Fact → Volatile → ℕ → Key → ℕ → ℕ → Ballot → NodeStep
prepare_step me facts volatile l key version through ballot =
    prepared_step me facts volatile l key version ballot (on_prepare facts key version through ballot)

-- ---- structures

-- a vote goes to the transaction's centre and, if another, to the ballot's
abbrev pub votes_sent : ℕ → Key → ℕ → Ballot → TxId × Mark → List Envelope
votes_sent me key version ballot (tx, mark) =
    let message = Message.Voted key version ballot tx mark in
    to_each (if tx.centre == ballot.centre then tx.centre ∷ [] else tx.centre ∷ ballot.centre ∷ []) me message

-- the votes on these marks, but for those whose transaction was heard or is finished
abbrev pub all_votes_sent : ℕ → List Fact → Key → ℕ → Ballot → Options → List Envelope
all_votes_sent me facts key version ballot options =
    flat_map (votes_sent me key version ballot) (filter (λ e. not (is_settled facts e.0)) options)

-- a vote on marks that are new
abbrev pub voted_marks_step : ℕ → List Fact → Volatile → Key → ℕ → Ballot → Options → NodeStep
voted_marks_step me facts volatile key version ballot marks =
    adding volatile (Fact.Voted key version ballot marks None) (all_votes_sent me facts key version ballot marks)

-- a vote adds the marks that are new; an older structure is answered whole
abbrev pub accepted_step : ℕ → List Fact → Volatile → ℕ → Key → ℕ → Ballot → Options → AcceptAnswer → NodeStep
accepted_step me facts volatile l key version ballot options (AcceptAnswer.Refused promise) =
    sending volatile (to_one me l (Message.Refused key version ballot promise))
accepted_step me facts volatile l key version ballot options (AcceptAnswer.Behind current) = sending volatile (to_one me l (Message.SyncAsk key))
accepted_step me facts volatile l key version ballot options AcceptAnswer.Older =
    sending volatile (all_votes_sent me facts key version ballot options)
accepted_step me facts volatile l key version ballot options AcceptAnswer.Vote =
    voted_marks_step me facts volatile key version ballot (new_marks facts key version ballot options)

-- a leader l asks for votes on a structure
abbrev pub accept_step : ℕ → List Fact → Volatile → ℕ → Key → ℕ → Ballot → Options → NodeStep
accept_step me facts volatile l key version ballot options =
    accepted_step me facts volatile l key version ballot options (on_accept facts key version ballot options)

-- ---- questions

-- by what was voted on the transaction here
abbrev pub ask_step_after : ℕ → Volatile → ℕ → TxId → Key → ℕ → Option (Ballot × Mark) → NodeStep
ask_step_after me volatile s tx key version (Some vote) = sending volatile (to_one me s (Message.Voted key version vote.0 tx vote.1))
ask_step_after me volatile s tx key version None = nothing_done volatile

-- by what is kept of its outcome, and then by whether it is finished
abbrev pub ask_step_by : ℕ → List Fact → Volatile → ℕ → TxId → Key → ℕ → Option Outcome → NodeStep
ask_step_by me facts volatile s tx key version (Some outcome) = sending volatile (to_one me s (Message.Outcome tx outcome))
ask_step_by me facts volatile s tx key version None =
    if is_finished facts tx then sending volatile (to_one me s (Message.Finished tx))
    else ask_step_after me volatile s tx key version (vote_of facts key version tx)

-- a centre s asks for a vote or an outcome
abbrev pub ask_step : ℕ → List Fact → Volatile → ℕ → TxId → Key → ℕ → NodeStep
ask_step me facts volatile s tx key version = ask_step_by me facts volatile s tx key version (outcome_kept facts tx)
