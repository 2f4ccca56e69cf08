-- An acceptor that would accept each choice of a transaction accepts them in any order.
use Rattle.std.specs.List.{AllByRecursion}
use Rattle.std.specs.Prelude.{Err, List, Ok, Result, false, if◌then◌else◌, map, true, ℕ, ◌++◌, ◌≡◌}
use Rattle.mdcc_base.specs.Key.{key_eq}
use Rattle.mdcc_option.specs.declared.choices.Choice.{Choice}
use Rattle.mdcc_option.specs.declared.choices.Mark.{Mark}
use Rattle.mdcc_option.specs.declared.cluster.Cluster.{Cluster}
use Rattle.mdcc_def_messages.specs.Lengths.{cells_needed}
use Rattle.mdcc_def_messages.specs.declared.facts.Fact.{Fact}
use Rattle.mdcc_def_protocol.specs.Acceptor.{on_propose}
use Rattle.mdcc_def_protocol.specs.Belongs.{choice_belongs, is_centre}
use Rattle.mdcc_def_protocol.specs.Volatile.{Volatile}
use Rattle.mdcc_def_protocol.specs.declared.acceptor.ProposeAnswer.{ProposeAnswer}
use Rattle.mdcc_def_rules.specs.Node.{cells_spare, is_without_room, step_of}
use Rattle.mdcc_def_rules.specs.Steps.{NodeStep, adding}
use Rattle.mdcc_def_rules.specs.declared.node.Input.{Input}
use Rattle.mdcc_def_rules.specs.declared.node.StepFault.{StepFault}
use Rattle.mdcc_theorem_round_trip.specs.Messages.{accepting_fact, proposal_of, vote_of_member}
use Rattle.std.specs.Prelude.{[], ◌∷◌}
use Rattle.mdcc_def_rules.specs.Here.{here}
use Rattle.mdcc_def_protocol.specs.Facts.{is_finished}

-- the acceptor gives a vote to accept the choice
abbrev pub IsAccepted : Cluster → List Fact → Choice → Type 0
IsAccepted cluster facts choice = on_propose cluster facts choice ≡ ProposeAnswer.Vote (Mark.Accept choice)

-- votes to accept choices of other keys and of transactions that are not finished, the newest first, change no answer
abbrev pub OtherKeysChangeNothing : Type 0
OtherKeysChangeNothing =
    (cluster : Cluster) (facts : List Fact) (choice : Choice) (others : List Choice)
    → AllByRecursion (λ other. (key_eq other.key choice.key ≡ false) × (is_finished facts other.tx ≡ false)) others
    → on_propose cluster (map accepting_fact others ++ facts) choice ≡ on_propose cluster facts choice

-- a vote to accept is made durable, and goes back to the centre that proposes
abbrev pub accepting_step : Volatile → ℕ → Choice × ℕ → NodeStep
accepting_step volatile a pair = adding volatile (accepting_fact pair.0) (vote_of_member a pair ∷ [])

-- unless its fact needs more cells than are spare
abbrev pub vote_if_roomy : Cluster → List Fact → Volatile → ℕ → Choice × ℕ → Result NodeStep StepFault
vote_if_roomy cluster facts volatile a pair =
    let fact = accepting_fact pair.0 in
    if is_without_room cluster facts fact then Err (StepFault.NoRoom (cells_needed fact) (cells_spare cluster facts))
    else Ok (accepting_step volatile a pair)

-- the member's step on the proposal
abbrev pub ProposalsGiveVotes : Type 0
ProposalsGiveVotes =
    (cluster : Cluster) (a : ℕ) (facts : List Fact) (volatile : Volatile) (pair : Choice × ℕ)
    → is_centre cluster a ≡ true → choice_belongs cluster pair.0 ≡ true
    → IsAccepted cluster facts pair.0
    → step_of (here cluster pair.1 facts) volatile (Input.Message (proposal_of a pair)) ≡ vote_if_roomy cluster facts volatile a pair
