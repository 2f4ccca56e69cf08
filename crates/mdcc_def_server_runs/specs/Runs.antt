-- The run of one node: what its inputs make it do one after another, by its step alone.
use Rattle.std.specs.Prelude.{Bool, Err, List, None, Ok, Option, Result, Some, [], ℕ, ◌∷◌, ◌++◌}
use Rattle.mdcc_base.specs.declared.identifiers.TxId.{TxId}
use Rattle.mdcc_def_messages.specs.declared.facts.Fact.{Fact}
use Rattle.mdcc_def_messages.specs.declared.messages.Envelope.{Envelope}
use Rattle.mdcc_option.specs.declared.cluster.Cluster.{Cluster}
use Rattle.mdcc_def_protocol.specs.Volatile.{Volatile}
use Rattle.mdcc_def_rules.specs.Node.{step_of}
use Rattle.mdcc_def_rules.specs.Steps.{NodeStep, heard_by, with_new}
use Rattle.mdcc_def_rules.specs.declared.node.Answer.{Answer}
use Rattle.mdcc_def_rules.specs.declared.node.Input.{Input}
use Rattle.mdcc_def_rules.specs.declared.node.StepFault.{StepFault}
use Rattle.mdcc_def_rules.specs.Here.{here}

-- ---- one input

-- a node between two inputs: its facts, the newest first, and what it keeps beside them
pub record NodeState : Type 0 where
  pub facts : List Fact
  pub volatile : Volatile

-- what an input makes it do, or why it is refused
abbrev pub step_on : Cluster → ℕ → NodeState → Input → Result NodeStep StepFault
step_on cluster me node input = step_of (here cluster me node.facts) node.volatile input

-- the node afterwards: a refused input changes nothing
abbrev pub after_step : NodeState → Result NodeStep StepFault → NodeState
after_step node (Ok step) = record { facts = with_new node.facts step.fact; volatile = step.after }
after_step node (Err fault) = node

-- ---- a run

-- what each of the inputs makes it do, or why it is refused
abbrev pub run_of_inputs : Cluster → ℕ → NodeState → List Input → List (Result NodeStep StepFault)
run_of_inputs cluster me node [] = []
run_of_inputs cluster me node (input ∷ inputs) =
    let made = step_on cluster me node input in made ∷ run_of_inputs cluster me (after_step node made) inputs

-- the node after all of them
abbrev pub after_run : Cluster → ℕ → NodeState → List Input → NodeState
after_run cluster me node [] = node
after_run cluster me node (input ∷ inputs) = after_run cluster me (after_step node (step_on cluster me node input)) inputs

-- ---- what it is told

abbrev pub listed : {X : Type 0} → Option X → List X
listed None = []
listed (Some x) = x ∷ []

-- what the steps have of a kind, in order
abbrev pub in_steps : {X : Type 0} → (NodeStep → List X) → List (Result NodeStep StepFault) → List X
in_steps part [] = []
in_steps part (Ok step ∷ made) = part step ++ in_steps part made
in_steps part (Err fault ∷ made) = in_steps part made

-- the facts, oldest first, the messages, the outcomes heard and the answers
abbrev pub facts_added : List (Result NodeStep StepFault) → List Fact
facts_added made = in_steps (λ step. listed step.fact) made

abbrev pub messages_sent : List (Result NodeStep StepFault) → List Envelope
messages_sent made = in_steps (λ step. step.sends) made

abbrev pub outcomes_heard : List (Result NodeStep StepFault) → List (TxId × Bool)
outcomes_heard made = in_steps (λ step. listed (heard_by step.fact)) made

abbrev pub answers_given : List (Result NodeStep StepFault) → List Answer
answers_given made = in_steps (λ step. listed step.answer) made

-- and the refusals
abbrev pub refusals : List (Result NodeStep StepFault) → List StepFault
refusals [] = []
refusals (Ok step ∷ made) = refusals made
refusals (Err fault ∷ made) = fault ∷ refusals made

-- ---- without what is refused

abbrev pub taken_by : Input → Result NodeStep StepFault → List Input → List Input
taken_by input (Ok step) inputs = input ∷ inputs
taken_by input (Err fault) inputs = inputs

-- the inputs that are not refused
abbrev pub inputs_taken : Cluster → ℕ → NodeState → List Input → List Input
inputs_taken cluster me node [] = []
inputs_taken cluster me node (input ∷ inputs) =
    let made = step_on cluster me node input in taken_by input made (inputs_taken cluster me (after_step node made) inputs)
