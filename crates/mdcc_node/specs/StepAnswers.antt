-- What a node answers to an input over a store with so many cells, and what it is afterwards.
use Rattle.std.specs.Bool.{OnFalse, OnTrue}
use Rattle.std.specs.Prelude.{Bool, Err, List, None, Ok, Option, Result, Some, false, if◌then◌else◌, true, ⊤, ℕ, ◌-◌, ◌≤◌}
use Rattle.mdcc_facts.specs.Adding.{add_result}
use Rattle.mdcc_option.specs.declared.cluster.Cluster.{Cluster}
use Rattle.mdcc_def_messages.specs.Lengths.{cells_needed}
use Rattle.mdcc_def_protocol.specs.Cells.{cells_held}
use Rattle.mdcc_def_rules.specs.Node.{is_own_message, message_step, step_of}
use Rattle.mdcc_def_rules.specs.Steps.{NodeStep, heard_by, store_step_fault, step_given, with_new}
use Rattle.mdcc_def_protocol.specs.Volatile.{Volatile}
use Rattle.mdcc_def_messages.specs.declared.facts.Fact.{Fact}
use Rattle.mdcc_def_protocol.specs.declared.stores.StoreFault.{StoreFault}
use Rattle.mdcc_def_rules.specs.declared.node.Input.{Input}
use Rattle.mdcc_def_rules.specs.declared.node.Step.{Step}
use Rattle.mdcc_def_rules.specs.declared.node.StepFault.{StepFault}
use Rattle.mdcc_theorem_node_steps.specs.NodeInvariant.{accept_length_in}
use Rattle.mdcc_theorem_node_steps.specs.Inputs.{IsWellFormedInput}
use Rattle.mdcc_def_rules.specs.Here.{here}

-- ---- the store's cells

-- what a store with so many cells answers to a fact
abbrev pub store_result : ℕ → List Fact → Fact → Result (Unit {0}) StoreFault
store_result cells facts fact = add_result (cells - cells_held facts) (cells_needed fact) facts fact

-- the step, where the store takes its fact
abbrev pub if_added : NodeStep → Result (Unit {0}) StoreFault → Result NodeStep StepFault
if_added step (Ok _) = Ok step
if_added step (Err fault) = Err (store_step_fault fault)

abbrev pub if_fact_added : ℕ → List Fact → NodeStep → Option Fact → Result NodeStep StepFault
if_fact_added cells facts step None = Ok step
if_fact_added cells facts step (Some fact) = if_added step (store_result cells facts fact)

abbrev pub with_store : ℕ → List Fact → Result NodeStep StepFault → Result NodeStep StepFault
with_store cells facts (Err fault) = Err fault
with_store cells facts (Ok step) = if_fact_added cells facts step step.fact

-- ---- the step

-- what an input does at a node over such a store
abbrev pub step_by : ℕ → Cluster → ℕ → List Fact → Volatile → Input → Result NodeStep StepFault
step_by cells cluster me facts volatile (Input.Message envelope) =
    if is_own_message cluster me envelope
    then with_store cells facts (message_step (here cluster me facts) volatile envelope.from envelope.message)
    else Err StepFault.Foreign
step_by cells cluster me facts volatile input = step_of (here cluster me facts) volatile input

-- what the caller is given
abbrev pub step_result : Result NodeStep StepFault → Result Step StepFault
step_result (Ok step) = Ok (step_given step)
step_result (Err fault) = Err fault

-- a refusal of the store is the step's
abbrev pub add_given : Result (Unit {0}) StoreFault → Result (Unit {0}) StepFault
add_given (Ok done) = Ok done
add_given (Err fault) = Err (store_step_fault fault)

-- a planned step, where the store takes its fact
abbrev pub step_if : Step → Fact → Result (Unit {0}) StoreFault → Result Step StepFault
step_if step fact (Ok _) = Ok (record step { heard = heard_by (Some fact) })
step_if step fact (Err fault) = Err (store_step_fault fault)

abbrev pub if_plan_added : ℕ → List Fact → Step → Option Fact → Result Step StepFault
if_plan_added cells facts step None = Ok step
if_plan_added cells facts step (Some fact) = step_if step fact (store_result cells facts fact)

-- ---- what is left

abbrev pub is_step_memory : StepFault → Bool
is_step_memory StepFault.Memory = true
is_step_memory _ = false

abbrev pub facts_left : List Fact → Result NodeStep StepFault → List Fact
facts_left facts (Ok step) = with_new facts step.fact
facts_left facts (Err fault) = facts

abbrev pub volatile_left : Volatile → Result NodeStep StepFault → Volatile
volatile_left volatile (Ok step) = step.after
volatile_left volatile (Err fault) = volatile

-- what holds of every answer but that there was no memory
abbrev pub UnlessMemory : {T : Type 0} → Result T StepFault → Type 0 → Type 0
UnlessMemory (Ok x) P = P
UnlessMemory (Err fault) P = OnFalse (is_step_memory fault) P

-- what holds where there was none
abbrev pub OnMemory : {T : Type 0} → Result T StepFault → Type 0 → Type 0
OnMemory (Ok x) P = ⊤
OnMemory (Err fault) P = OnTrue (is_step_memory fault) P

-- ---- inputs

-- an input is well-formed, and an Accept has at most as many bytes as a frame of a log holds
abbrev pub IsInputGiven : Input → Type 0
IsInputGiven input = IsWellFormedInput input × (accept_length_in input ≤ 2097152)
