-- What a node's rule plans: a step whose fact is not added yet.
use Rattle.std.specs.Prelude.{◌≡◌, ◌≤◌, ◌∷◌, ◌++◌, Bool, Err, List, None, Ok, Option, Result, Some, [], false, if◌then◌else◌, true, ⊤, ℕ}
use Rattle.mdcc_base.specs.Unless.{GivesUnless}
use Rattle.mdcc_base.specs.declared.identifiers.Ballot.{Ballot}
use Rattle.mdcc_base.specs.declared.identifiers.TxId.{TxId}
use Rattle.mdcc_base.specs.declared.key.Key.{Key}
use Rattle.mdcc_facts.specs.Adding.{is_heard_before, is_promised_before, is_voted_before, offers_unmarked, tells_of_finished}
use Rattle.mdcc_def_messages.specs.Lengths.{fact_length}
use Rattle.mdcc_def_messages.specs.WellFormed.{IsWellFormedFact}
use Rattle.mdcc_def_messages.specs.declared.facts.Fact.{Fact}
use Rattle.mdcc_def_messages.specs.declared.messages.Envelope.{Envelope}
use Rattle.mdcc_def_messages.specs.declared.messages.Message.{Message}
use Rattle.mdcc_node.specs.MethodEffects.{Rule}
use Rattle.mdcc_node.specs.Represents.{RepresentsCentre}
use Rattle.mdcc_node.specs.StepAnswers.{UnlessMemory, is_step_memory}
use Rattle.mdcc_node.specs.declared.node.Node.{Node}
use Rattle.mdcc_option.specs.declared.choices.Mark.{Mark}
use Rattle.mdcc_option.specs.declared.cluster.Cluster.{Cluster}
use Rattle.mdcc_def_protocol.specs.Facts.{epoch_of, is_floor, is_settled}
use Rattle.mdcc_def_protocol.specs.Volatile.{Volatile}
use Rattle.mdcc_def_protocol.specs.declared.leader.LeadFault.{LeadFault}
use Rattle.mdcc_def_rules.specs.AcceptorRules.{votes_sent}
use Rattle.mdcc_def_rules.specs.Steps.{NodeStep}
use Rattle.mdcc_def_rules.specs.declared.node.Step.{Step}
use Rattle.mdcc_def_rules.specs.declared.node.StepFault.{StepFault}

-- ---- what is written

-- nothing yet
abbrev pub blank : Step
blank = record { fact = None; sends = []; heard = None; answer = None }

-- what a rule writes. What was heard is told once the fact is added
abbrev pub planned : NodeStep → Step
planned step = record { fact = step.fact; sends = step.sends; heard = None; answer = step.answer }

abbrev pub plan_of : Result NodeStep StepFault → Result Step StepFault
plan_of (Ok step) = Ok (planned step)
plan_of (Err fault) = Err fault

-- what was written, where there is no refusal
abbrev pub unless_refused : {T : Type 0} → Result (Unit {0}) StepFault → T → Result T StepFault
unless_refused (Ok done) x = Ok x
unless_refused (Err fault) x = Err fault

-- messages behind others
abbrev pub sends_after : List Envelope → Result NodeStep StepFault → Result (List Envelope) StepFault
sends_after sends (Ok step) = Ok (sends ++ step.sends)
sends_after sends (Err fault) = Err fault

-- ---- which message

-- whether a message is of the fast path, on which options are proposed, voted and decided
abbrev pub is_of_fast_path : Message → Bool
is_of_fast_path (Message.Propose choice) = true
is_of_fast_path (Message.Voted key version ballot tx mark) = true
is_of_fast_path (Message.Escalate key version tx cause) = true
is_of_fast_path (Message.Outcome tx outcome) = true
is_of_fast_path _ = false

-- whether a leader asks for a promise or for votes with it
abbrev pub is_asked_by_leader : Message → Bool
is_asked_by_leader (Message.Prepare key version through ballot) = true
is_asked_by_leader (Message.Accept key version ballot options) = true
is_asked_by_leader _ = false

-- whether a leader is asked, or answered
abbrev pub is_for_leader : Message → Bool
is_for_leader (Message.Lead choice) = true
is_for_leader (Message.Promise key version through ballot reported votes) = true
is_for_leader (Message.Refused key version ballot promised) = true
is_for_leader _ = false

-- ---- what is left out

-- at a tick a claim that is refused is left out, but for want of memory
abbrev pub left_out : LeadFault → Result (Unit {0}) StepFault
left_out LeadFault.Memory = Err StepFault.Memory
left_out fault = Ok tt

-- a vote, but for a transaction that was heard or is finished
abbrev pub unsettled_sent : ℕ → List Fact → Key → ℕ → Ballot → TxId × Mark → List Envelope
unsettled_sent me facts key version ballot e = if is_settled facts e.0 then [] else votes_sent me key version ballot e

-- ---- what is kept

-- as long as its fact is not added a step has changed nothing
abbrev pub kept_by : Volatile → Volatile → Option Fact → Volatile
kept_by volatile after None = after
kept_by volatile after (Some fact) = volatile

abbrev pub volatile_kept : Volatile → Result NodeStep StepFault → Volatile
volatile_kept volatile (Ok step) = kept_by volatile step.after step.fact
volatile_kept volatile (Err fault) = volatile

-- a fact says nothing a second time and nothing of a finished transaction, offers only what it marks, and sets no floor
pub record IsNews (facts : List Fact) (fact : Fact) : Type 0 where
  pub promised : is_promised_before facts fact ≡ false
  pub voted : is_voted_before facts fact ≡ false
  pub heard : is_heard_before facts fact ≡ false
  pub unfinished : tells_of_finished facts fact ≡ false
  pub marked : offers_unmarked fact ≡ false
  pub no_floor : is_floor fact ≡ false

-- a planned fact is news, and no boot
abbrev pub MayFollow : List Fact → Option Fact → Type 0
MayFollow facts None = ⊤
MayFollow facts (Some fact) = IsNews facts fact × (epoch_of (fact ∷ facts) ≡ epoch_of facts)

-- a fact is well-formed, and has at most as many bytes as a frame of a log holds
abbrev pub FitsFrame : Fact → Type 0
FitsFrame fact = IsWellFormedFact fact × (fact_length fact ≤ 2097152)

abbrev pub PlanFitsFrame : Option Fact → Type 0
PlanFitsFrame None = ⊤
PlanFitsFrame (Some fact) = FitsFrame fact

-- ---- what a method does

-- what it wrote and what the node keeps are those of the rule, where memory does not lack; the facts are as before
pub record Plans {S : Type 0} (stands : S → List Fact → Type 0) (before : Node S) (result : Result Step StepFault) (after : Node S) (rule : Rule) : Type 0 where
  pub answer : (cluster : Cluster) (me : ℕ) (facts : List Fact) (volatile : Volatile) → RepresentsCentre stands before cluster me facts volatile
      → GivesUnless is_step_memory result (plan_of (rule cluster me facts volatile))
  pub left : (cluster : Cluster) (me : ℕ) (facts : List Fact) (volatile : Volatile) → RepresentsCentre stands before cluster me facts volatile
      → UnlessMemory result (RepresentsCentre stands after cluster me facts (volatile_kept volatile (rule cluster me facts volatile)))
  pub store : after.store ≡ before.store

-- the same of a rule that adds no fact and answers no client: it sends messages after those before
pub record Acts {S : Type 0} (stands : S → List Fact → Type 0) (before : Node S) (sends : List Envelope) (result : Result (List Envelope) StepFault) (after : Node S) (rule : Rule) : Type 0 where
  pub answer : (cluster : Cluster) (me : ℕ) (facts : List Fact) (volatile : Volatile) → RepresentsCentre stands before cluster me facts volatile
      → GivesUnless is_step_memory result (sends_after sends (rule cluster me facts volatile))
  pub left : (cluster : Cluster) (me : ℕ) (facts : List Fact) (volatile : Volatile) → RepresentsCentre stands before cluster me facts volatile
      → UnlessMemory result (RepresentsCentre stands after cluster me facts (volatile_kept volatile (rule cluster me facts volatile)))
  pub store : after.store ≡ before.store
