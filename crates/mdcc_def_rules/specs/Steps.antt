-- What one input does to a node.
use Rattle.std.specs.Prelude.{Bool, List, None, Option, Some, [], ◌++◌, ◌∷◌}
use Rattle.mdcc_base.specs.declared.identifiers.TxId.{TxId}
use Rattle.mdcc_def_ledger.specs.Ledger.{Entry}
use Rattle.mdcc_def_protocol.specs.Marks.{is_commit}
use Rattle.mdcc_def_protocol.specs.Volatile.{Volatile}
use Rattle.mdcc_def_messages.specs.declared.facts.Fact.{Fact}
use Rattle.mdcc_def_protocol.specs.declared.stores.StoreFault.{StoreFault}
use Rattle.mdcc_def_messages.specs.declared.messages.Envelope.{Envelope}
use Rattle.mdcc_def_rules.specs.declared.node.Answer.{Answer}
use Rattle.mdcc_def_rules.specs.declared.node.Step.{Step}
use Rattle.mdcc_def_rules.specs.declared.node.StepFault.{StepFault}

-- the ledger's entries that no log keeps (the newest first), at most one new fact, the messages in order, the answer, and what is kept afterwards.
-- No step has both such entries and a fact
pub record NodeStep : Type 0 where
  pub entries : List Entry
  pub fact : Option Fact
  pub sends : List Envelope
  pub answer : Option Answer
  pub after : Volatile

-- a part of a step that adds no fact: what is kept afterwards, such entries (the newest first), and the messages in order
pub record StepPart : Type 0 where
  pub after : Volatile
  pub entries : List Entry
  pub sends : List Envelope

-- nothing but these messages
abbrev pub only_sending : Volatile → List Envelope → StepPart
only_sending volatile sends = record { after = volatile; entries = []; sends = sends }

-- one part after another
abbrev pub part_and_then : {X : Type 0} → (Volatile → X → StepPart) → StepPart → X → StepPart
part_and_then act before x =
    let next = act before.after x in
    record { after = next.after; entries = next.entries ++ before.entries; sends = before.sends ++ next.sends }

-- a step that is one part
abbrev pub step_of_part : StepPart → NodeStep
step_of_part part = record { entries = part.entries; fact = None; sends = part.sends; answer = None; after = part.after }

-- nothing but what is kept changes
abbrev pub nothing_done : Volatile → NodeStep
nothing_done volatile = record { entries = []; fact = None; sends = []; answer = None; after = volatile }

abbrev pub sending : Volatile → List Envelope → NodeStep
sending volatile sends = record { entries = []; fact = None; sends = sends; answer = None; after = volatile }

abbrev pub adding : Volatile → Fact → List Envelope → NodeStep
adding volatile fact sends = record { entries = []; fact = Some fact; sends = sends; answer = None; after = volatile }

abbrev pub answering : Volatile → Answer → NodeStep
answering volatile answer = record { entries = []; fact = None; sends = []; answer = Some answer; after = volatile }

-- the outcome that a new fact tells
abbrev pub heard_by : Option Fact → Option (TxId × Bool)
heard_by (Some (Fact.Heard tx outcome)) = Some (tx, is_commit outcome)
heard_by _ = None

-- what a node's caller is given of a step
abbrev pub step_given : NodeStep → Step
step_given step = record { fact = step.fact; sends = step.sends; heard = heard_by step.fact; answer = step.answer }

-- why a step's fact is not taken
abbrev pub store_step_fault : StoreFault → StepFault
store_step_fault (StoreFault.NoRoom needed spare) = StepFault.NoRoom needed spare
store_step_fault StoreFault.Crowded = StepFault.Crowded
store_step_fault StoreFault.Memory = StepFault.Memory

-- the facts with a new one, where there is one
abbrev pub with_new : List Fact → Option Fact → List Fact
with_new facts None = facts
with_new facts (Some fact) = fact ∷ facts
