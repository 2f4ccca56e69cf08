-- Facts stay within the cells of a node.
use Rattle.std.proofs.Common.{◌≡◌, ℕ, ◌+◌, ◌-◌, ◌≤◌, false, List, ◌∷◌, refl, Option, Some, None, Result, Ok, Err, arith}
use Rattle.std.proofs.lemmas.Bool.{cond_both, ltb-false}
use Rattle.mdcc_base.specs.declared.key.Key.{Key}
use Rattle.mdcc_option.specs.declared.cluster.Cluster.{Cluster}
use Rattle.mdcc_option.specs.declared.faults.BeginFault.{BeginFault}
use Rattle.mdcc_option.specs.declared.items.Part.{Part}
use Rattle.mdcc_def_protocol.specs.Facts.{epoch_of}
use Rattle.mdcc_def_messages.specs.Lengths.{cells_needed, fact_length}
use Rattle.mdcc_def_protocol.specs.Manager.{begin_with, begin_fault}
use Rattle.mdcc_def_rules.specs.ManagerRules.{begin_step_by}
use Rattle.mdcc_def_protocol.specs.News.{is_crowding}
use Rattle.mdcc_def_rules.specs.Node.{cells_spare, checked_for_room, is_own_message, is_without_room, message_step, step_of, with_room}
use Rattle.mdcc_def_rules.specs.Steps.{NodeStep, with_new}
use Rattle.mdcc_def_protocol.specs.Volatile.{Volatile}
use Rattle.mdcc_def_messages.specs.declared.facts.Fact.{Fact}
use Rattle.mdcc_def_rules.specs.declared.node.Input.{Input}
use Rattle.mdcc_def_rules.specs.declared.node.StepFault.{StepFault}
use Rattle.mdcc_theorem_node_steps.proofs.Allowing.{OnStep}
use Rattle.mdcc_theorem_node_steps.proofs.Stepping.{on_made}
use Rattle.mdcc_def_rules.specs.Here.{here}
use Rattle.mdcc_def_protocol.specs.Cells.{cells_held}
use Rattle.std.specs.Int.{div_ceil}
use Rattle.mdcc_theorem_node_steps.specs.NodeInvariant.{FitInTurn}

some-byte : (fact : Fact) → 1 ≤ fact_length fact
some-byte (Fact.Booted epoch) = omega arith
some-byte (Fact.Promised key low high ballot) = omega arith
some-byte (Fact.Voted key version ballot options offered) = omega arith
some-byte (Fact.Heard tx outcome) = omega arith
some-byte (Fact.Adopted key version item adds) = omega arith
some-byte (Fact.Floor origin era upto) = omega arith

-- a fact needs a cell
some-cell : (fact : Fact) → 1 ≤ cells_needed fact
some-cell fact = whole (fact_length fact) (some-byte fact)
  where
    whole : (n : ℕ) → 1 ≤ n → 1 ≤ div_ceil n 60
    whole n h = omega (arith, h)

module _ (cluster : Cluster) (me : ℕ) (facts : List Fact) (volatile : Volatile) (before : FitInTurn cluster facts) where
  abbrev pub IsWithin : NodeStep → Type 0
  IsWithin step = FitInTurn cluster (with_new facts step.fact)

  fits : (fact : Fact) → is_without_room cluster facts fact ≡ false → FitInTurn cluster (fact ∷ facts)
  fits fact h =
      let spare = ltb-false (cluster.cells - cells_held facts) (cells_needed fact) h in (before, sum (cells_needed fact) (cells_held facts) cluster.cells (some-cell fact) spare)
    where
      sum : (a b c : ℕ) → 1 ≤ a → a ≤ c - b → b + a ≤ c
      sum a b c h k = omega (arith, h, k)

  within-room : (step : NodeStep) (o : Option Fact) → step.fact ≡ o → OnStep IsWithin (with_room cluster facts step o)
  within-room step None e = rw e before
  within-room step (Some fact) e =
      cond_both (is_without_room cluster facts fact) (Err (StepFault.NoRoom (cells_needed fact) (cells_spare cluster facts))) _ (OnStep IsWithin) (λ a. tt)
      (λ a. cond_both (is_crowding facts fact) (Err StepFault.Crowded) (Ok step) (OnStep IsWithin) (λ b. tt) (λ b. rw e (fits fact a)))

  within-checked : (r : Result NodeStep StepFault) → OnStep IsWithin (checked_for_room cluster facts r)
  within-checked (Err fault) = tt
  within-checked (Ok step) = within-room step step.fact refl

  within-begun : (parts : List Part) (fault : Option (Key × BeginFault)) → IsWithin (begin_step_by (here cluster me facts) volatile parts (begin_with me (epoch_of facts) volatile.manager parts fault))
  within-begun parts (Some fault) = before
  within-begun parts None = before

  within : (input : Input) → OnStep IsWithin (step_of (here cluster me facts) volatile input)
  within (Input.Message envelope) =
      cond_both (is_own_message cluster me envelope) (checked_for_room cluster facts (message_step (here cluster me facts) volatile envelope.from envelope.message)) (Err StepFault.Foreign) (OnStep IsWithin)
      (λ e. within-checked (message_step (here cluster me facts) volatile envelope.from envelope.message)) (λ e. tt)
  within Input.Tick = before
  within Input.Sweep = before
  within (Input.Read key) = before
  within (Input.Begin parts) = within-begun parts (begin_fault facts volatile.manager parts)

pub room-stays : (cluster : Cluster) (me : ℕ) (facts : List Fact) (volatile : Volatile) (input : Input) (step : NodeStep) → FitInTurn cluster facts
    → step_of (here cluster me facts) volatile input ≡ Ok step → FitInTurn cluster (with_new facts step.fact)
room-stays cluster me facts volatile input step before made =
    on_made (IsWithin cluster me facts volatile before) _ step (within cluster me facts volatile before input) made
