-- What holds of a node whatever comes, and who sent it a message.
use Rattle.std.proofs.Common.{◌≡◌, ℕ, Bool, true, false, List, Some, None, Ok, Err, Result, refl, if◌then◌else◌}
use Rattle.std.specs.Bool.{OnFalse, OnTrue}
use Rattle.mdcc_node.specs.StepAnswers.{OnMemory, UnlessMemory, is_step_memory, step_by, with_store}
use Rattle.mdcc_option.specs.declared.cluster.Cluster.{Cluster}
use Rattle.mdcc_def_rules.specs.Node.{is_own_message, message_step}
use Rattle.mdcc_def_rules.specs.declared.node.Input.{Input}
use Rattle.mdcc_def_protocol.specs.Volatile.{Volatile}
use Rattle.mdcc_def_messages.specs.declared.facts.Fact.{Fact}
use Rattle.mdcc_def_messages.specs.declared.messages.Envelope.{Envelope}
use Rattle.mdcc_def_rules.specs.declared.node.StepFault.{StepFault}
use Rattle.mdcc_def_rules.specs.Here.{here}

-- ---- what holds whatever comes

on_false : (b : Bool) (P : Type 0) → P → OnFalse b P
on_false true P h = tt
on_false false P h = h

on_true : (b : Bool) (P : Type 0) → P → OnTrue b P
on_true true P h = h
on_true false P h = tt

pub left_always : {T : Type 0} (result : Result T StepFault) (P : Type 0) → P → UnlessMemory result P
left_always (Ok x) P h = h
left_always (Err fault) P h = on_false (is_step_memory fault) P h

pub memory_always : {T : Type 0} (result : Result T StepFault) (P : Type 0) → P → OnMemory result P
memory_always (Ok x) P h = tt
memory_always (Err fault) P h = on_true (is_step_memory fault) P h

-- ---- who sent a message

own-by : {X : Type 0} (own : Bool) (sender from : ℕ) (step : ℕ → X) (foreign : X) → Some from ≡ (if own then Some sender else None)
    → (if own then step sender else foreign) ≡ step from
own-by true sender from step foreign e =
    let is : from ≡ sender = cc in
    rw is refl
own-by false sender from step foreign e = absurd (cc)

foreign-by : {X : Type 0} (own : Bool) (sender : ℕ) (step foreign : X) → None ≡ (if own then Some sender else None) → (if own then step else foreign) ≡ foreign
foreign-by true sender step foreign e = absurd (cc)
foreign-by false sender step foreign e = refl

module _ (cells : ℕ) (cluster : Cluster) (me : ℕ) (facts : List Fact) (volatile : Volatile) (envelope : Envelope) where
  -- a message of the cluster to this centre
  pub own_step : (from : ℕ) → Some from ≡ (if is_own_message cluster me envelope then Some envelope.from else None)
      → step_by cells cluster me facts volatile (Input.Message envelope) ≡ with_store cells facts (message_step (here cluster me facts) volatile from envelope.message)
  own_step from e =
      own-by (is_own_message cluster me envelope) envelope.from from (λ s. with_store cells facts (message_step (here cluster me facts) volatile s envelope.message)) (Err StepFault.Foreign) e

  -- any other
  pub foreign_step : None ≡ (if is_own_message cluster me envelope then Some envelope.from else None)
      → step_by cells cluster me facts volatile (Input.Message envelope) ≡ Err StepFault.Foreign
  foreign_step e = foreign-by (is_own_message cluster me envelope) envelope.from _ (Err StepFault.Foreign) e
