-- A tick leads each of its claims.
use Rattle.std.specs.Prelude.{List, Ok, [], ℕ, ⊤, ◌∷◌, ◌≡◌}
use Rattle.mdcc_option.specs.declared.choices.Claim.{Claim}
use Rattle.mdcc_option.specs.declared.cluster.Cluster.{Cluster}
use Rattle.mdcc_def_messages.specs.declared.facts.Fact.{Fact}
use Rattle.mdcc_def_protocol.specs.Leader.{claim_of_choice}
use Rattle.mdcc_def_protocol.specs.Manager
use Rattle.mdcc_def_protocol.specs.Recover
use Rattle.mdcc_def_protocol.specs.Volatile.{Managing, Recovering, Volatile, txs_opened, with_manager, with_recovery}
use Rattle.mdcc_def_protocol.specs.declared.manager.ManagerAct.{ManagerAct}
use Rattle.mdcc_def_protocol.specs.declared.recover.RecoverAct.{RecoverAct}
use Rattle.mdcc_def_rules.specs.LeaderRules.{led_of}
use Rattle.mdcc_def_rules.specs.Steps.{StepPart, only_sending, part_and_then}
use Rattle.mdcc_def_rules.specs.TickRules.{manager_act, manager_ticked, recovery_act}
use Rattle.mdcc_def_rules.specs.Here.{here}

-- the leader does not refuse the claim
abbrev pub IsLed : Cluster → ℕ → List Fact → Volatile → Claim → Type 0
IsLed cluster me facts volatile claim = (part : StepPart) × (led_of (here cluster me facts) volatile claim ≡ Ok part)

-- so it is with the claim of an act for an open transaction
abbrev pub IsOpenLed : Cluster → ℕ → List Fact → Volatile → ManagerAct → Type 0
IsOpenLed cluster me facts volatile (ManagerAct.LeadHere choice) = IsLed cluster me facts volatile (claim_of_choice choice)
IsOpenLed cluster me facts volatile act = ⊤

-- and with that of an act for a dangling one
abbrev pub IsDanglingLed : Cluster → ℕ → List Fact → Volatile → RecoverAct → Type 0
IsDanglingLed cluster me facts volatile (RecoverAct.LeadHere claim) = IsLed cluster me facts volatile claim
IsDanglingLed cluster me facts volatile (RecoverAct.Ask tx key version) = ⊤

-- it holds of each act, over what the earlier ones leave
abbrev pub InTurn : {X : Type 0} → (Volatile → X → Type 0) → (Volatile → X → StepPart) → StepPart → List X → Type 0
InTurn P act before [] = ⊤
InTurn P act before (x ∷ xs) = P before.after x × InTurn P act (part_and_then act before x) xs

abbrev pub AreOpenLed : Cluster → ℕ → List Fact → Volatile → List ManagerAct × Managing → Type 0
AreOpenLed cluster me facts volatile (acts, manager) =
    InTurn (IsOpenLed cluster me facts) (manager_act (here cluster me facts)) (only_sending (with_manager volatile manager) []) acts

abbrev pub AreDanglingLed : Cluster → ℕ → List Fact → StepPart → List RecoverAct × Recovering → Type 0
AreDanglingLed cluster me facts first (acts, recovery) =
    InTurn (IsDanglingLed cluster me facts) (recovery_act (here cluster me facts)) (record first { after = with_recovery first.after recovery }) acts

-- a tick leads all claims of its two halves: those of the second over what the first one leaves
pub record AreClaimsLed (cluster : Cluster) (me : ℕ) (facts : List Fact) (volatile : Volatile) : Type 0 where
  pub opened : AreOpenLed cluster me facts volatile (Manager.tick cluster.quorums volatile.manager)
  pub dangling : (first : StepPart) → first ≡ manager_ticked (here cluster me facts) volatile
      → AreDanglingLed cluster me facts first (Recover.tick cluster.quorums facts first.after.recovery (txs_opened first.after.manager))
