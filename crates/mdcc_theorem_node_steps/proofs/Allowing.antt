-- Which steps add an allowed fact, told apart from the room of a version.
use Rattle.std.proofs.Common.{◌≡◌, true, false, List, refl, inl, inr, Option, Some, None, Result, Ok, Err}
use Rattle.std.proofs.lemmas.Bool.{cases_Bool}
use Rattle.mdcc_option.specs.declared.cluster.Cluster.{Cluster}
use Rattle.mdcc_def_ledger.specs.BootTest.{is_allowed_fact}
use Rattle.mdcc_def_protocol.specs.News.{is_crowding}
use Rattle.mdcc_def_rules.specs.Node.{checked_for_room, is_without_room, with_room}
use Rattle.mdcc_def_rules.specs.Steps.{NodeStep}
use Rattle.mdcc_def_messages.specs.declared.facts.Fact.{Fact}
use Rattle.mdcc_def_rules.specs.declared.node.StepFault.{StepFault}

-- a new fact is allowed, unless it crowds a version
abbrev pub IsAllowedIf : Cluster → List Fact → Option Fact → Type 0
IsAllowedIf cluster facts None = Unit {0}
IsAllowedIf cluster facts (Some fact) = is_crowding facts fact ≡ false → is_allowed_fact cluster facts fact ≡ true

-- what holds of a step that is made
abbrev pub OnStep : (NodeStep → Type 0) → Result NodeStep StepFault → Type 0
OnStep P (Ok step) = P step
OnStep P (Err fault) = Unit {0}

-- a step that is checked was made, and its fact crowds nothing
pub on_checked : (P Q : NodeStep → Type 0) (cluster : Cluster) (facts : List Fact) (r : Result NodeStep StepFault)
    → ((step : NodeStep) → P step → ((fact : Fact) → step.fact ≡ Some fact → is_crowding facts fact ≡ false) → Q step)
    → OnStep P r → OnStep Q (checked_for_room cluster facts r)
on_checked P Q cluster facts (Err fault) f h = tt
on_checked P Q cluster facts (Ok step) f h = by_fact step.fact refl
  where
    by_fact : (o : Option Fact) → step.fact ≡ o → OnStep Q (with_room cluster facts step o)
    by_fact None e = f step h (λ fact g. absurd (cc))
    by_fact (Some fact) e =
        elim (cases_Bool (is_without_room cluster facts fact)) [
          | inl a ↦ rw a tt
          | inr a ↦ elim (cases_Bool (is_crowding facts fact)) [
            | inl b ↦ rw (a, b) tt
            | inr b ↦ rw (a, b) (f step h (λ other g. let same : fact ≡ other = cc in rw (← same) b))
          ]
        ]
