-- A step that a node takes has room for its fact.
use Rattle.std.proofs.Common.{◌≡◌, ℕ, false, List, sym, ◌∙◌, subst, inl, inr, refl, Option, None, Some, Result, Ok, Err}
use Rattle.std.proofs.lemmas.Bool.{cases_Bool}
use Rattle.mdcc_option.specs.declared.cluster.Cluster.{Cluster}
use Rattle.mdcc_def_ledger.specs.Ledger.{Entry, facts_of}
use Rattle.mdcc_def_protocol.specs.News.{is_crowding}
use Rattle.mdcc_def_rules.specs.Node.{checked_for_room, is_without_room, with_room}
use Rattle.mdcc_def_rules.specs.Steps.{NodeStep}
use Rattle.mdcc_def_messages.specs.declared.facts.Fact.{Fact}
use Rattle.mdcc_def_rules.specs.declared.node.StepFault.{StepFault}
use Rattle.mdcc_theorem_trace_states.specs.Invariant.{IsGood, IsGoodRoomy}

pub checked-good : (also : List Entry → Type 0) (cluster : Cluster) (es : List Entry) (a : ℕ) (r : Result NodeStep StepFault) → IsGoodRoomy cluster also es a r → IsGood cluster also es a (checked_for_room cluster (facts_of es a) r)
checked-good also cluster es a (Err fault) h = tt
checked-good also cluster es a (Ok step) h = by_case step.fact refl
  where
    by_case : (o : Option Fact) → step.fact ≡ o → IsGood cluster also es a (with_room cluster (facts_of es a) step o)
    by_case None e = h (λ fact g b. let bad : None ≡ Some fact = sym e ∙ g in absurd (cc))
    by_case (Some f) e =
        elim (cases_Bool (is_without_room cluster (facts_of es a) f)) [
          | inl n ↦ rw n tt
          | inr n ↦ rw n (elim (cases_Bool (is_crowding (facts_of es a) f)) [
            | inl k ↦ rw k tt
            | inr k ↦ rw k (h (λ fact g b. let s : Some f ≡ Some fact = sym e ∙ g in let r : f ≡ fact = cc in subst (λ z. is_crowding (facts_of es a) z ≡ false) r k))
          ])
        ]
