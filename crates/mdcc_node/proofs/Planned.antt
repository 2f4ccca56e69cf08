-- What a planned step is once its fact is added.
use Rattle.std.proofs.Common.{◌≡◌, ℕ, Bool, true, false, List, [], ◌∷◌, Option, Some, None, Ok, Err, Result, refl, inl, inr}
use Rattle.std.specs.Bool.{OnTrue}
use Rattle.std.specs.Prelude.{OnErr, OnOk, ⊤}
use Rattle.std.proofs.lemmas.Bool.{cases_Bool}
use Rattle.mdcc_base.specs.Unless.{GivesUnless}
use Rattle.mdcc_def_messages.specs.declared.facts.Fact.{Fact}
use Rattle.mdcc_def_messages.specs.declared.messages.Envelope.{Envelope}
use Rattle.mdcc_node.specs.MethodEffects.{closed_if_ended}
use Rattle.mdcc_node.specs.StepPlans.{FitsFrame, PlanFitsFrame, kept_by, plan_of, planned, sends_after, unless_refused, volatile_kept}
use Rattle.mdcc_node.specs.Represents.{RepresentsAfter, RepresentsCentre}
use Rattle.mdcc_node.specs.StepAnswers.{OnMemory, UnlessMemory, step_result, if_added, is_step_memory, step_if, store_result, if_plan_added, if_fact_added, with_store}
use Rattle.mdcc_node.specs.declared.node.Node.{Node}
use Rattle.mdcc_option.specs.declared.cluster.Cluster.{Cluster}
use Rattle.mdcc_def_protocol.specs.Volatile.{Volatile}
use Rattle.mdcc_def_protocol.specs.declared.stores.StoreFault.{StoreFault}
use Rattle.mdcc_def_rules.specs.Steps.{NodeStep, heard_by, with_new}
use Rattle.mdcc_def_rules.specs.declared.node.Step.{Step}
use Rattle.mdcc_def_rules.specs.declared.node.StepFault.{StepFault}

-- ---- the end of a transaction closes it

-- a step that adds a fact changes nothing but what the fact ends
abbrev pub Ends : Volatile → Volatile → Option Fact → Type 0
Ends volatile after None = ⊤
Ends volatile after (Some fact) = after ≡ closed_if_ended (heard_by (Some fact)) volatile

abbrev pub EndsIn : Volatile → Result NodeStep StepFault → Type 0
EndsIn volatile (Ok step) = Ends volatile step.after step.fact
EndsIn volatile (Err fault) = ⊤

-- ---- what is given

taken-if : (step : NodeStep) (fact : Fact) (answer : Result (Unit {0}) StoreFault) → step.fact ≡ Some fact
    → step_result (if_added step answer) ≡ step_if (planned step) fact answer
taken-if step fact (Ok done) e = rw e refl
taken-if step fact (Err fault) e = refl

taken : (cells : ℕ) (facts : List Fact) (step : NodeStep) (fact : Option Fact) → step.fact ≡ fact
    → step_result (if_fact_added cells facts step fact) ≡ if_plan_added cells facts (planned step) fact
taken cells facts step None e = rw e refl
taken cells facts step (Some fact) e = taken-if step fact (store_result cells facts fact) e

-- the store takes a planned step as it takes the rule's
pub plan-given : (cells : ℕ) (facts : List Fact) (plan : Step) (expected : Result NodeStep StepFault) → Ok plan ≡ plan_of expected
    → step_result (with_store cells facts expected) ≡ if_plan_added cells facts plan plan.fact
plan-given cells facts plan (Err fault) e = absurd (cc)
plan-given cells facts plan (Ok step) e =
    let is : plan ≡ planned step = cc in
    rw is (taken cells facts step step.fact refl)

-- the fact of a planned step is the rule's
plan-fits-by : (step : NodeStep) (fact : Option Fact) → ((other : Fact) → fact ≡ Some other → FitsFrame other) → PlanFitsFrame fact
plan-fits-by step None h = tt
plan-fits-by step (Some fact) h = h fact refl

pub plan-fits : (plan : Step) (expected : Result NodeStep StepFault) → Ok plan ≡ plan_of expected
    → ((step : NodeStep) (fact : Fact) → expected ≡ Ok step → step.fact ≡ Some fact → FitsFrame fact) → PlanFitsFrame plan.fact
plan-fits plan (Err fault) e h = absurd (cc)
plan-fits plan (Ok step) e h =
    let is : plan ≡ planned step = cc in
    rw is (plan-fits-by step step.fact (λ fact fits. h step fact refl fits))

-- a rule's refusal is the step's
pub fault-given : (cells : ℕ) (facts : List Fact) (fault : StepFault) (expected : Result NodeStep StepFault)
    → GivesUnless {T = Step} is_step_memory (Err fault) (plan_of expected) → GivesUnless {T = Step} is_step_memory (Err fault) (step_result (with_store cells facts expected))
fault-given cells facts fault (Err other) e = e
fault-given cells facts fault (Ok step) e =
    elim (cases_Bool (is_step_memory fault)) [
      | inl free ↦ rw free tt
      | inr not ↦ absurd (let bad : Err fault ≡ Ok (planned step) = rw not at e in cc)
    ]

-- ---- what is left

module _ {S : Type 0} (stands : S → List Fact → Type 0) (node : Node S) (cluster : Cluster) (me : ℕ) (facts : List Fact) (volatile : Volatile) where
  left-if : (cells : ℕ) (plan : Step) (fact : Fact) (step : NodeStep) (result : Result (Unit {0}) StepFault) (after : Step) (answer : Result (Unit {0}) StoreFault)
      → step.fact ≡ Some fact → Ends volatile step.after (Some fact)
      → GivesUnless is_step_memory (unless_refused result after) (step_if plan fact answer)
      → OnOk result (RepresentsCentre stands node cluster me (fact ∷ facts) (closed_if_ended (heard_by (Some fact)) volatile))
      → OnErr result (RepresentsCentre stands node cluster me facts volatile)
      → UnlessMemory (unless_refused result after) (RepresentsAfter stands node cluster me facts volatile (if_added step answer))
  left-if cells plan fact step (Ok done) after (Ok added) is ends e ok err = rw (is, ends) ok
  left-if cells plan fact step (Ok done) after (Err fault) is ends e ok err = absurd (cc)
  left-if cells plan fact step (Err fault) after (Ok added) is ends e ok err =
      elim (cases_Bool (is_step_memory fault)) [
        | inl free ↦ rw free tt
        | inr not ↦ absurd (let bad : Err fault ≡ step_if plan fact (Ok added) = rw not at e in cc)
      ]
  left-if cells plan fact step (Err fault) after (Err other) is ends e ok err =
      elim (cases_Bool (is_step_memory fault)) [
        | inl free ↦ rw free tt
        | inr not ↦ rw not err
      ]

  left-none : (plan : Step) (step : NodeStep) (result : Result (Unit {0}) StepFault) (after : Step)
      → step.fact ≡ None → GivesUnless is_step_memory (unless_refused result after) (Ok plan)
      → OnOk result (RepresentsCentre stands node cluster me facts step.after)
      → UnlessMemory (unless_refused result after) (RepresentsAfter stands node cluster me facts volatile (Ok step))
  left-none plan step (Ok done) after is e ok = rw is ok
  left-none plan step (Err fault) after is e ok =
      elim (cases_Bool (is_step_memory fault)) [
        | inl free ↦ rw free tt
        | inr not ↦ absurd (let bad : Err fault ≡ Ok plan = rw not at e in cc)
      ]

  left-by : (cells : ℕ) (step : NodeStep) (fact : Option Fact) (result : Result (Unit {0}) StepFault) (after : Step)
      → step.fact ≡ fact → Ends volatile step.after fact
      → GivesUnless is_step_memory (unless_refused result after) (if_plan_added cells facts (planned step) fact)
      → OnOk result (RepresentsCentre stands node cluster me (with_new facts fact) (closed_if_ended (heard_by fact) (kept_by volatile step.after fact)))
      → OnErr result (RepresentsCentre stands node cluster me facts (kept_by volatile step.after fact))
      → UnlessMemory (unless_refused result after) (RepresentsAfter stands node cluster me facts volatile (if_fact_added cells facts step fact))
  left-by cells step None result after is ends e ok err = left-none (planned step) step result after is e ok
  left-by cells step (Some fact) result after is ends e ok err =
      left-if cells (planned step) fact step result after (store_result cells facts fact) is ends e ok err

  pub plan-left : (cells : ℕ) (plan : Step) (expected : Result NodeStep StepFault) (result : Result (Unit {0}) StepFault) (after : Step)
      → Ok plan ≡ plan_of expected → EndsIn volatile expected
      → GivesUnless is_step_memory (unless_refused result after) (if_plan_added cells facts plan plan.fact)
      → OnOk result (RepresentsCentre stands node cluster me (with_new facts plan.fact) (closed_if_ended (heard_by plan.fact) (volatile_kept volatile expected)))
      → OnErr result (RepresentsCentre stands node cluster me facts (volatile_kept volatile expected))
      → UnlessMemory (unless_refused result after) (RepresentsAfter stands node cluster me facts volatile (with_store cells facts expected))
  plan-left cells plan (Err fault) result after is ends e ok err = absurd (cc)
  plan-left cells plan (Ok step) result after is ends e ok err =
      let same : plan ≡ planned step = cc in
      left-by cells step step.fact result after refl ends (rw same at e) (rw same at ok) err

  pub fault-left : (cells : ℕ) (fault : StepFault) (expected : Result NodeStep StepFault)
      → GivesUnless {T = Step} is_step_memory (Err fault) (plan_of expected)
      → UnlessMemory {T = Step} (Err fault) (RepresentsCentre stands node cluster me facts (volatile_kept volatile expected))
      → UnlessMemory {T = Step} (Err fault) (RepresentsAfter stands node cluster me facts volatile (with_store cells facts expected))
  fault-left cells fault (Err other) e h = h
  fault-left cells fault (Ok step) e h =
      elim (cases_Bool (is_step_memory fault)) [
        | inl free ↦ rw free tt
        | inr not ↦ absurd (let bad : Err fault ≡ Ok (planned step) = rw not at e in cc)
      ]

-- ---- a rule that only sends

-- what it writes into a blank step is what it plans
pub acts-plan : (step : NodeStep) (sends : List Envelope) (result : Result (Unit {0}) StepFault) → step.fact ≡ None → step.answer ≡ None
    → GivesUnless is_step_memory (unless_refused result sends) (Ok step.sends)
    → GivesUnless is_step_memory (unless_refused result (record { fact = None; sends = sends; heard = None; answer = None })) (plan_of (Ok step))
acts-plan step sends (Ok done) fact answer e =
    let is : sends ≡ step.sends = cc in
    rw (fact, answer, is) refl
acts-plan step sends (Err fault) fact answer e =
    elim (cases_Bool (is_step_memory fault)) [
      | inl free ↦ rw free tt
      | inr not ↦ absurd (let bad : Err fault ≡ Ok step.sends = rw not at e in cc)
    ]

-- a rule that only sends, where it is not refused
abbrev pub SendsAlone : Result NodeStep StepFault → Type 0
SendsAlone (Ok step) = (step.fact ≡ None) × (step.answer ≡ None)
SendsAlone (Err fault) = ⊤

pub sends-plan : (expected : Result NodeStep StepFault) (sends : List Envelope) (result : Result (Unit {0}) StepFault) → SendsAlone expected
    → GivesUnless is_step_memory (unless_refused result sends) (sends_after [] expected)
    → GivesUnless is_step_memory (unless_refused result (record { fact = None; sends = sends; heard = None; answer = None })) (plan_of expected)
sends-plan (Ok step) sends result alone e = acts-plan step sends result alone.0 alone.1 e
sends-plan (Err other) sends (Ok done) alone e = absurd (cc)
sends-plan (Err other) sends (Err fault) alone e =
    elim (cases_Bool (is_step_memory fault)) [
      | inl free ↦ rw free tt
      | inr not ↦
          let same : ◌≡◌ {A = Result (List Envelope) StepFault} (Err fault) (Err other) = rw not at e in
          let is : fault ≡ other = cc in
          rw not (rw is refl)
    ]

pub unless-any : {T U : Type 0} (result : Result (Unit {0}) StepFault) (x : T) (y : U) (P : Type 0)
    → UnlessMemory (unless_refused result x) P → UnlessMemory (unless_refused result y) P
unless-any (Ok done) x y P h = h
unless-any (Err fault) x y P h = h

-- ---- where there was no memory

on-true : (b : Bool) (P : Type 0) → P → OnTrue b P
on-true true P h = h
on-true false P h = tt

pub memory-left : {T : Type 0} (result : Result (Unit {0}) StepFault) (x : T) (P : Type 0) → OnErr result P → OnMemory (unless_refused result x) P
memory-left (Ok done) x P h = tt
memory-left (Err fault) x P h = on-true (is_step_memory fault) P h

-- a call that fails for want of memory alone
pub only-memory : {T U : Type 0} (fault : StepFault) (x : T) (expected : Result U StepFault) → GivesUnless {T = T} is_step_memory (Err fault) (Ok x)
    → GivesUnless {T = U} is_step_memory (Err fault) expected
only-memory {T = T} fault x expected e =
    elim (cases_Bool (is_step_memory fault)) [
      | inl free ↦ rw free tt
      | inr not ↦ absurd (let bad : Err fault ≡ Ok x = rw not at e in cc)
    ]

pub only-memory-left : {T : Type 0} (fault : StepFault) (x : T) (P : Type 0) → GivesUnless {T = T} is_step_memory (Err fault) (Ok x)
    → UnlessMemory {T = T} (Err fault) P
only-memory-left {T = T} fault x P e =
    elim (cases_Bool (is_step_memory fault)) [
      | inl free ↦ rw free tt
      | inr not ↦ absurd (let bad : Err fault ≡ Ok x = rw not at e in cc)
    ]
