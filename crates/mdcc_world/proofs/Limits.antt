-- The limits that a step is asked for.
use Rattle.std.proofs.Common.{◌≡◌, ℕ, ◌≤◌, Bool, true, false, List, ◌∷◌, refl, sym, ap, ◌∙◌, subst, Option, Some, None, Result, Ok, Err, arith, length, nat_lt}
use Rattle.std.specs.Option.{option_or}
use Rattle.mdcc_world_logs.specs.Represents.{LogsRepresent}
use Rattle.mdcc_def_protocol.specs.Belongs.{is_centre}
use Rattle.mdcc_def_ledger.specs.Ledger.{facts_of}
use Rattle.mdcc_def_messages.specs.Lengths.{fact_length, log_length}
use Rattle.mdcc_def_messages.specs.WellFormed.{IsWellFormedEnvelope, IsWellFormedFact}
use Rattle.mdcc_def_simulation.specs.State.{World, centre_at, is_up_at}
use Rattle.mdcc_def_simulation.specs.Limits.{passed_log_limit, most_log}
use Rattle.mdcc_def_simulation.specs.AppliedSteps.{step_at}
use Rattle.mdcc_def_rules.specs.Steps.{NodeStep, step_given}
use Rattle.mdcc_def_messages.specs.declared.facts.Fact.{Fact}
use Rattle.mdcc_def_messages.specs.declared.messages.Envelope.{Envelope}
use Rattle.mdcc_def_rules.specs.declared.node.Input.{Input}
use Rattle.mdcc_def_rules.specs.declared.node.Step.{Step}
use Rattle.mdcc_def_language.specs.declared.world.EventFault.{EventFault}
use Rattle.mdcc_def_language.specs.declared.world.LimitName.{LimitName}
use Rattle.std.specs.List.{AllByRecursion}
use Rattle.mdcc_theorem_node_steps.proofs.Dispatched.{fact-formed, sends-formed}
use Rattle.mdcc_theorem_node_steps.proofs.Shortness.{fact-short}
use Rattle.mdcc_world.proofs.Happened.{clear, may_be}
use Rattle.mdcc_world.proofs.Took.{ok-given}
use Rattle.mdcc_world.specs.StepOutputs.{IsFormed, IsFramed, MayAppendFact, Measures}
use Rattle.mdcc_world.specs.NodeRuns.{HasRun}
use Rattle.mdcc_world.specs.declared.world.World.{World as TheWorld}
use Rattle.mdcc_theorem_worlds.proofs.Stays.{log-few, some-centre}

-- ---- the log

abbrev full : EventFault
full = EventFault.Limit LimitName.Log most_log

pub log-full : (w : World) (a : ℕ) (fact : Fact) (b : Bool) → b ≡ nat_lt most_log (log_length (fact ∷ facts_of w.ledger a)) → b ≡ true → Err full ≡ may_be (passed_log_limit w a fact)
log-full w a fact b is e = let passed : nat_lt most_log (log_length (fact ∷ facts_of w.ledger a)) ≡ true = sym is ∙ e in rw passed refl

pub log-room : (w : World) (a : ℕ) (fact : Fact) (b : Bool) → b ≡ nat_lt most_log (log_length (fact ∷ facts_of w.ledger a)) → b ≡ false → clear ≡ may_be (passed_log_limit w a fact)
log-room w a fact b is e = let within : nat_lt most_log (log_length (fact ∷ facts_of w.ledger a)) ≡ false = sym is ∙ e in rw within refl

-- a centre has a log
pub log-there : (world : TheWorld) (w : World) (a : ℕ) → is_centre w.cluster a ≡ true → LogsRepresent world.logs w.cluster.quorums.centres (is_up_at w) (facts_of w.ledger)
    → a ≤ length world.logs.open.items
log-there world w a centre stand =
    let few = (some-centre w.cluster a centre).1 in
    let many = stand.as_many in
    omega (few, many, arith)

-- ---- what a step lets out

module _ (world : TheWorld) (w : World) (a : ℕ) (input : Input) (step : Step) (made : HasRun world w a input (Ok step)) where
  abbrev gave : (s : NodeStep) × (step_at w a input ≡ Ok s) × (step ≡ step_given s)
  gave = ok-given step (step_at w a input) made.before.step_itself

  pub step-measures : Measures world w a
  step-measures = record { up = made.before.up; bytes = made.before.records.bytes; logs = made.before.logs }

  pub step-sends : AllByRecursion IsWellFormedEnvelope step.sends
  step-sends =
      let node = made.before.records.itself.nodes a made.before.centre in
      let formed = sends-formed w.cluster a (facts_of w.ledger a) (centre_at w a).volatile input gave.0 node made.before.well_formed gave.1 (log-few w a made.before.records.itself made.before.centre) in
      subst (λ (xs : List Envelope). AllByRecursion IsWellFormedEnvelope xs) (sym (ap (λ (x : Step). x.sends) gave.2)) formed

  fact-given : (fact : Fact) → step.fact ≡ Some fact → gave.0.fact ≡ Some fact
  fact-given fact e = sym (ap (λ (x : Step). x.fact) gave.2) ∙ e

  pub step-formed : (fact : Fact) → step.fact ≡ Some fact → IsWellFormedFact fact
  step-formed fact e =
      let node = made.before.records.itself.nodes a made.before.centre in
      fact-formed w.cluster a (facts_of w.ledger a) (centre_at w a).volatile input gave.0 node made.before.well_formed gave.1 fact (fact-given fact e)

  pub step-short : (fact : Fact) → step.fact ≡ Some fact → fact_length fact ≤ 2097152
  step-short fact e =
      let node = made.before.records.itself.nodes a made.before.centre in
      fact-short w.cluster a (facts_of w.ledger a) (centre_at w a).volatile input gave.0 fact made.before.short node made.before.well_formed gave.1 (fact-given fact e)

  formed-by : (o : Option Fact) → step.fact ≡ o → IsFormed o
  formed-by None e = tt
  formed-by (Some fact) e = (step-formed fact e, step-short fact e)

  pub fact-is-formed : IsFormed step.fact
  fact-is-formed = formed-by step.fact refl

  pub fact-may : (fact : Fact) → step.fact ≡ Some fact → MayAppendFact world.logs a fact
  fact-may fact e = record {
    formed = step-formed fact e;
    short = step-short fact e;
    log_itself = (w.cluster.quorums.centres, is_up_at w, facts_of w.ledger, made.before.logs, made.before.up);
  }

  framed-by : (o : Option Fact) → step.fact ≡ o → IsFramed world.logs a o
  framed-by None e = tt
  framed-by (Some fact) e = fact-may fact e

  pub fact-is-framed : IsFramed world.logs a step.fact
  fact-is-framed = framed-by step.fact refl

-- ---- one limit and another

pub limit-first : (one other : Option EventFault) (fault : EventFault) → Err fault ≡ may_be one → Err fault ≡ may_be (option_or one other)
limit-first None other fault e = absurd (cc)
limit-first (Some found) other fault e = e

pub limit-then : (one other : Option EventFault) (r : Result (Unit {0}) EventFault) → Ok tt ≡ may_be one → r ≡ may_be other → r ≡ may_be (option_or one other)
limit-then None other r e f = f
limit-then (Some found) other r e f = absurd (cc)
