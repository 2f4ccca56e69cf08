-- What a begin brings.
use Rattle.std.proofs.Common.{◌≡◌, ℕ, List, ◌++◌, refl, sym, ap, ◌∙◌, subst, Option, Some, None, Result, Ok, Err}
use Rattle.mdcc_base.specs.declared.identifiers.TxId.{TxId}
use Rattle.mdcc_node.specs.StepAnswers.{step_result}
use Rattle.mdcc_option.specs.declared.cluster.Cluster.{Cluster}
use Rattle.mdcc_option.specs.declared.faults.BeginFault.{BeginFault}
use Rattle.mdcc_option.specs.declared.items.Part.{Part}
use Rattle.mdcc_world_decisions.specs.Represents.{RepresentsLedger}
use Rattle.mdcc_world_decisions.specs.declared.decisions.Decisions.{Decisions}
use Rattle.mdcc_def_protocol.specs.Facts.{epoch_of}
use Rattle.mdcc_def_ledger.specs.Ledger.{facts_of}
use Rattle.mdcc_def_protocol.specs.Manager
use Rattle.mdcc_def_rules.specs.ManagerRules.{begin_step, begin_step_by}
use Rattle.mdcc_def_rules.specs.Steps.{NodeStep, step_given}
use Rattle.mdcc_def_protocol.specs.Volatile.{Managing, Volatile}
use Rattle.mdcc_def_simulation.specs.State.{World, centre_at, counted_event, next_message}
use Rattle.mdcc_def_simulation.specs.Clients.{answer_of_step, begin_lines}
use Rattle.mdcc_def_simulation.specs.AppliedSteps.{step_at}
use Rattle.mdcc_def_messages.specs.declared.facts.Fact.{Fact}
use Rattle.mdcc_def_rules.specs.declared.node.Answer.{Answer}
use Rattle.mdcc_def_rules.specs.declared.node.Input.{Input}
use Rattle.mdcc_def_rules.specs.declared.node.Step.{Step}
use Rattle.mdcc_def_rules.specs.declared.node.StepFault.{StepFault}
use Rattle.mdcc_world.proofs.Took.{ok-given}
use Rattle.mdcc_world.specs.Represents.{entries_of_step}
use Rattle.mdcc_world.specs.Report.{begun_entries, begun_tx, lines_begun}
use Rattle.mdcc_def_rules.specs.Here.{here}

-- a begin tells its entry by its answer
entries-by : (cluster : Cluster) (me : ℕ) (facts : List Fact) (volatile : Volatile) (parts : List Part) (r : Result (TxId × Managing) BeginFault)
    → (begin_step_by (here cluster me facts) volatile parts r).entries ≡ begun_entries me parts (begun_tx (begin_step_by (here cluster me facts) volatile parts r).answer)
entries-by cluster me facts volatile parts (Err fault) = refl
entries-by cluster me facts volatile parts (Ok (tx, manager)) = refl

entries-are : (cluster : Cluster) (me : ℕ) (facts : List Fact) (volatile : Volatile) (parts : List Part)
    → (begin_step (here cluster me facts) volatile parts).entries ≡ begun_entries me parts (begun_tx (begin_step (here cluster me facts) volatile parts).answer)
entries-are cluster me facts volatile parts = entries-by cluster me facts volatile parts (Manager.begin me (epoch_of facts) facts volatile.manager parts)

-- so what is counted by the answer is what the step tells
pub begun-counted : (decisions : Decisions) (w : World) (a : ℕ) (parts : List Part) (step : Step)
    → Ok step ≡ step_result (step_at (counted_event w) a (Input.Begin parts))
    → RepresentsLedger decisions w.cluster.quorums (begun_entries a parts (begun_tx step.answer) ++ w.ledger)
    → RepresentsLedger decisions w.cluster.quorums (entries_of_step (step_at (counted_event w) a (Input.Begin parts)) ++ w.ledger)
begun-counted decisions w a parts step itself counted =
    let s = begin_step (here w.cluster a (facts_of w.ledger a)) (centre_at w a).volatile parts in
    let same : step ≡ step_given s = cc in
    let answer : step.answer ≡ s.answer = ap (λ (x : Step). x.answer) same in
    let are = entries-are w.cluster a (facts_of w.ledger a) (centre_at w a).volatile parts in
    rw are (subst (λ (o : Option Answer). RepresentsLedger decisions w.cluster.quorums (begun_entries a parts (begun_tx o) ++ w.ledger)) answer counted)

-- ---- the line

lines-are : (answer : Option Answer) (w : World) (next : ℕ) → next ≡ next_message w → lines_begun answer next ≡ begin_lines answer w
lines-are None w next e = refl
lines-are (Some (Answer.Read reading)) w next e = refl
lines-are (Some (Answer.Begun tx)) w next e = rw e refl
lines-are (Some (Answer.Refused key fault)) w next e = refl

pub begin-line : (step : Step) (r : Result NodeStep StepFault) (w : World) (next : ℕ) → Ok step ≡ step_result r → next ≡ next_message w
    → lines_begun step.answer next ≡ begin_lines (answer_of_step r) w
begin-line step r w next itself number =
    let gave = ok-given step r itself in
    let answer : step.answer ≡ answer_of_step r = ap (λ (x : Step). x.answer) gave.2 ∙ ap (λ (x : Result NodeStep StepFault). answer_of_step x) (sym gave.1) in
    lines-are step.answer w next number ∙ ap (λ (o : Option Answer). begin_lines o w) answer
