-- A server of one centre that came to its end left a log that has just what was appended to it.
use Rattle.std.proofs.Common.{Err, List, None, Ok, Option, Result, Some, [], ap, length, refl, sym, ℕ, ◌+◌, ◌++◌, ◌∙◌, ◌∷◌, ◌≡◌, ◌≢◌}
use Rattle.std.specs.List.{AllByRecursion}
use Rattle.mdcc_config.specs.declared.config.Config.{Config}
use Rattle.mdcc_disks.specs.Disks.{Disk}
use Rattle.mdcc_log_file.specs.Area.{payloads, payloads_in}
use Rattle.mdcc_def_messages.specs.Spelling.{encodings_of}
use Rattle.mdcc_def_messages.specs.declared.facts.Fact.{Fact}
use Rattle.mdcc_option.specs.declared.cluster.Cluster.{Cluster}
use Rattle.mdcc_def_rules.specs.Boot.{next_boot}
use Rattle.mdcc_def_rules.specs.Steps.{NodeStep, with_new}
use Rattle.mdcc_def_rules.specs.declared.node.Input.{Input}
use Rattle.mdcc_def_rules.specs.declared.node.StepFault.{StepFault}
use Rattle.mdcc_theorem_server_runs.proofs.Centres.{centres_alone}
use Rattle.mdcc_theorem_server_runs.proofs.Grouped.{turns_are_runs}
use Rattle.mdcc_theorem_server_runs.specs.Centres.{DoesItsTurns, given_at}
use Rattle.mdcc_theorem_server_runs.specs.Inputs.{inputs_in, turns}
use Rattle.mdcc_def_server_runs.specs.Acts.{Act, appended_by, but_answers, facts_appended}
use Rattle.mdcc_def_server_runs.specs.Runs.{NodeState, after_run, after_step, facts_added, listed, run_of_inputs, step_on}
use Rattle.mdcc_def_server_runs.specs.Servers.{Log, served, site_of}
use Rattle.mdcc_def_server_runs.specs.Sites.{Site}
use Rattle.mdcc_def_server_runs.specs.Turns.{Given}
use Rattle.mdcc_serve_site.specs.Logs.{KeepsFacts}
use Rattle.mdcc_theorem_server_lives.proofs.Living.{same-appended}
use Rattle.mdcc_theorem_server_lives.specs.Lives.{onto}

-- ---- the facts of a run

new-fact : (facts : List Fact) (o : Option Fact) (more : List Fact) → onto (with_new facts o) more ≡ onto facts (listed o ++ more)
new-fact facts None more = refl
new-fact facts (Some fact) more = refl

made-facts : (cluster : Cluster) (me : ℕ) (node : NodeState) (inputs : List Input) (made : Result NodeStep StepFault) → ((next : NodeState) → (after_run cluster me next inputs).facts ≡ onto next.facts (facts_added (run_of_inputs cluster me next inputs)))
    → (after_run cluster me (after_step node made) inputs).facts ≡ onto node.facts (facts_added (made ∷ run_of_inputs cluster me (after_step node made) inputs))
made-facts cluster me node inputs (Err fault) later = later node
made-facts cluster me node inputs (Ok step) later =
    let next : NodeState = record { facts = with_new node.facts step.fact; volatile = step.after } in
    later next ∙ new-fact node.facts step.fact (facts_added (run_of_inputs cluster me next inputs))

run-facts : (cluster : Cluster) (me : ℕ) (node : NodeState) (inputs : List Input) → (after_run cluster me node inputs).facts ≡ onto node.facts (facts_added (run_of_inputs cluster me node inputs))
run-facts cluster me node [] = refl
run-facts cluster me node (input ∷ inputs) = made-facts cluster me node inputs (step_on cluster me node input) (λ next. run-facts cluster me next inputs)

-- ---- what was appended

pub same-all : (c : ℕ) (acts : List Act) → facts_appended c (but_answers acts) ≡ facts_appended c acts
same-all c [] = refl
same-all c (act ∷ acts) = ap (λ (facts : List Fact). facts ++ facts_appended c (but_answers acts)) (same-appended c act) ∙ ap (λ (facts : List Fact). appended_by c act ++ facts) (same-all c acts)

-- of one centre among others, each of another number
module _ (config : Config) (before : List Log) (log : Log) (after : List Log) (given : List (List Given)) (each : AllByRecursion (λ (turn : List Given). length turn ≡ length (before ++ log ∷ after)) given) where
  abbrev pub last : Site
  last = (turns config (site_of log) (given_at (length before) given)).site

  last-facts : last.node.facts ≡ onto (next_boot log.facts ∷ log.facts) (facts_appended log.centre (turns config (site_of log) (given_at (length before) given)).acts)
  last-facts =
      let own : List Given = given_at (length before) given in
      let inputs : List Input = inputs_in config (site_of log) own in
      let run = turns_are_runs config (site_of log) own in
      ap (λ (n : NodeState). n.facts) run.node
      ∙ (run-facts config.cluster log.centre (site_of log).node inputs ∙ ap (onto (next_boot log.facts ∷ log.facts)) (sym run.tells.shows.facts_are))

  pub last-centre : last.centre ≡ log.centre
  last-centre = (turns_are_runs config (site_of log) (given_at (length before) given)).tells.centre_is

  module _ (one : AllByRecursion (λ (other : Log). other.centre ≢ log.centre) before) (two : AllByRecursion (λ (other : Log). other.centre ≢ log.centre) after) where
    pub stands : DoesItsTurns config (length before) log given (served config (before ++ log ∷ after) given)
    stands = centres_alone config before log after given each one two

    -- the log that is left has the facts of the centre
    pub leaves : (mine : List Fact) → mine ≡ facts_appended log.centre (served config (before ++ log ∷ after) given).acts → last.node.facts ≡ onto log.facts mine
    leaves mine is = last-facts ∙ sym (ap (onto log.facts) (is ∙ stands.facts))

-- ---- what is read

pub kept-read : {D : Type 0} {every : ℕ} (disk : D → ℕ → Disk) (may_leave : D → ℕ → List ℕ → Type 0) (disks : D) (centre : ℕ) (facts : List Fact) → KeepsFacts disk may_leave every disks centre facts
    → (first second : List ℕ) → may_leave disks centre first → may_leave disks (centre + 16) second → payloads first second ≡ Ok (encodings_of facts)
kept-read disk may_leave disks centre facts k first second one two =
    ap (λ (bytes : List ℕ). payloads bytes second) (k.durable first one)
    ∙ (ap (payloads (disk disks centre).bytes) (k.durable_other second two)
    ∙ (ap payloads_in k.read ∙ ap (λ (all : List (List ℕ)). Ok all) k.facts_themselves))
