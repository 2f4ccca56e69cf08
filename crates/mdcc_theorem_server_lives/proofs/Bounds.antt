-- A life is within the limits of executions: its facts are within the cells of its node, and the serials of each turn within those of all.
use Rattle.std.proofs.Common.{Bool, Err, List, None, Ok, Result, Some, [], arith, false, inl, inr, refl, subst, sym, true, ℕ, ◌+◌, ◌-◌, ◌<◌, ◌∙◌, ◌^◌, ◌∷◌, ◌≡◌, ◌≤◌, ap}
use Rattle.std.specs.Prelude.{is_ok, nat_le}
use Rattle.std.proofs.lemmas.Bool.{cases_Bool, ltb-false}
use Rattle.mdcc_config.specs.IsConfig.{IsConfig}
use Rattle.mdcc_config.specs.declared.config.Config.{Config}
use Rattle.mdcc_def_messages.specs.Lengths.{cells_needed, cells_used}
use Rattle.mdcc_def_messages.specs.declared.facts.Fact.{Fact}
use Rattle.mdcc_option.specs.declared.cluster.Cluster.{Cluster}
use Rattle.mdcc_def_protocol.proofs.Plain.{cells_plain, no_floor_more}
use Rattle.mdcc_def_protocol.specs.Cells.{cells_held}
use Rattle.mdcc_def_protocol.specs.Facts.{epoch_of, has_floor}
use Rattle.mdcc_def_rules.specs.Boot.{booted_by, is_past_cells, next_boot}
use Rattle.mdcc_def_rules.specs.Steps.{NodeStep, with_new}
use Rattle.mdcc_def_rules.specs.declared.node.Input.{Input}
use Rattle.mdcc_def_rules.specs.declared.node.StepFault.{StepFault}
use Rattle.mdcc_theorem_server_runs.proofs.Joined.{node_after_run}
use Rattle.mdcc_theorem_server_runs.proofs.Outgoing.{out_site}
use Rattle.mdcc_theorem_server_runs.proofs.Turned.{inputs_run}
use Rattle.mdcc_theorem_server_runs.specs.Inputs.{turn_inputs, turns_alone}
use Rattle.mdcc_def_server_runs.specs.Runs.{NodeState, after_run, after_step, step_on}
use Rattle.mdcc_def_server_runs.specs.Sending.{persist_then_send, persisted}
use Rattle.mdcc_def_server_runs.specs.Servers.{site_of}
use Rattle.mdcc_def_server_runs.specs.Sites.{Site}
use Rattle.mdcc_def_server_runs.specs.Turns.{Given, is_held, released, turn_inputs_taken, turn_of}
use Rattle.mdcc_theorem_node_steps.proofs.Cells.{few-celled}
use Rattle.mdcc_theorem_node_steps.proofs.Roomy.{room-stays}
use Rattle.mdcc_theorem_node_steps.proofs.Unfloored.{fit-plain, unfloored-stays, within-plain}
use Rattle.mdcc_theorem_clusters.proofs.Posted.{posts}
use Rattle.mdcc_theorem_clusters.specs.Clusters.{with_few}
use Rattle.mdcc_theorem_clusters.specs.Executions.{IsWithinLimits}
use Rattle.mdcc_theorem_clusters.specs.Traces.{Ending, IsLife, IsWithinTurns, ending_of}
use Rattle.mdcc_theorem_server_lives.specs.Lives.{Life, Serves, log_before}

-- ---- cells

-- no floor is set, and the facts lie in the cells
abbrev HaveCells : Cluster → List Fact → Type 0
HaveCells cluster facts = (has_floor facts ≡ false) × (cells_used facts ≤ cluster.cells)

cells-step : (cluster : Cluster) (me : ℕ) (node : NodeState) (input : Input) (r : Result NodeStep StepFault) → step_on cluster me node input ≡ r → HaveCells cluster node.facts
    → HaveCells cluster (after_step node r).facts
cells-step cluster me node input (Err fault) is few = few
cells-step cluster me node input (Ok step) is few =
    let plain = unfloored-stays cluster me node.facts node.volatile input step few.0 is in (
      plain,
      within-plain cluster (with_new node.facts step.fact) plain (room-stays cluster me node.facts node.volatile input step (fit-plain cluster node.facts few.0 few.1) is),
    )

cells-run : (cluster : Cluster) (me : ℕ) (node : NodeState) (inputs : List Input) → HaveCells cluster node.facts → HaveCells cluster (after_run cluster me node inputs).facts
cells-run cluster me node [] few = few
cells-run cluster me node (input ∷ inputs) few =
    cells-run cluster me (after_step node (step_on cluster me node input)) inputs (cells-step cluster me node input (step_on cluster me node input) refl few)

module _ (config : Config) where
  inputs-few : (site : Site) (given : Given) → HaveCells config.cluster site.node.facts → HaveCells config.cluster (turn_inputs_taken config site given).site.node.facts
  inputs-few site given few =
      let runs = inputs_run config site given in
      let inputs : List Input = turn_inputs config site given in
      let is : (turn_inputs_taken config site given).site.node ≡ after_run config.cluster site.centre site.node inputs = runs.node_is ∙ node_after_run config.cluster site.centre site.node inputs in
      subst (λ (n : NodeState). HaveCells config.cluster n.facts) (sym is) (cells-run config.cluster site.centre site.node inputs few)

  -- nothing comes to its node as it is let out
  out-node : (site : Site) → (persist_then_send config site).site.node ≡ site.node
  out-node site = ap (λ (s : Site). s.node) (out_site config site)

  released-node : (held : Bool) (site : Site) → (released config held site).site.node ≡ site.node
  released-node true site = refl
  released-node false site = out-node site

  turn-few : (site : Site) (given : Given) → HaveCells config.cluster site.node.facts → HaveCells config.cluster (turn_of config site given).site.node.facts
  turn-few site given few =
      let inputs = turn_inputs_taken config site given in
      subst (λ (n : NodeState). HaveCells config.cluster n.facts) (sym (released-node (is_held given inputs) inputs.site)) (inputs-few site given few)

  -- ---- serials

  out-sent : (site : Site) → site.sent ≤ (persist_then_send config site).site.sent
  out-sent site = (posts config (persisted site) site.pending.envelopes).counts

  released-sent : (held : Bool) (site : Site) → site.sent ≤ (released config held site).site.sent
  released-sent true site = omega arith
  released-sent false site = out-sent site

  turn-sent : (site : Site) (given : Given) → site.sent ≤ (turn_of config site given).site.sent
  turn-sent site given =
      let inputs = turn_inputs_taken config site given in
      let same : inputs.site.sent ≡ site.sent = (inputs_run config site given).sent_is in
      let more = released-sent (is_held given inputs) inputs.site in
      omega (arith, same, more)

  end-sent : (ending : Ending) (site : Site) → site.sent ≤ (ending_of config ending site).site.sent
  end-sent Ending.Whole site = out-sent site
  end-sent (Ending.Short None few) site = out-sent (with_few few site)
  end-sent (Ending.Short (Some given) few) site =
      let inputs = turn_inputs_taken config site given in
      let same : inputs.site.sent ≡ site.sent = (inputs_run config site given).sent_is in
      let more = out-sent (with_few few inputs.site) in
      omega (arith, same, more)

  turns-sent : (ending : Ending) (site : Site) (given : List Given) → site.sent ≤ (ending_of config ending (turns_alone config site given).site).site.sent
  turns-sent ending site [] = end-sent ending site
  turns-sent ending site (given ∷ more) =
      let first = turn-sent site given in
      let rest = turns-sent ending (turn_of config site given).site more in
      omega (arith, first, rest)

  end-few : (ending : Ending) (site : Site) → HaveCells config.cluster site.node.facts → HaveCells config.cluster (ending_of config ending site).site.node.facts
  end-few Ending.Whole site few = subst (λ (n : NodeState). HaveCells config.cluster n.facts) (sym (out-node site)) few
  end-few (Ending.Short None n) site few = subst (λ (n : NodeState). HaveCells config.cluster n.facts) (sym (out-node (with_few n site))) few
  end-few (Ending.Short (Some given) n) site few =
      subst (λ (n : NodeState). HaveCells config.cluster n.facts) (sym (out-node (with_few n (turn_inputs_taken config site given).site))) (inputs-few site given few)

  -- ---- the limits

  module _ (right : IsConfig config) where
    room : (site : Site) → HaveCells config.cluster site.node.facts → (sent : site.sent < 2 ^ 32) → IsWithinLimits (record { left = []; site_then = site })
    room site few sent = let most = right.cells in let cells = few.1 in record { serials = sent; room = few-celled site.node.facts (omega (arith, cells, most)) }

    within-turns : (ending : Ending) (site : Site) (given : List Given) → HaveCells config.cluster site.node.facts → (ending_of config ending (turns_alone config site given).site).site.sent < 2 ^ 32
        → IsWithinTurns config site given ending
    within-turns ending site [] few sent =
        let w = room (ending_of config ending site).site (end-few ending site few) sent in
        record { serials = w.serials; room = w.room }
    within-turns ending site (given ∷ more) few sent =
        let next : Site = (turn_of config site given).site in
        let later = turns-sent ending next more in
        let w = room next (turn-few site given few) (omega (arith, later, sent)) in
        (record { serials = w.serials; room = w.room }, within-turns ending next more (turn-few site given few) sent)

-- ---- a boot

booted-few : (cluster : Cluster) (facts : List Fact) → has_floor facts ≡ false → is_ok (booted_by cluster (Ok facts)) ≡ true → HaveCells cluster (next_boot facts ∷ facts)
booted-few cluster facts plain ok =
    elim (cases_Bool (nat_le (2 ^ 32 - 1) (epoch_of facts))) [
      | inl e ↦ let bad : false ≡ true = rw e at ok in absurd (cc)
      | inr e ↦ elim (cases_Bool (is_past_cells cluster facts (next_boot facts))) [
        | inl f ↦ let bad : false ≡ true = rw (e, f) at ok in absurd (cc)
        | inr f ↦
            let low = ltb-false cluster.cells (cells_held facts + cells_needed (next_boot facts)) f in
            let same : cells_held facts ≡ cells_used facts = cells_plain facts plain in
            (no_floor_more (next_boot facts) facts refl plain, omega (arith, low, same))
      ]
    ]

pub life-within : (config : Config) → IsConfig config → (life : Life) → has_floor life.log ≡ false → (s : Serves config life) → IsLife config (log_before life) s.given s.ending
life-within config right life plain s =
    let few = booted-few config.cluster life.log plain s.boots in
    let first : Site = site_of (log_before life) in
    record {
      bytes = s.bytes;
      last_bytes = s.last_bytes;
      booted = room config right first few (omega arith);
      turns = within-turns config right s.ending first s.given few s.serials;
    }
