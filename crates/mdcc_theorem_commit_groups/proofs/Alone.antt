-- One step goes out alone: by its fact, which is there or not.
use Rattle.std.proofs.Common.{List, None, Option, Some, map, refl, subst, sym, ℕ, ◌++◌, ◌∙◌, ◌≡◌}
use Rattle.mdcc_base.specs.declared.outside.Image.{Image}
use Rattle.mdcc_config.specs.declared.config.Config.{Config}
use Rattle.mdcc_def_language.specs.declared.lines.Line.{Line}
use Rattle.mdcc_def_ledger.specs.Ledger.{Added}
use Rattle.mdcc_def_messages.specs.Mailbox.{unsent}
use Rattle.mdcc_def_messages.specs.declared.facts.Fact.{Fact}
use Rattle.mdcc_def_rules.specs.Steps.{NodeStep, heard_by}
use Rattle.mdcc_def_server_runs.specs.Runs.{listed}
use Rattle.mdcc_def_server_runs.specs.Sending.{envelopes_sent, facts_logged, heard_printed}
use Rattle.mdcc_def_server_runs.specs.Sites.{Pending, Site, doing, nothing_pending}
use Rattle.mdcc_def_simulation.specs.AppliedSteps.{chosen_lines, fact_happened, heard_lines, step_happened_by}
use Rattle.mdcc_def_simulation.specs.Checkpoints.{striking_at}
use Rattle.mdcc_def_simulation.specs.State.{Happened, World}
use Rattle.mdcc_theorem_commit_groups.specs.Alone.{GoesOutAlone, chosen_by, step_out, with_durable}

-- ---- at a centre

-- what goes out of it
abbrev IsGroup : Config → NodeStep → Site → Type 0
IsGroup config step site =
    step_out config site step
    ≡ (let sent = envelopes_sent config (with_durable config site step) step.sends in
    doing (facts_logged site.centre (listed step.fact) ++ (sent.acts ++ heard_printed site.centre (listed (heard_by step.fact)))) sent.site)

group-of-one : (config : Config) (site : Site) (step : NodeStep) → site.pending ≡ nothing_pending → IsGroup config step site
group-of-one config site step none = subst (λ (p : Pending). IsGroup config step (record site { pending = p })) (sym none) refl

-- ---- in a world

heard-alone : (a : ℕ) (fact : Fact) → heard_lines a fact ≡ map (λ h. Line.Heard a h.0 h.1) (listed (heard_by (Some fact)))
heard-alone a (Fact.Booted epoch) = refl
heard-alone a (Fact.Promised key low high ballot) = refl
heard-alone a (Fact.Voted key version ballot options offered) = refl
heard-alone a (Fact.Heard tx outcome) = refl
heard-alone a (Fact.Adopted key version item adds) = refl
heard-alone a (Fact.Floor centre epoch seq) = refl

-- what happens with this fact, where one is
record IsAlone (w : World) (a : ℕ) (step : NodeStep) (fact : Option Fact) (happened : Happened) : Type 0 where
  pub ledger : happened.world.ledger ≡ map (Added a) (listed fact) ++ (step.entries ++ w.ledger)
  pub sent : happened.world.sent ≡ w.sent ++ map unsent step.sends
  pub lines : happened.lines ≡ chosen_by w.cluster.quorums a fact (step.entries ++ w.ledger) ++ map (λ h. Line.Heard a h.0 h.1) (listed (heard_by fact))

by-fact : (w : World) (a : ℕ) (step : NodeStep) (fact : Option Fact) (stop : Option (ℕ × Image)) → stop ≡ None → striking_at w a ≡ stop → IsAlone w a step fact (step_happened_by w a step fact)
by-fact w a step None stop whole is = record { ledger = refl; sent = refl; lines = refl }
by-fact w a step (Some fact) stop whole is =
    subst (λ (s : Option (ℕ × Image)). IsAlone w a step (Some fact) (fact_happened w a step fact s)) (sym whole ∙ sym is) (record {
      ledger = refl;
      sent = refl;
      lines = subst (λ (told : List Line). chosen_lines w.cluster.quorums (Added a fact) (step.entries ++ w.ledger) ++ heard_lines a fact ≡ chosen_lines w.cluster.quorums (Added a fact) (step.entries ++ w.ledger) ++ told)
          (heard-alone a fact) refl;
    })

pub goes-alone : (config : Config) (w : World) (site : Site) (step : NodeStep) → site.pending ≡ nothing_pending → striking_at w site.centre ≡ None → GoesOutAlone config w site step
goes-alone config w site step none whole = record { served = group-of-one config site step none; ledger = happened.ledger; sent = happened.sent; lines = happened.lines }
  where
    happened : IsAlone w site.centre step step.fact (step_happened_by w site.centre step step.fact)
    happened = by-fact w site.centre step step.fact None refl whole
