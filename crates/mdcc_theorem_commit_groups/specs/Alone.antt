-- What goes out of a served centre that makes one step while nothing is pending, beside what a world of a replay makes of that step.
use Rattle.std.specs.Prelude.{List, None, Option, Some, [], map, ℕ, ◌++◌, ◌≡◌}
use Rattle.mdcc_base.specs.Sizes.{Sizes}
use Rattle.mdcc_config.specs.declared.config.Config.{Config}
use Rattle.mdcc_def_language.specs.declared.lines.Line.{Line}
use Rattle.mdcc_def_ledger.specs.Ledger.{Added, Entry}
use Rattle.mdcc_def_messages.specs.Mailbox.{unsent}
use Rattle.mdcc_def_messages.specs.declared.facts.Fact.{Fact}
use Rattle.mdcc_def_rules.specs.Steps.{NodeStep, heard_by}
use Rattle.mdcc_def_server_runs.specs.Runs.{listed}
use Rattle.mdcc_def_server_runs.specs.Sending.{envelopes_sent, facts_logged, heard_printed, persist_then_send, persisted}
use Rattle.mdcc_def_server_runs.specs.Sites.{Doing, Site, and_then, doing, nothing_pending}
use Rattle.mdcc_def_server_runs.specs.Steps.{step_queued}
use Rattle.mdcc_def_simulation.specs.AppliedSteps.{chosen_lines, step_happened}
use Rattle.mdcc_def_simulation.specs.Checkpoints.{striking_at}
use Rattle.mdcc_def_simulation.specs.State.{World}

-- ---- at a centre

-- what the step leaves is pending, and then goes out
abbrev pub step_out : Config → Site → NodeStep → Doing
step_out config site step = and_then (step_queued site step step.sends) (persist_then_send config)

-- the centre once the step is durable, before its messages are sent
abbrev pub with_durable : Config → Site → NodeStep → Site
with_durable config site step = persisted (step_queued site step step.sends).site

-- ---- in a world

-- the transactions that the fact decides
abbrev pub chosen_by : Sizes → ℕ → Option Fact → List Entry → List Line
chosen_by quorums a None entries = []
chosen_by quorums a (Some fact) entries = chosen_lines quorums (Added a fact) entries

-- ---- both

-- At the centre the fact of the step is a group of one: it goes into the log, then the messages of the step are sent and the outcome that
-- it tells is printed. In the world, where no stop strikes, the same fact is added to the ledger, the same messages are sent, and the same
-- outcome is told, behind the transactions that are decided by it.
pub record GoesOutAlone (config : Config) (w : World) (site : Site) (step : NodeStep) : Type 0 where
  pub served : step_out config site step
      ≡ (let sent = envelopes_sent config (with_durable config site step) step.sends in
      doing (facts_logged site.centre (listed step.fact) ++ (sent.acts ++ heard_printed site.centre (listed (heard_by step.fact)))) sent.site)
  pub ledger : (step_happened w site.centre step).world.ledger ≡ map (Added site.centre) (listed step.fact) ++ (step.entries ++ w.ledger)
  pub sent : (step_happened w site.centre step).world.sent ≡ w.sent ++ map unsent step.sends
  pub lines : (step_happened w site.centre step).lines
      ≡ chosen_by w.cluster.quorums site.centre step.fact (step.entries ++ w.ledger) ++ map (λ h. Line.Heard site.centre h.0 h.1) (listed (heard_by step.fact))

-- So it is of each step.
abbrev pub StepsGoOutAlone : Type 0
StepsGoOutAlone =
    (config : Config) (w : World) (site : Site) (step : NodeStep) → site.pending ≡ nothing_pending → striking_at w site.centre ≡ None
    → GoesOutAlone config w site step
