-- What a step lets out.
use Rattle.std.specs.Prelude.{◌≡◌, ◌≤◌, List, None, Option, Some, true, ⊤, ℕ}
use Rattle.mdcc_world_logs.specs.Represents.{IsOpenAt, LogsRepresent, with_fact_at}
use Rattle.mdcc_world_logs.specs.declared.logs.Logs.{Logs}
use Rattle.mdcc_def_ledger.specs.Ledger.{facts_of}
use Rattle.mdcc_def_messages.specs.Lengths.{fact_length}
use Rattle.mdcc_def_messages.specs.WellFormed.{IsWellFormedFact}
use Rattle.mdcc_def_simulation.specs.State.{World, is_up_at}
use Rattle.mdcc_def_messages.specs.declared.facts.Fact.{Fact}
use Rattle.mdcc_def_simulation.specs.Checkpoints.{tail_after_append}
use Rattle.mdcc_world.specs.declared.world.World.{World as TheWorld}

-- the facts of all centres with a new one of a centre, where there is one
abbrev pub facts_with : (ℕ → List Fact) → ℕ → Option Fact → ℕ → List Fact
facts_with facts a None = facts
facts_with facts a (Some fact) = with_fact_at facts a fact

-- the frames of the tail of a log with a new fact, where there is one
abbrev pub tail_with_new_fact : ℕ → Option Fact → ℕ
tail_with_new_fact tail None = tail
tail_with_new_fact tail (Some fact) = tail_after_append tail

-- a fact that may be appended to the log of a centre
pub record MayAppendFact (logs : Logs) (a : ℕ) (fact : Fact) : Type 0 where
  pub formed : IsWellFormedFact fact
  pub short : fact_length fact ≤ 2097152
  pub log_itself : IsOpenAt logs a

-- so is that of a step, where it has one
abbrev pub IsFramed : Logs → ℕ → Option Fact → Type 0
IsFramed logs a None = ⊤
IsFramed logs a (Some fact) = MayAppendFact logs a fact

-- the fact of a step is well-formed and short, where it has one
abbrev pub IsFormed : Option Fact → Type 0
IsFormed None = ⊤
IsFormed (Some fact) = IsWellFormedFact fact × (fact_length fact ≤ 2097152)

-- the bytes that were sent and the logs are those of a world, of which this is a centre that is up
pub record Measures (world : TheWorld) (w : World) (a : ℕ) : Type 0 where
  pub up : is_up_at w a ≡ true
  pub bytes : world.bytes ≡ w.bytes
  pub logs : LogsRepresent world.logs w.cluster.quorums.centres (is_up_at w) (facts_of w.ledger)
