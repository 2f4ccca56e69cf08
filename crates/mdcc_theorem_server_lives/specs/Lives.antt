-- The life of a centre: one process that serves it, from its start over a log until it returns, fails or is killed.
use Rattle.std.specs.Prelude.{List, Ok, [], fold, is_ok, true, ℕ, ◌++◌, ◌<◌, ◌^◌, ◌∷◌, ◌≡◌, ◌⊎◌}
use Rattle.std.specs.List.{AllByRecursion}
use Rattle.mdcc_config.specs.declared.config.Config.{Config}
use Rattle.mdcc_def_messages.specs.declared.facts.Fact.{Fact}
use Rattle.mdcc_def_protocol.specs.Belongs.{is_centre}
use Rattle.mdcc_def_rules.specs.Boot.{booted_by}
use Rattle.mdcc_theorem_server_runs.specs.Inputs.{turns_alone}
use Rattle.mdcc_def_server_runs.specs.Acts.{Act, but_answers, facts_appended}
use Rattle.mdcc_def_server_runs.specs.Servers.{Log, site_of}
use Rattle.mdcc_def_server_runs.specs.Turns.{Given}
use Rattle.mdcc_theorem_clusters.specs.Clusters.{facts_in_flight}
use Rattle.mdcc_theorem_clusters.specs.Traces.{Ending, GivesBytes, acts_to, ending_of, last_given}

pub record Life : Type 0 where
  pub centre : ℕ
  -- the facts in its log at its start, the newest first
  pub log : List Fact
  -- what it did at its disks, its link and its output, one act after another, but for the last line, which tells its counts
  pub acts : List Act
  -- the facts in its log afterwards
  pub kept : List Fact

abbrev pub log_before : Life → Log
log_before life = record { centre = life.centre; facts = life.log }

-- these facts, the oldest first, onto those of a log
abbrev pub onto : List Fact → List Fact → List Fact
onto log facts = fold (λ before fact. fact ∷ before) log facts

-- a log after these acts of its centre
abbrev pub log_after : ℕ → List Fact → List Act → List Fact
log_after centre log acts = onto log (facts_appended centre acts)

-- Of a log that has these facts when a process comes to an end before the rest of its acts: it has them, or these and all those of an append that
-- comes next.
abbrev pub MayKeep : ℕ → List Fact → List Act → List Fact → Type 0
MayKeep centre log rest kept = (kept ≡ log) ⊎ (kept ≡ onto log (facts_in_flight centre rest))

-- how many messages it has sent at the end of these turns
abbrev pub messages_sent_by : Config → Log → List Given → Ending → ℕ
messages_sent_by config log given ending = (ending_of config ending (turns_alone config (site_of log) given).site).site.sent

-- It did the acts of a server of this centre alone over this log, by what its receives gave, up to some act: all of them, where it came to its end;
-- else the rest was not done. What was appended is in its log, and of an append that came next all facts or none. A node boots from its log, receives
-- give bytes, and these turns take fewer than 2^32 serials: the last one has only so many of its messages, where it ended before the others.
pub record Serves (config : Config) (life : Life) : Type 0 where
  pub given : List Given
  pub ending : Ending
  pub rest : List Act
  pub acts : but_answers life.acts ++ rest ≡ acts_to config (log_before life) given ending
  pub kept : MayKeep life.centre (log_after life.centre life.log life.acts) rest life.kept
  pub boots : is_ok (booted_by config.cluster (Ok life.log)) ≡ true
  pub bytes : AllByRecursion GivesBytes given
  pub last_bytes : AllByRecursion GivesBytes (last_given ending)
  pub serials : messages_sent_by config (log_before life) given ending < 2 ^ 32

-- it came to its end before its first act, and its log stands as it was
pub record DoesNothing (life : Life) : Type 0 where
  pub acts : life.acts ≡ []
  pub kept : life.kept ≡ life.log

-- of a centre of the cluster
pub record IsLifeOf (config : Config) (life : Life) : Type 0 where
  pub centre : is_centre config.cluster life.centre ≡ true
  pub lived : Serves config life ⊎ DoesNothing life
