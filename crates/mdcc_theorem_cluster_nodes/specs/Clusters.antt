-- A cluster of processes, each one call of `serve_node`: their acts in one order, and the areas that they leave each other.
use Rattle.std.specs.Prelude.{List, None, Ok, Option, Result, Some, [], if◌then◌else◌, ⊤, ℕ, ◌+◌, ◌++◌, ◌==◌, ◌∷◌, ◌≡◌, ◌⊎◌}
use Rattle.mdcc_node_log.specs.Logged.{AreLogged}
use Rattle.mdcc_config.specs.IsConfig.{IsConfig}
use Rattle.mdcc_config.specs.declared.config.Config.{Config}
use Rattle.mdcc_disks.specs.Disks.{Disk}
use Rattle.mdcc_command_endings.specs.Logs.{AreAreasTold}
use Rattle.mdcc_killed_process.specs.Killed.{calls_of_killed, disk_of_killed, held_of_killed, lost_of_killed, may_leave_of_killed}
use Rattle.mdcc_link.specs.Link.{LinkCall}
use Rattle.mdcc_log_file.specs.Area.{payloads}
use Rattle.mdcc_def_messages.specs.Spelling.{encodings_of}
use Rattle.mdcc_def_messages.specs.declared.facts.Fact.{Fact}
use Rattle.mdcc_def_server_runs.specs.Acts.{Act, facts_appended}
use Rattle.mdcc_def_server_runs.specs.Servers.{Log}
use Rattle.mdcc_serve.specs.Serving.{IsServedLog}
use Rattle.mdcc_serve.specs.declared.served.Served.{Served}
use Rattle.mdcc_serve_site.specs.declared.fault.ServeFault.{ServeFault}
use Rattle.mdcc_theorem_clusters.specs.Clusters.{log_of}
use Rattle.mdcc_theorem_clusters.specs.Headline.{IsToldTruly}
use Rattle.mdcc_theorem_clusters.specs.Traces.{MayDoNext}
use Rattle.mdcc_theorem_server_lives.specs.Lives.{IsLifeOf, Life, log_before, onto}
use Rattle.mdcc_theorem_cluster_nodes.specs.Areas.{Areas}
use Rattle.mdcc_theorem_cluster_nodes.specs.Calls.{Clause, IsGranted, Setting, acts_done}

-- ---- steps

-- a call that is on: the areas that it found, the acts that it did, and those that are left
pub record Running : Type 0 where
  pub found : Areas
  pub did : List Act
  pub left : List Act

-- all acts that were done, each with its centre, the newest first; the areas of each centre as its last call left them, or as the call that is on
-- will leave them; and that call
pub record Cluster : Type 0 where
  pub done : List (ℕ × Act)
  pub areas : ℕ → Areas
  pub now : ℕ → Option Running

abbrev pub no_calls : (ℕ → Areas) → Cluster
no_calls areas = record { done = []; areas = areas; now = λ a. None }

pub data ClusterStep : Type 0 where
  -- a call begins that will do these acts, and leave its areas so
  Calls : (centre : ℕ) (acts : List Act) (left : Areas) → ClusterStep
  -- it does its next act
  Acts : (centre : ℕ) → ClusterStep
  -- it is over
  Returns : (centre : ℕ) → ClusterStep

abbrev pub with_now : List (ℕ × Act) → Cluster → ℕ → Option Running → Cluster
with_now done cluster a now = record { done = done; areas = cluster.areas; now = λ b. if a == b then now else cluster.now b }

abbrev pub after_acts_left : Cluster → ℕ → Running → List Act → Cluster
after_acts_left cluster a run [] = cluster
after_acts_left cluster a run (act ∷ left) =
    with_now ((a, act) ∷ cluster.done) cluster a (Some (record { found = run.found; did = run.did ++ act ∷ []; left = left }))

abbrev pub after_run_act_at : Cluster → ℕ → Option Running → Cluster
after_run_act_at cluster a None = cluster
after_run_act_at cluster a (Some run) = after_acts_left cluster a run run.left

abbrev pub after_cluster_step : Cluster → ClusterStep → Cluster
after_cluster_step cluster (ClusterStep.Calls a acts left) =
    let run : Running = record { found = cluster.areas a; did = []; left = acts } in
    record { done = cluster.done; areas = λ b. if a == b then left else cluster.areas b; now = λ b. if a == b then Some run else cluster.now b }
after_cluster_step cluster (ClusterStep.Acts a) = after_run_act_at cluster a (cluster.now a)
after_cluster_step cluster (ClusterStep.Returns a) = with_now cluster.done cluster a None

abbrev pub after_cluster_steps : Cluster → List ClusterStep → Cluster
after_cluster_steps cluster [] = cluster
after_cluster_steps cluster (step ∷ steps) = after_cluster_steps (after_cluster_step cluster step) steps

-- ---- which steps may come

-- a call is over once all its acts are done
abbrev pub MayReturn : Option Running → Type 0
MayReturn None = ⊤
MayReturn (Some run) = run.left ≡ []

abbrev pub acts_left_of : Option Running → Option (List Act)
acts_left_of None = None
acts_left_of (Some run) = Some run.left

-- ---- a process as a life

-- Over this log a process did the first acts of a life of its centre, and the areas have the log that this life left: what was appended, or that and the
-- append that was under way.
pub record LivesOver (config : Config) (log : Log) (acts : List Act) (left : Areas) : Type 0 where
  pub life : Life
  pub is : IsLifeOf config life
  pub log_is : log_before life ≡ log
  pub acts_are : life.acts ≡ acts
  pub read : payloads left.first left.second ≡ Ok (encodings_of life.kept)

-- So it is over the log that it found, where that has facts that its centre may have added: so it is of each call of `serve_node`, also of one that is
-- killed.
abbrev pub Lives : Config → ℕ → Areas → List Act → Areas → Type 0
Lives config a found acts left =
    (log : Log) → log.centre ≡ a → payloads found.first found.second ≡ Ok (encodings_of log.facts) → AreLogged config.cluster log.facts → LivesOver config log acts left

-- The same of a log that is known already to be the one that it found: so it is of a centre that a call of `serve_cluster` serves with others.
pub record LivesFrom (config : Config) (a : ℕ) (found : Areas) (acts : List Act) (left : Areas) : Type 0 where
  pub log : Log
  pub own : log.centre ≡ a
  pub read : payloads found.first found.second ≡ Ok (encodings_of log.facts)
  pub allowed : AreLogged config.cluster log.facts
  pub lives : LivesOver config log acts left

-- ---- what is proved of them

-- a log has the facts that a call found, and those that it has appended since
pub record HasSince (a : ℕ) (log : List Fact) (run : Running) : Type 0 where
  pub found : List Fact
  pub read : payloads run.found.first run.found.second ≡ Ok (encodings_of found)
  pub since : log ≡ onto found (facts_appended a run.did)

-- There is one order of all facts that are in the logs. Where no call is on its log is read from the areas, and has facts that its centre may have
-- added, so that the contract of the next call speaks of it; where one is on it has no fact that was not appended yet. And the headline holds of that
-- order and of all acts that were done.
pub record ClusterHasHeadline (config : Config) (cluster : Cluster) : Type 0 where
  pub durable : List (ℕ × Fact)
  pub read : (a : ℕ) → cluster.now a ≡ None → payloads (cluster.areas a).first (cluster.areas a).second ≡ Ok (encodings_of (log_of durable a))
  pub allowed : (a : ℕ) → cluster.now a ≡ None → AreLogged config.cluster (log_of durable a)
  pub on : (a : ℕ) (run : Running) → cluster.now a ≡ Some run → HasSince a (log_of durable a) run
  pub told : IsToldTruly config cluster.done durable

-- ---- calls

module _ {D L O : Type 0} (disk : D → ℕ → Disk) (may_leave : D → ℕ → List ℕ → Type 0) (tears : ℕ → Type 0) (calls : L → Option (List LinkCall)) (lost : L → ℕ) (held : O → Option (List ℕ)) where
  -- A call of `serve_node` for this centre that finds these areas on its disks, does these acts, and leaves those areas, after a crash or without one.
  -- The clause of its contract speaks of each log that its areas have.
  pub record IsCalled (config : Config) (a : ℕ) (found : Areas) (acts : List Act) (left : Areas) : Type 0 where
    pub at : Setting disk may_leave tears calls lost held
    pub result : Result Served ServeFault
    pub told : AreAreasTold disk at.disks_before a
    pub first : (disk at.disks_before a).bytes ≡ found.first
    pub second : (disk at.disks_before (a + 16)).bytes ≡ found.second
    pub serves : (log : Log) → log.centre ≡ a → IsServedLog disk config.cluster at.disks_before log → Clause disk may_leave tears calls lost held config log at result
    pub granted : (log : Log) (own : log.centre ≡ a) (has : IsServedLog disk config.cluster at.disks_before log)
        → IsGranted disk may_leave tears calls lost held config (record { log = log; at = at; result = result; serves = serves log own has })
    pub acts_are : (log : Log) (own : log.centre ≡ a) (has : IsServedLog disk config.cluster at.disks_before log)
        → acts ≡ acts_done disk may_leave tears calls lost held config log at result (serves log own has)
    pub left_first : may_leave at.disks_after a left.first
    pub left_second : may_leave at.disks_after (a + 16) left.second

module _ {D L O : Type 0} (disk : D → ℕ → Disk) (may_leave : D → ℕ → List ℕ → Type 0) (tears : ℕ → Type 0) (calls : L → Option (List LinkCall)) (lost : L → ℕ) (held : O → Option (List ℕ)) where
  -- The same of a process that is killed in such a call: so many calls of its disks, its link and its output are made, and none that would come later.
  -- As the call sees it, each of those fails, so that it ends; the areas are what they were at the kill, or what a crash leaves of that. Its last acts
  -- may be sends that were not made: of these nobody can say that they were not lost on the way.
  abbrev pub IsKilled : Config → ℕ → Areas → List Act → Areas → Type 0
  IsKilled config a found acts left =
      IsCalled (disk_of_killed disk) (may_leave_of_killed may_leave) tears (calls_of_killed calls) (lost_of_killed lost) (held_of_killed held) config a found acts left

  -- So it did the first acts of a life, of which its areas have the log: with the append that was under way, or without it.
  abbrev pub KilledCallsAreLives : Type 0
  KilledCallsAreLives = (config : Config) (a : ℕ) (found : Areas) (acts : List Act) (left : Areas) → IsKilled config a found acts left → Lives config a found acts left

  -- One process of a centre is on at a time, and finds what the one before left: a call that returns or is killed, or one that served others too.
  pub record MayCall (config : Config) (cluster : Cluster) (a : ℕ) (acts : List Act) (left : Areas) : Type 0 where
    pub alone : cluster.now a ≡ None
    pub called : IsCalled disk may_leave tears calls lost held config a (cluster.areas a) acts left
        ⊎ (IsKilled config a (cluster.areas a) acts left ⊎ (Lives config a (cluster.areas a) acts left ⊎ LivesFrom config a (cluster.areas a) acts left))

  -- what a receive at a centre's own endpoint gives was sent before by a centre of the cluster
  abbrev pub MayBeNext : Config → Cluster → ClusterStep → Type 0
  MayBeNext config cluster (ClusterStep.Calls a acts left) = MayCall config cluster a acts left
  MayBeNext config cluster (ClusterStep.Acts a) = MayDoNext cluster.done a (acts_left_of (cluster.now a))
  MayBeNext config cluster (ClusterStep.Returns a) = MayReturn (cluster.now a)

  abbrev pub AreCalls : Config → Cluster → List ClusterStep → Type 0
  AreCalls config cluster [] = ⊤
  AreCalls config cluster (step ∷ steps) = MayBeNext config cluster step × AreCalls config (after_cluster_step cluster step) steps

  -- What was so far of such calls is of such calls: so it is at every moment.
  abbrev pub FrontsAreCalls : Type 0
  FrontsAreCalls = (config : Config) (cluster : Cluster) (first more : List ClusterStep) → AreCalls config cluster (first ++ more) → AreCalls config cluster first

  -- So it is from the first call on, over areas in which no fact stands.
  abbrev pub HeadlineOfCalls : Type 0
  HeadlineOfCalls =
      (config : Config) → IsConfig config → (areas : ℕ → Areas) → ((a : ℕ) → payloads (areas a).first (areas a).second ≡ Ok []) → (steps : List ClusterStep) → AreCalls config (no_calls areas) steps
      → ClusterHasHeadline config (after_cluster_steps (no_calls areas) steps)
