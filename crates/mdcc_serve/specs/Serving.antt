-- What a server does from its start to its last turn, and what is seen of it where it ends before.
use Rattle.std.specs.Io.KnownBytes.{Appends}
use Rattle.std.specs.List.{AllByRecursion}
use Rattle.std.proofs.Common.{inl, inr}
use Rattle.std.specs.Prelude.{Err, IsTrue, List, Ok, Option, Result, [], length, take, ⊤, ℕ, ◌+◌, ◌++◌, ◌<◌, ◌^◌, ◌∷◌, ◌≡◌, ◌≤◌, ◌⊎◌}
use Rattle.mdcc_base.specs.Causes.{Rose}
use Rattle.mdcc_config.specs.declared.config.Config.{Config}
use Rattle.mdcc_disks.specs.Disks.{Disk, Only}
use Rattle.mdcc_link.specs.Link.{LinkCall}
use Rattle.mdcc_option.specs.declared.cluster.Cluster.{Cluster}
use Rattle.mdcc_node_log.specs.Logged.{AreLogged}
use Rattle.mdcc_def_server_runs.specs.Acts.{Act, but_answers, dropped_in, lost_in, printed, steps_in}
use Rattle.mdcc_def_server_runs.specs.Servers.{Log, served}
use Rattle.mdcc_def_server_runs.specs.Sites.{Site}
use Rattle.mdcc_def_server_runs.specs.Turns.{Given}
use Rattle.mdcc_serve_site.specs.Causes.{BootsRefused, ComesAt, IsSafeAt, failed_by, in_flight, text_begun}
use Rattle.mdcc_serve_outbox.specs.Shows.{Records, calls_of, count_limited, failed_in}
use Rattle.mdcc_serve_site.specs.Logs.{HasFacts, KeepsFacts, MayHaveFacts, facts_after}
use Rattle.mdcc_serve_site.specs.Room.{OnFull}
use Rattle.mdcc_serve_site.specs.declared.fault.ServeFault.{ServeFault}
use Rattle.mdcc_serve.specs.Stages.{StopsAt, done_line}
use Rattle.mdcc_serve.specs.declared.served.Served.{Served}

-- ---- the acts

-- The acts of a server over these logs, for what its receives gave in each of so many turns, whatever the link answered to sends,
-- with the last line.
pub record IsServerRun (config : Config) (logs : List Log) (turns : ℕ) (acts : List Act) : Type 0 where
  pub given : List (List Given)
  pub turns_made : length given ≡ turns
  pub each : AllByRecursion (λ turn. length turn ≡ length logs) given
  pub ran : List Act
  pub runs : but_answers ran ≡ (served config logs given).acts
  pub whole : acts ≡ ran ++ Act.Print (done_line turns ran) ∷ []

-- no message had a serial above the last one
abbrev pub HasSerials : Site → Type 0
HasSerials site = site.sent < 2 ^ 32

-- ---- the logs before

-- the log of a centre that tells its bytes, with facts that it may have added
pub record IsServedLog {D : Type 0} (disk : D → ℕ → Disk) (cluster : Cluster) (disks : D) (log : Log) : Type 0 where
  pub told : IsTrue (disk disks log.centre).told
  pub told_other : IsTrue (disk disks (log.centre + 16)).told
  pub has : HasFacts disk disks log.centre log.facts
  pub allowed : AreLogged cluster log.facts

abbrev pub AreLogsOf : {D : Type 0} → (D → ℕ → Disk) → Cluster → D → List Log → Type 0
AreLogsOf disk cluster disks logs = AllByRecursion (IsServedLog disk cluster disks) logs

-- ---- what it left

-- something is asked only where it ended while it opened
abbrev pub WhileOpening : {Opening Later : Type 0} → Opening ⊎ Later → Type 0 → Type 0
WhileOpening (inl opening) asked = asked
WhileOpening (inr later) asked = ⊤

-- A crash before it leaves the log as it is.
pub record IsDurable {D : Type 0} (disk : D → ℕ → Disk) (may_leave : D → ℕ → List ℕ → Type 0) (disks : D) (log : Log) : Type 0 where
  pub first : Only (disk disks log.centre).bytes (may_leave disks log.centre)
  pub second : Only (disk disks (log.centre + 16)).bytes (may_leave disks (log.centre + 16))

module _ {D L O : Type 0} (disk : D → ℕ → Disk) (may_leave : D → ℕ → List ℕ → Type 0) (tears : ℕ → Type 0) (calls : L → Option (List LinkCall)) (lost : L → ℕ) (held : O → Option (List ℕ)) where
  -- what the acts, a call of the link that failed and a prefix of a line left at link and output
  pub record Leaves (acts : List Act) (failed : List LinkCall) (text : List ℕ) (link_old link_new : L) (out_old out_new : O) : Type 0 where
    pub link : Records (calls_of acts ++ failed) (calls link_old) (calls link_new)
    pub output : Appends (held out_old) (held out_new) (printed acts ++ text)
    -- a send fails only where the link's count rose
    pub failed_sends : 1 ≤ failed_in acts → Rose (lost link_old) (lost link_new)

  -- All turns were made, and nothing is pending.
  pub record Serves (config : Config) (logs : List Log) (turns : ℕ) (result : Served) (disks : D) (link_old link_new : L) (out_old out_new : O) : Type 0 where
    pub acts : List Act
    pub run : IsServerRun config logs turns acts
    pub left : Leaves acts [] [] link_old link_new out_old out_new
    pub kept : AllByRecursion (λ site. KeepsFacts disk may_leave config.checkpoint disks site.centre site.node.facts) (served config logs run.given).sites
    pub serials : AllByRecursion HasSerials (served config logs run.given).sites
    pub turns_told : result.turns ≡ turns
    pub steps_told : result.steps ≡ count_limited (steps_in acts)
    pub dropped_told : result.dropped ≡ count_limited (dropped_in acts)
    pub lost_told : result.lost ≡ count_limited (lost_in acts)

  -- It ended before: of the turns that were made a prefix of the acts was done, and this is what comes next. A log has the facts that
  -- were appended, or where its disk failed perhaps those that were being appended too, all of them, whatever a crash leaves of it;
  -- where it ended while it opened, so it is of logs that were durable, and at a boot on disks that tear no byte to 1.
  pub record BreaksOff (config : Config) (logs : List Log) (turns : ℕ) (fault : ServeFault) (disks_old disks : D) (link_old link_new : L) (out_old out_new : O) : Type 0 where
    pub acts : List Act
    pub rest : List Act
    pub stops : StopsAt config logs turns fault acts rest
    pub comes : ComesAt fault rest
    pub boots : BootsRefused config.cluster logs fault
    -- a log is said to be full only where it has no room for the facts that come next
    pub full : OnFull disk may_leave config.checkpoint disks fault rest
    pub printed_more : ℕ
    pub left : Leaves acts (failed_by fault rest) (take printed_more (text_begun fault rest)) link_old link_new out_old out_new
    pub kept : WhileOpening stops (AllByRecursion (IsDurable disk may_leave disks_old) logs × IsSafeAt tears fault rest)
        → AllByRecursion (λ log. MayHaveFacts disk may_leave disks log.centre (facts_after log.centre log.facts acts) (in_flight fault log.centre rest)) logs

  abbrev pub ServesOrBreaksOff : Config → List Log → ℕ → Result Served ServeFault → D → D → L → L → O → O → Type 0
  ServesOrBreaksOff config logs turns (Ok result) disks_old disks link_old link_new out_old out_new = Serves config logs turns result disks link_old link_new out_old out_new
  ServesOrBreaksOff config logs turns (Err fault) disks_old disks link_old link_new out_old out_new = BreaksOff config logs turns fault disks_old disks link_old link_new out_old out_new
