-- How the commands that serve nodes end over an accepted configuration, by their logs and where nothing failed.
use Rattle.std.specs.List.{AllByRecursion, range_with_len}
use Rattle.std.specs.Prelude.{List, Ok, Option, Some, [], map, true, ⊤, ℕ, ◌-◌, ◌<◌, ◌^◌, ◌∷◌, ◌≡◌}
use Rattle.mdcc_log_file.specs.declared.fault.LogFault.{LogFault}
use Rattle.mdcc_config.specs.declared.config.Config.{Config}
use Rattle.mdcc_disks.specs.Disks.{Disk}
use Rattle.mdcc_command_endings.specs.Completions.{CompletesAs}
use Rattle.mdcc_command_endings.specs.Logs.{AreAreasTold, EndsByLogs, node_booted_at}
use Rattle.mdcc_command_endings.specs.Readings.{IsConfigRead}
use Rattle.mdcc_link.specs.Link.{LinkCall}
use Rattle.mdcc_def_protocol.specs.Belongs.{is_centre}
use Rattle.mdcc_def_protocol.specs.Facts.{epoch_of}
use Rattle.mdcc_def_rules.specs.declared.node.BootFault.{BootFault}
use Rattle.mdcc_def_server_runs.specs.Servers.{Log}
use Rattle.mdcc_serve.specs.Serving.{AreLogsOf, BreaksOff, IsServedLog, Serves}
use Rattle.mdcc_serve.specs.declared.served.Served.{Served}
use Rattle.mdcc_command_serve.specs.Commands.{AllAreTold}
use Rattle.mdcc_serve_site.specs.declared.fault.ServeFault.{ServeFault}

-- the next boot is not the last one
abbrev pub IsBelowLast : Log → Type 0
IsBelowLast log = epoch_of log.facts < 2 ^ 32 - 1

-- the limits of a server: that of a log, of the cells of a node and of the serials of an epoch
abbrev pub IsLimit : ServeFault → Type 0
IsLimit (ServeFault.Log a LogFault.LogFull) = ⊤
IsLimit (ServeFault.Boot a (BootFault.Room needed cells)) = ⊤
IsLimit ServeFault.Serial = ⊤
IsLimit fault = ⊥

-- ---- by the logs

module _ {D : Type 0} (disk : D → ℕ → Disk) (disks : D) where
  -- `node K TURNS`
  abbrev pub NodeEndsByLog : Option (List ℕ) → ℕ → ℕ → Type 0
  NodeEndsByLog left centre status =
      (input : List ℕ) (config : Config) → left ≡ Some input → IsConfigRead input (Ok config) → is_centre config.cluster centre ≡ true → AreAreasTold disk disks centre
      → EndsByLogs (node_booted_at disk config.cluster disks) centre centre status

  -- `cluster TURNS`
  abbrev pub ClusterEndsByLogs : Option (List ℕ) → ℕ → Type 0
  ClusterEndsByLogs left status =
      (input : List ℕ) (config : Config) → left ≡ Some input → IsConfigRead input (Ok config) → AllAreTold disk config.cluster disks
      → EndsByLogs (node_booted_at disk config.cluster disks) 1 config.cluster.quorums.centres status

-- ---- where nothing failed

module _ {D L O : Type 0} (disk : D → ℕ → Disk) (may_leave : D → ℕ → List ℕ → Type 0) (tears : ℕ → Type 0) (calls : L → Option (List LinkCall)) (lost : L → ℕ) (held : O → Option (List ℕ)) (disks_old disks_new : D) (link_old link_new : L) (out_old out_new : O) where
  -- all turns were made
  abbrev pub ServesAllTurns : Config → List Log → ℕ → Type 0
  ServesAllTurns config logs turns = (served : Served) × Serves disk may_leave tears calls lost held config logs turns served disks_new link_old link_new out_old out_new

  -- it ended before, at a limit
  abbrev pub EndsAtLimit : Config → List Log → ℕ → Type 0
  EndsAtLimit config logs turns =
      (fault : ServeFault) × IsLimit fault × BreaksOff disk may_leave tears calls lost held config logs turns fault disks_old disks_new link_old link_new out_old out_new

  -- `node K TURNS` over an allowed log with an epoch below the last
  abbrev pub NodeCompletes : Option (List ℕ) → ℕ → ℕ → ℕ → Type 0
  NodeCompletes left centre turns status =
      (input : List ℕ) (config : Config) (log : Log) → left ≡ Some input → IsConfigRead input (Ok config) → is_centre config.cluster centre ≡ true
      → log.centre ≡ centre → IsServedLog disk config.cluster disks_old log → IsBelowLast log
      → CompletesAs status (ServesAllTurns config (log ∷ []) turns) (EndsAtLimit config (log ∷ []) turns)

  -- `cluster TURNS` over allowed logs with epochs below the last
  abbrev pub ClusterCompletes : Option (List ℕ) → ℕ → ℕ → Type 0
  ClusterCompletes left turns status =
      (input : List ℕ) (config : Config) (logs : List Log) → left ≡ Some input → IsConfigRead input (Ok config)
      → map (λ log. log.centre) logs ≡ range_with_len 1 config.cluster.quorums.centres → AreLogsOf disk config.cluster disks_old logs → AllByRecursion IsBelowLast logs
      → CompletesAs status (ServesAllTurns config logs turns) (EndsAtLimit config logs turns)
