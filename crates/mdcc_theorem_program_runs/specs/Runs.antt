-- What the contract of the top call says of a run that serves centres, in the words of the headline for clusters.
use Rattle.std.specs.List.{range_with_len}
use Rattle.std.specs.Prelude.{List, Option, Result, map, ℕ, ◌≡◌, ◌⊎◌}
use Rattle.mdcc_command_serve.specs.Commands.{UntouchedOutside}
use Rattle.mdcc_config.specs.declared.config.Config.{Config}
use Rattle.mdcc_def_server_runs.specs.Servers.{Log}
use Rattle.mdcc_disks.specs.Disks.{Disk}
use Rattle.mdcc_link.specs.Link.{LinkCall}
use Rattle.mdcc_serve.specs.Serving.{AreLogsOf, IsServedLog}
use Rattle.mdcc_serve.specs.declared.served.Served.{Served}
use Rattle.mdcc_serve_site.specs.declared.fault.ServeFault.{ServeFault}
use Rattle.mdcc_theorem_cluster_nodes.specs.Calls.{Clause, Setting}
use Rattle.mdcc_theorem_cluster_nodes.specs.Several.{ClauseOfAll}

module _ {D L O : Type 0} (disk : D → ℕ → Disk) (may_leave : D → ℕ → List ℕ → Type 0) (tears : ℕ → Type 0) (calls : L → Option (List LinkCall)) (lost : L → ℕ) (held : O → Option (List ℕ)) where
  -- It was a call of `serve_node` for this centre: the fields `result` and `serves` of `IsCalled`, as the theorems have them.
  pub record ServesCentre (config : Config) (centre : ℕ) (at : Setting disk may_leave tears calls lost held) : Type 0 where
    pub result : Result Served ServeFault
    pub serves : (log : Log) → log.centre ≡ centre → IsServedLog disk config.cluster at.disks_before log → Clause disk may_leave tears calls lost held config log at result

  -- It was a call of `serve_cluster`.
  pub record ServesCentres (config : Config) (at : Setting disk may_leave tears calls lost held) : Type 0 where
    pub result : Result Served ServeFault
    pub serves : (logs : List Log) → map (λ log. log.centre) logs ≡ range_with_len 1 config.cluster.quorums.centres → AreLogsOf disk config.cluster at.disks_before logs
        → ClauseOfAll disk may_leave tears calls lost held config logs at result

  -- nothing was done at its disks, its link and its output: its input was not read, for want of memory or since a read failed
  abbrev pub IsUntouched : Setting disk may_leave tears calls lost held → Type 0
  IsUntouched at = UntouchedOutside at.disks_before at.disks_after at.link_before at.link_after at.out_before at.out_after

  abbrev pub RunServesCentre : Config → ℕ → Setting disk may_leave tears calls lost held → Type 0
  RunServesCentre config centre at = ServesCentre config centre at ⊎ IsUntouched at

  abbrev pub RunServesCentres : Config → Setting disk may_leave tears calls lost held → Type 0
  RunServesCentres config at = ServesCentres config at ⊎ IsUntouched at
