-- What a fault of a server says of the logs that it opens.
use Rattle.std.proofs.Common.{◌≡◌, ℕ, ◌+◌, ◌≤◌, List, [], ◌∷◌, Option, Result, Ok, Err, IsTrue, map, length, sym, ◌∙◌, ap, subst, inl, inr, arith, ◌⊎◌}
use Rattle.std.proofs.lemmas.Bool.{cases_eq}
use Rattle.std.specs.Prelude.{IfErr, is_ok}
use Rattle.mdcc_log_file.specs.Area.{payloads}
use Rattle.mdcc_log_file.specs.declared.fault.LogFault.{LogFault}
use Rattle.mdcc_config.specs.declared.config.Config.{Config}
use Rattle.mdcc_disks.specs.Disks.{Disk}
use Rattle.mdcc_command_endings.specs.Logs.{AreAreasTold, LogRefusal, node_booted_at, node_from, node_of}
use Rattle.mdcc_node_log.specs.Nodes.{facts_at_boot}
use Rattle.mdcc_link.specs.Link.{LinkCall}
use Rattle.mdcc_def_messages.specs.declared.facts.Fact.{Fact}
use Rattle.mdcc_option.specs.declared.cluster.Cluster.{Cluster}
use Rattle.mdcc_def_rules.specs.declared.node.BootFault.{BootFault}
use Rattle.mdcc_def_server_runs.specs.Acts.{Act}
use Rattle.mdcc_def_server_runs.specs.Servers.{Log, site_of}
use Rattle.mdcc_def_server_runs.specs.Sites.{Doing}
use Rattle.mdcc_serve.specs.Centres.{AllStop, AllTold, Places}
use Rattle.mdcc_serve.specs.Ends.{AllEnd}
use Rattle.mdcc_serve.specs.Openings.{BindsSome, LinesSome}
use Rattle.mdcc_serve.specs.Refusals.{AllBoot, AreTold, BootsAt, EndsStarted, MayFollow, MayServe, SaysAt, SaysOfLogs, StartEnds}
use Rattle.mdcc_serve.specs.Starts.{Follow, IsUntouched}
use Rattle.mdcc_serve.specs.declared.served.Served.{Served}
use Rattle.mdcc_serve_site.specs.Causes.{IsNoBoot}
use Rattle.mdcc_serve_site.specs.Moments.{MayComeAt, Outside}
use Rattle.mdcc_serve_site.specs.declared.fault.ServeFault.{ServeFault}

-- ---- the payloads of one log

-- what is made of them
pub node_read : (cluster : Cluster) (read : Result (List (List ℕ)) ℕ) (all : List (List ℕ)) → read ≡ Ok all → node_from cluster read ≡ node_of (facts_at_boot cluster all)
node_read cluster read all is = ap (node_from cluster) is

pub none_read : (cluster : Cluster) (read : Result (List (List ℕ)) ℕ) (n : ℕ) → read ≡ Err n → node_from cluster read ≡ Err (LogRefusal.NotALog n)
none_read cluster read n is = ap (node_from cluster) is

module _ {D : Type 0} (disk : D → ℕ → Disk) (cluster : Cluster) (disks : D) where
  -- ---- of a log to which nothing was done yet

  module _ (may_leave : D → ℕ → List ℕ → Type 0) (mid : D) (a : ℕ) (un : IsUntouched disk may_leave disks mid a) where
    told_still : AreAreasTold disk disks a → AreAreasTold disk mid a
    told_still told = record {
      first = subst (λ (d : Disk). IsTrue d.told) (sym un.first) told.first;
      second = subst (λ (d : Disk). IsTrue d.told) (sym un.second) told.second;
    }

    node_still : node_booted_at disk cluster mid a ≡ node_booted_at disk cluster disks a
    node_still =
        ap (λ (d : Disk). node_from cluster (payloads d.bytes (disk mid (a + 16)).bytes)) un.first
        ∙ ap (λ (d : Disk). node_from cluster (payloads (disk disks a).bytes d.bytes)) un.second

    pub boots_still : BootsAt disk cluster mid a → BootsAt disk cluster disks a
    boots_still boots told = subst (λ (r : Result (List Fact) LogRefusal). IsTrue (is_ok r)) node_still (boots (told_still told))

    pub says_still : (fault : ServeFault) → SaysAt disk cluster mid a fault → SaysAt disk cluster disks a fault
    says_still (ServeFault.Disk b) says = says
    says_still (ServeFault.Log b (LogFault.NotALog n)) says = λ told. (let is = says (told_still told) in (is.0, sym node_still ∙ is.1))
    says_still (ServeFault.Log b LogFault.LogFull) says = (says.0, boots_still says.1)
    says_still (ServeFault.Log b LogFault.DiskFault) says = says
    says_still (ServeFault.Log b LogFault.Memory) says = says
    says_still (ServeFault.Boot b BootFault.Memory) says = says
    says_still (ServeFault.Boot b BootFault.Epochs) says = (says.0, λ told. sym node_still ∙ says.1 (told_still told))
    says_still (ServeFault.Boot b (BootFault.NotARun n)) says = (says.0, λ told. sym node_still ∙ says.1 (told_still told))
    says_still (ServeFault.Boot b (BootFault.Room needed cells)) says = (says.0, λ told. sym node_still ∙ says.1 (told_still told))
    says_still ServeFault.Link says = says
    says_still ServeFault.Output says = says
    says_still ServeFault.Serial says = says
    says_still ServeFault.Memory says = says

  -- ---- several

  pub none_boot : (first : ℕ) → AllBoot disk cluster disks first first
  none_boot first a low high = absurd (omega (low, high, arith))

  pub one_boots : (first end : ℕ) → AllBoot disk cluster disks first end → BootsAt disk cluster disks end → AllBoot disk cluster disks first (end + 1)
  one_boots first end all boots a low high = elim (cases_eq a end) [
    | inl is ↦ subst (BootsAt disk cluster disks) (sym is) boots
    | inr other ↦ all a low (omega (high, other, arith))
  ]

  -- ---- once all are started

  pub binding_ends : {L : Type 0} (calls : L → Option (List LinkCall)) (lost faults : L → ℕ) (acts : List Act) (fault : ServeFault) (old new : L) (first end : ℕ) → AllBoot disk cluster disks first end → BindsSome calls lost faults acts fault old new
      → EndsStarted disk cluster disks first end fault
  binding_ends calls lost faults acts fault old new first end all stop =
      record { boots = all; may = subst (MayFollow disk cluster disks first end) (sym stop.is) tt }

  pub telling_ends : {O : Type 0} (held : O → Option (List ℕ)) (faults : O → ℕ) (acts : List Act) (fault : ServeFault) (old new : O) (first end : ℕ) → AllBoot disk cluster disks first end → LinesSome held faults acts fault old new
      → EndsStarted disk cluster disks first end fault
  telling_ends held faults acts fault old new first end all stop = record {
    boots = all;
    may = elim stop.comes [
      | inl is ↦ subst (MayFollow disk cluster disks first end) (sym is) tt
      | inr failed ↦ subst (MayFollow disk cluster disks first end) (sym failed.0) tt
    ];
  }

  turn_may : (Told : Type 0) (first end : ℕ) (fault : ServeFault) (rest : List Act) → (AreTold disk cluster disks first end → Told) → MayComeAt Told fault rest → IsNoBoot fault → MayFollow disk cluster disks first end fault
  turn_may Told first end (ServeFault.Disk a) rest known comes no_boot = tt
  turn_may Told first end (ServeFault.Log a (LogFault.NotALog n)) rest known comes no_boot = λ told. comes (known told)
  turn_may Told first end (ServeFault.Log a LogFault.LogFull) rest known comes no_boot = tt
  turn_may Told first end (ServeFault.Log a LogFault.DiskFault) rest known comes no_boot = comes
  turn_may Told first end (ServeFault.Log a LogFault.Memory) rest known comes no_boot = comes
  turn_may Told first end (ServeFault.Boot a why) rest known comes no_boot = absurd no_boot
  turn_may Told first end ServeFault.Link rest known comes no_boot = tt
  turn_may Told first end ServeFault.Output rest known comes no_boot = tt
  turn_may Told first end ServeFault.Serial rest known comes no_boot = tt
  turn_may Told first end ServeFault.Memory rest known comes no_boot = tt

  -- ---- the faults that there are

  says_may : (a : ℕ) (fault : ServeFault) → SaysAt disk cluster disks a fault → MayServe fault
  says_may a (ServeFault.Disk b) says = tt
  says_may a (ServeFault.Log b (LogFault.NotALog n)) says = tt
  says_may a (ServeFault.Log b LogFault.LogFull) says = tt
  says_may a (ServeFault.Log b LogFault.DiskFault) says = says
  says_may a (ServeFault.Log b LogFault.Memory) says = says
  says_may a (ServeFault.Boot b BootFault.Memory) says = says
  says_may a (ServeFault.Boot b BootFault.Epochs) says = tt
  says_may a (ServeFault.Boot b (BootFault.NotARun n)) says = tt
  says_may a (ServeFault.Boot b (BootFault.Room needed cells)) says = tt
  says_may a ServeFault.Link says = tt
  says_may a ServeFault.Output says = tt
  says_may a ServeFault.Serial says = tt
  says_may a ServeFault.Memory says = tt

  follows_may : (first end : ℕ) (fault : ServeFault) → MayFollow disk cluster disks first end fault → MayServe fault
  follows_may first end (ServeFault.Disk b) may = tt
  follows_may first end (ServeFault.Log b (LogFault.NotALog n)) may = tt
  follows_may first end (ServeFault.Log b LogFault.LogFull) may = tt
  follows_may first end (ServeFault.Log b LogFault.DiskFault) may = may
  follows_may first end (ServeFault.Log b LogFault.Memory) may = may
  follows_may first end (ServeFault.Boot b why) may = absurd may
  follows_may first end ServeFault.Link may = tt
  follows_may first end ServeFault.Output may = tt
  follows_may first end ServeFault.Serial may = tt
  follows_may first end ServeFault.Memory may = tt

  pub logs_may : {T : Type 0} (first end : ℕ) (result : Result T ServeFault) → SaysOfLogs disk cluster disks first end result → IfErr result MayServe
  logs_may first end (Ok done) says = tt
  logs_may first end (Err fault) (inl ends) = says_may ends.at fault ends.says
  logs_may first end (Err fault) (inr ends) = follows_may first end fault ends.may

-- ---- the turns

module _ {D L O : Type 0} (w : Outside D L O) (cluster : Cluster) (disks mid : D) (same : (p : ℕ) → (w.disk mid p).told ≡ (w.disk disks p).told) where
  -- centres that follow one another tell their bytes
  follow_told : (first end n : ℕ) (logs : List Log) → Follow n logs → first ≤ n → n + length logs ≤ end → AreTold w.disk cluster disks first end → AllTold w mid (map site_of logs)
  follow_told first end n [] follow low high told = tt
  follow_told first end n (log ∷ logs) follow low high told = (
    subst IsTrue (sym (same log.centre)) (subst (λ (m : ℕ). IsTrue (w.disk disks m).told) (sym follow.0) (told n low (omega (high, arith))).first),
    follow_told first end (n + 1) logs follow.1 (omega (low, arith)) (omega (high, arith)) told,
  )

  -- where one ended in its part
  stop_ends : (first end : ℕ) (logs : List Log) (fault : ServeFault) (old new : Places D L O) {before : List Act} {doing : Doing} → old.disks ≡ mid → Follow first logs → length logs + first ≡ end
      → AllBoot w.disk cluster disks first end → AllStop w (map site_of logs) before doing fault old new → StartEnds w.disk cluster disks first end fault ⊎ EndsStarted w.disk cluster disks first end fault
  stop_ends first end logs fault old new at follow many all stop = inr (record {
    boots = all;
    may = turn_may w.disk cluster disks (AllTold w old.disks (map site_of logs)) first end fault stop.broke.rest
        (λ told. subst (λ (d : D). AllTold w d (map site_of logs)) (sym at) (follow_told first end first logs follow (omega arith) (omega (many, arith)) told)) stop.broke.comes stop.no_boot;
  })

  pub turns_end : (config : Config) (first end : ℕ) (logs : List Log) (turns : ℕ) (result : Result Served ServeFault) (old new : Places D L O) → old.disks ≡ mid → Follow first logs → length logs + first ≡ end
      → AllBoot w.disk cluster disks first end → AllEnd w config (map site_of logs) turns result old new → SaysOfLogs w.disk cluster disks first end result
  turns_end config first end logs turns (Ok done) old new at follow many all ends = all
  turns_end config first end logs turns (Err fault) old new at follow many all (inl it) = stop_ends first end logs fault old new at follow many all it.stop
  turns_end config first end logs turns (Err fault) old new at follow many all (inr (inl it)) = stop_ends first end logs fault old new at follow many all it.stop
  turns_end config first end logs turns (Err fault) old new at follow many all (inr (inr but)) = inr (record {
    boots = all;
    may = elim but.tells.comes [
      | inl none ↦ subst (MayFollow w.disk cluster disks first end) (sym none.0) tt
      | inr failed ↦ subst (MayFollow w.disk cluster disks first end) (sym failed.0) tt
    ];
  })
