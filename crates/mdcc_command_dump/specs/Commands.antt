-- What the command that prints the facts of a log does.
use Rattle.std.specs.Io.KnownBytes.{Appends}
use Rattle.std.specs.Prelude.{Err, IfErr, IfSome, IsTrue, List, MatchBool, Ok, Option, Result, Some, true, ℕ, ◌+◌, ◌-◌, ◌<◌, ◌^◌, ◌≡◌, ◌≢◌}
use Rattle.mdcc_log_file.specs.Area.{payloads}
use Rattle.mdcc_config.specs.declared.config.Config.{Config}
use Rattle.mdcc_disks.specs.Disks.{Disk}
use Rattle.mdcc_command_dump.specs.Dumps.{IsDumped, IsUnopened, KeepsUnlessDiskFault, MayFail, dump_text}
use Rattle.mdcc_node_log.specs.Opening.{OnlyOpens, StaysAsLog}
use Rattle.mdcc_command_dump.specs.declared.fault.DumpFault.{DumpFault}
use Rattle.mdcc_command_endings.specs.Completions.{CompletesAs}
use Rattle.mdcc_command_endings.specs.Endings.{EndsWithStatus}
use Rattle.mdcc_command_endings.specs.Logs.{AreAreasTold, EndsByLogs, SaysLogs, node_booted_at}
use Rattle.mdcc_node_log.specs.Nodes.{facts_at_boot}
use Rattle.mdcc_command_endings.specs.Readings.{GivesConfig, IsConfigRead}
use Rattle.mdcc_command_endings.specs.declared.fault.Failure.{Failure}
use Rattle.mdcc_def_messages.specs.Spelling.{encodings_of}
use Rattle.mdcc_def_messages.specs.declared.facts.Fact.{Fact}
use Rattle.mdcc_def_protocol.specs.Belongs.{is_centre}
use Rattle.mdcc_def_protocol.specs.Facts.{epoch_of}
use Rattle.mdcc_node_log.specs.Logged.{AreLogged}
use Rattle.mdcc_node_log.specs.declared.fault.StartFault.{StartFault}
use Rattle.mdcc_def_rules.specs.declared.node.BootFault.{BootFault}

-- a fault at this centre as a command has it
abbrev pub of_dump : ℕ → DumpFault → Failure
of_dump centre (DumpFault.Log (StartFault.Log fault)) = Failure.Log centre fault
of_dump centre (DumpFault.Log (StartFault.Boot fault)) = Failure.Boot centre fault
of_dump centre (DumpFault.Log StartFault.Memory) = Failure.Memory
of_dump centre DumpFault.Output = Failure.Output
of_dump centre DumpFault.Memory = Failure.Memory

abbrev pub as_done : ℕ → Result (Unit {0}) DumpFault → Result (Unit {0}) Failure
as_done centre (Ok done) = Ok tt
as_done centre (Err fault) = Err (of_dump centre fault)

-- nothing was done at the disks, and nothing printed
pub record UntouchedDisks {D O : Type 0} (disks_old disks_new : D) (out_old out_new : O) : Type 0 where
  pub disks : disks_new ≡ disks_old
  pub output : out_new ≡ out_old

module _ {D O : Type 0} (disk : D → ℕ → Disk) (held : O → Option (List ℕ)) (disks_old disks_new : D) (out_old out_new : O) where
  -- The dump of this centre: over areas that tell their bytes it prints the facts of their log, which it leaves as it is, or refuses them.
  pub record DumpsOne (config : Config) (centre : ℕ) (dumped : Result (Unit {0}) Failure) : Type 0 where
    pub result : Result (Unit {0}) DumpFault
    pub is : dumped ≡ as_done centre result
    pub dumps : (all : List (List ℕ)) → IsTrue (disk disks_old centre).told → IsTrue (disk disks_old (centre + 16)).told
        → payloads (disk disks_old centre).bytes (disk disks_old (centre + 16)).bytes ≡ Ok all
        → IsDumped config.cluster all result (held out_old) (held out_new)
        × KeepsUnlessDiskFault result (payloads (disk disks_new centre).bytes (disk disks_new (centre + 16)).bytes ≡ Ok all)
    pub unread : (n : ℕ) → IsTrue (disk disks_old centre).told → IsTrue (disk disks_old (centre + 16)).told
        → payloads (disk disks_old centre).bytes (disk disks_old (centre + 16)).bytes ≡ Err n
        → IsUnopened n centre disk disks_old disks_new result (held out_old) (held out_new)
    pub causes : IfErr result (MayFail (held out_old) (held out_new))
    -- the log is refused just where no node boots from it
    pub logs : AreAreasTold disk disks_old centre → SaysLogs (node_booted_at disk config.cluster disks_old) centre centre dumped

  -- it ended before anything was done
  abbrev pub IsEarlyAt : Failure → Result (Unit {0}) Failure → Type 0
  IsEarlyAt failure dumped = (dumped ≡ Err failure) × UntouchedDisks disks_old disks_new out_old out_new

  -- by what the input was read as
  abbrev pub Dumps : Result Config Failure → ℕ → Result (Unit {0}) Failure → Type 0
  Dumps (Ok config) centre dumped = MatchBool (is_centre config.cluster centre) (DumpsOne config centre dumped) (IsEarlyAt Failure.Centre dumped)
  Dumps (Err failure) centre dumped = IsEarlyAt failure dumped

  -- `dump K`
  pub record RunsDump (input : List ℕ) (centre : ℕ) (dumped : Result (Unit {0}) Failure) : Type 0 where
    pub read : Result Config Failure
    pub gives : GivesConfig input read
    pub dumps : Dumps read centre dumped

  -- ---- over an accepted configuration with this centre, whose disks tell their bytes

  -- the status by its log
  abbrev pub DumpEndsByLog : Option (List ℕ) → ℕ → ℕ → Type 0
  DumpEndsByLog left centre status =
      (input : List ℕ) (config : Config) → left ≡ Some input → IsConfigRead input (Ok config) → is_centre config.cluster centre ≡ true → AreAreasTold disk disks_old centre
      → EndsByLogs (node_booted_at disk config.cluster disks_old) centre centre status

  -- Where nothing failed, of an allowed log with an epoch below the last: all its facts were printed, or its node has too few cells.
  abbrev pub DumpCompletes : Option (List ℕ) → ℕ → ℕ → Type 0
  DumpCompletes left centre status =
      (input : List ℕ) (config : Config) (facts : List Fact) → left ≡ Some input → IsConfigRead input (Ok config) → is_centre config.cluster centre ≡ true → AreAreasTold disk disks_old centre
      → payloads (disk disks_old centre).bytes (disk disks_old (centre + 16)).bytes ≡ Ok (encodings_of facts) → AreLogged config.cluster facts → epoch_of facts < 2 ^ 32 - 1
      → CompletesAs status (Appends (held out_old) (held out_new) (dump_text (encodings_of facts))) ((needed : ℕ) × (cells : ℕ) × (facts_at_boot config.cluster (encodings_of facts) ≡ Err (BootFault.Room needed cells)))

module _ {D O : Type 0} (disk : D → ℕ → Disk) (may_leave : D → ℕ → List ℕ → Type 0) (moment : D → ℕ) (left_since : D → ℕ → ℕ → List ℕ → Type 0) (tears : ℕ → Type 0) (held : O → Option (List ℕ)) (disks_old disks_new : D) (out_old out_new : O) where
  -- The command ended as its dump did. Whatever the input is, at the disks of this centre calls of an opening were made and no others,
  -- its log stands after a crash at any moment of it, and the disks of other centres are as they were.
  pub record DoesDump (left : Option (List ℕ)) (centre status : ℕ) (err_before err_after : Option (List ℕ)) (faults_before faults_after : ℕ) : Type 0 where
    pub dumped : Result (Unit {0}) Failure
    pub ends : EndsWithStatus dumped status err_before err_after faults_before faults_after
    pub runs : IfSome left (λ input. RunsDump disk held disks_old disks_new out_old out_new input centre dumped)
    pub opens : OnlyOpens disk may_leave moment left_since tears disks_old disks_new centre dumped
    pub any_moment : StaysAsLog disk may_leave moment left_since tears disks_old disks_new centre
    pub others : (p : ℕ) → p ≢ centre → p ≢ centre + 16 → disk disks_new p ≡ disk disks_old p
