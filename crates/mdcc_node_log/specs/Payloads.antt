-- What a start does over any log, whatever its payloads are.
use Rattle.std.specs.List.{AllByRecursion}
use Rattle.std.specs.Prelude.{Err, IsTrue, List, Ok, Result, ℕ, [], length, map, ⊤, ◌+◌, ◌++◌, ◌∷◌, ◌≡◌}
use Rattle.mdcc_node_boot.specs.Loading.{AreWithinFrames, boot_by, fact_read}
use Rattle.mdcc_disks.specs.Disks.{Disk}
use Rattle.mdcc_log_file.specs.Area.{payloads}
use Rattle.mdcc_log.specs.AtRest.{IsAtRest}
use Rattle.mdcc_log.specs.Frames.{OpenAreas}
use Rattle.mdcc_log.specs.Room.{IsFull}
use Rattle.mdcc_log_file.specs.declared.fault.LogFault.{LogFault}
use Rattle.mdcc_def_messages.specs.Spelling.{fact_bytes}
use Rattle.mdcc_def_messages.specs.declared.facts.Fact.{Fact}
use Rattle.mdcc_node.specs.BootEffects.{Boots}
use Rattle.mdcc_node.specs.Represents.{RepresentsCentre}
use Rattle.mdcc_node.specs.declared.node.Node.{Node}
use Rattle.mdcc_option.specs.declared.cluster.Cluster.{Cluster}
use Rattle.mdcc_def_protocol.specs.Facts.{epoch_of}
use Rattle.mdcc_def_protocol.specs.Volatile.{initial_volatile}
use Rattle.mdcc_def_rules.specs.declared.node.BootFault.{BootFault}
use Rattle.mdcc_theorem_encoding.specs.Laws.{AreBytes}
use Rattle.mdcc_node_log.specs.declared.fault.StartFault.{StartFault}
use Rattle.mdcc_node_log.specs.declared.starting.Running.{Running}

-- ---- its boot

module _ {S : Type 0} (stands : S → List Fact → Type 0) (cells : S → ℕ) (total : ℕ) (cluster : Cluster) (me : ℕ) where
  -- the node that these payloads give, with the new boot, or why they give none
  abbrev pub BootsFrom : List (List ℕ) → Result (Node S × Fact) StartFault → Type 0
  BootsFrom all (Ok booted) = Boots stands cells total (Ok booted) cluster me (boot_by total cluster (map fact_read all))
  BootsFrom all (Err (StartFault.Boot fault)) = Boots {S = S} stands cells total (Err fault) cluster me (boot_by total cluster (map fact_read all))
  BootsFrom all (Err fault) = ⊤

-- ---- all of it

module _ {D : Type 0} (disk : D → ℕ → Disk) (may_leave : D → ℕ → List ℕ → Type 0) (me every : ℕ) (old new : D) where
  -- where both areas tell their bytes, these payloads were read
  abbrev pub WereRead : List (List ℕ) → Type 0
  WereRead all = IsTrue (disk old me).told → IsTrue (disk old (me + 16)).told → payloads (disk old me).bytes (disk old (me + 16)).bytes ≡ Ok all

  -- they are in the open log then, all of it durable
  abbrev pub AreOpen : OpenAreas → List (List ℕ) → Type 0
  AreOpen log all = IsTrue (disk old me).told → IsTrue (disk old (me + 16)).told → IsAtRest disk may_leave new log all

  -- a log of these payloads was opened, and stands as it was read
  pub record HasOpened (all : List (List ℕ)) : Type 0 where
    pub log : OpenAreas
    pub of : log.centre ≡ me
    pub every_is : log.every ≡ every
    pub bytes : AllByRecursion AreBytes all
    pub short : AreWithinFrames all
    pub read : WereRead all
    pub open_log : AreOpen log all

  module _ {S : Type 0} (stands : S → List Fact → Type 0) (cells : S → ℕ) (total : ℕ) (cluster : Cluster) where
    -- The node boots from the payloads that were read, and the log has the new boot behind them.
    pub record StartsFrom (centre : Running S) : Type 0 where
      pub all : List (List ℕ)
      pub boot : Fact
      pub bytes : AllByRecursion AreBytes all
      pub short : AreWithinFrames all
      pub read : WereRead all
      pub boots : BootsFrom stands cells total cluster me all (Ok (centre.node, boot))
      pub epoch : (facts : List Fact) → RepresentsCentre stands centre.node cluster me facts initial_volatile → centre.epoch ≡ epoch_of facts
      pub open_log : AreOpen centre.log (all ++ fact_bytes boot ∷ [])

    -- No node boots from them.
    pub record GivesNoNode (fault : BootFault) : Type 0 where
      pub all : List (List ℕ)
      pub opened : HasOpened all
      pub boots : BootsFrom {S = S} stands cells total cluster me all (Err (StartFault.Boot fault))

    -- A node boots from them, and the open log has no room for its boot.
    pub record HasNoRoomForBoot : Type 0 where
      pub all : List (List ℕ)
      pub opened : HasOpened all
      pub booted : Node S × Fact
      pub boots : BootsFrom stands cells total cluster me all (Ok booted)
      pub full : IsFull opened.log (length (fact_bytes booted.1))

    -- by why it ended; a log that is none, a failed call of a disk and want of memory are said apart
    abbrev pub StartEnds : StartFault → Type 0
    StartEnds (StartFault.Boot fault) = GivesNoNode fault
    StartEnds (StartFault.Log LogFault.LogFull) = HasNoRoomForBoot
    StartEnds fault = ⊤

    abbrev pub StartsOrEnds : Result (Running S) StartFault → Type 0
    StartsOrEnds (Ok centre) = StartsFrom centre
    StartsOrEnds (Err fault) = StartEnds fault
