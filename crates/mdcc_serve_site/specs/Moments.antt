-- What acts leave of the disks, the link, the output and the counts of a server.
use Rattle.std.specs.Io.KnownBytes.{Appends}
use Rattle.std.specs.Prelude.{List, Option, [], take, ⊤, ℕ, ◌+◌, ◌++◌, ◌≡◌, ◌≢◌, ◌≤◌}
use Rattle.mdcc_log_file.specs.Both.{RoseAtOne}
use Rattle.mdcc_log_file.specs.declared.fault.LogFault.{LogFault}
use Rattle.mdcc_base.specs.Causes.{Rose}
use Rattle.mdcc_disks.specs.Disks.{Disk, Within}
use Rattle.mdcc_link.specs.Link.{LinkCall}
use Rattle.mdcc_serve_outbox.specs.Shows.{Records, calls_of, count_limited, failed_in}
use Rattle.mdcc_def_server_runs.specs.Acts.{Act, but_answers, dropped_in, lost_in, printed, steps_in}
use Rattle.mdcc_serve_site.specs.Causes.{ComesAt, failed_by, text_begun}
use Rattle.mdcc_serve_site.specs.Room.{OnFull}
use Rattle.mdcc_serve_site.specs.declared.fault.ServeFault.{ServeFault}

-- what is known of the disks, the link and the output, and after how many frames a checkpoint of a log is due
pub record Outside (D L O : Type 0) : Type 1 where
  pub every : ℕ
  pub disk : D → ℕ → Disk
  pub may_leave : D → ℕ → List ℕ → Type 0
  pub calls : L → Option (List LinkCall)
  pub lost : L → ℕ
  pub faults : L → ℕ
  pub held : O → Option (List ℕ)
  pub out_faults : O → ℕ

abbrev pub outside : {D L O : Type 0} → ℕ → (D → ℕ → Disk) → (D → ℕ → List ℕ → Type 0) → (L → Option (List LinkCall)) → (L → ℕ) → (L → ℕ) → (O → Option (List ℕ)) → (O → ℕ) → Outside D L O
outside every disk may_leave calls lost faults held out_faults = record {
  every = every;
  disk = disk;
  may_leave = may_leave;
  calls = calls;
  lost = lost;
  faults = faults;
  held = held;
  out_faults = out_faults;
}

-- the disks, the link and the output at one moment, with what was counted until then
pub record Moment (D L O : Type 0) : Type 0 where
  pub disks : D
  pub link : L
  pub out : O
  pub steps : ℕ
  pub dropped : ℕ
  pub lost : ℕ

-- so much more is counted, where a count stands still at its end
abbrev pub Adds : ℕ → ℕ → ℕ → Type 0
Adds n old new = count_limited new ≡ count_limited (old + n)

-- A fault comes next at such an act; where the disks do not tell their bytes their log may be none.
abbrev pub MayComeAt : Type 0 → ServeFault → List Act → Type 0
MayComeAt Told (ServeFault.Log a (LogFault.NotALog offset)) rest = Told → ⊥
MayComeAt Told (ServeFault.Log a LogFault.LogFull) rest = ComesAt (ServeFault.Log a LogFault.LogFull) rest
MayComeAt Told (ServeFault.Log a LogFault.DiskFault) rest = ⊥
MayComeAt Told (ServeFault.Log a LogFault.Memory) rest = ⊥
MayComeAt Told (ServeFault.Disk a) rest = ComesAt (ServeFault.Disk a) rest
MayComeAt Told (ServeFault.Boot a fault) rest = ComesAt (ServeFault.Boot a fault) rest
MayComeAt Told ServeFault.Link rest = ComesAt ServeFault.Link rest
MayComeAt Told ServeFault.Output rest = ComesAt ServeFault.Output rest
MayComeAt Told ServeFault.Serial rest = ComesAt ServeFault.Serial rest
MayComeAt Told ServeFault.Memory rest = ⊤

module _ {D : Type 0} (disk : D → ℕ → Disk) (may_leave : D → ℕ → List ℕ → Type 0) where
  -- Time passes: a disk tells its bytes if it did before, and no count of faults falls.
  pub record DiskPasses (old new : D) : Type 0 where
    pub told : (p : ℕ) → (disk new p).told ≡ (disk old p).told
    pub faults : (p : ℕ) → (disk old p).faults ≤ (disk new p).faults

  -- the disks of other centres are as they were
  pub record KeepsOthers (centre : ℕ) (old new : D) : Type 0 where
    pub others : (p : ℕ) → p ≢ centre → p ≢ centre + 16 → disk new p ≡ disk old p
    pub crash : (p : ℕ) → p ≢ centre → p ≢ centre + 16 → Within (may_leave old p) (may_leave new p)

module _ {D L O : Type 0} (w : Outside D L O) where
  pub record Passes (old new : Moment D L O) : Type 0 where
    pub told : (p : ℕ) → (w.disk new.disks p).told ≡ (w.disk old.disks p).told
    pub faults : (p : ℕ) → (w.disk old.disks p).faults ≤ (w.disk new.disks p).faults
    pub sends : w.lost old.link ≤ w.lost new.link
    pub receives : w.faults old.link ≤ w.faults new.link
    pub writes : w.out_faults old.out ≤ w.out_faults new.out

  -- what the acts, a call of the link that failed and the front of a line left
  pub record Leaves (acts : List Act) (failed : List LinkCall) (text : List ℕ) (old new : Moment D L O) : Type 0 where
    pub link : Records (calls_of acts ++ failed) (w.calls old.link) (w.calls new.link)
    pub output : Appends (w.held old.out) (w.held new.out) (printed acts ++ text)
    pub failed_sends : 1 ≤ failed_in acts → Rose (w.lost old.link) (w.lost new.link)
    pub steps : Adds (steps_in acts) old.steps new.steps
    pub dropped : Adds (dropped_in acts) old.dropped new.dropped
    pub lost_told : Adds (lost_in acts) old.lost new.lost

  -- these acts were done, whatever the link answered to sends
  pub record Did (expected : List Act) (old new : Moment D L O) : Type 0 where
    pub acts : List Act
    pub are : but_answers acts ≡ expected
    pub left : Leaves acts [] [] old new
    pub passes : Passes old new

  -- a fault of a disk, the link or the output comes only where its count rose
  abbrev pub Caused : ServeFault → Moment D L O → Moment D L O → Type 0
  Caused (ServeFault.Disk a) old new = RoseAtOne (w.disk old.disks a) (w.disk new.disks a) (w.disk old.disks (a + 16)) (w.disk new.disks (a + 16))
  Caused ServeFault.Link old new = Rose (w.faults old.link) (w.faults new.link)
  Caused ServeFault.Output old new = Rose (w.out_faults old.out) (w.out_faults new.out)
  Caused fault old new = ⊤

  -- A front of these acts was done, and at the rest comes the fault; the logs have what those done and those left say.
  pub record Broke (Told : Type 0) (Logs : List Act → List Act → Type 0) (expected : List Act) (fault : ServeFault) (old new : Moment D L O) : Type 0 where
    pub acts : List Act
    pub rest : List Act
    pub are : but_answers acts ++ rest ≡ expected
    pub comes : MayComeAt Told fault rest
    pub printed_more : ℕ
    pub left : Leaves acts (failed_by fault rest) (take printed_more (text_begun fault rest)) old new
    pub passes : Passes old new
    pub cause : Caused fault old new
    pub full : OnFull w.disk w.may_leave w.every new.disks fault rest
    pub logs : Logs acts rest
