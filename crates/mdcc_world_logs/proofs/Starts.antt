-- What a start over the disk of a centre makes of the logs.
use Rattle.std.proofs.Common.{◌≡◌, ◌≢◌, ◌+◌, ◌-◌, ◌≤◌, ◌<◌, ◌^◌, ◌∷◌, [], Bool, Err, List, Ok, Option, Some, ap, arith, if◌then◌else◌, length, nat_le, refl, set, subst, sym, true, false, nat_lt, ℕ, ◌∙◌}
use Rattle.std.specs.List.{AllByRecursion}
use Rattle.std.proofs.lemmas.Bool.{false≢true, le-ltb, lt-leb, ltb-false, ltb-true}
use Rattle.std.proofs.lemmas.Bool.Decides.{nat_tests}
use Rattle.mdcc_node_boot.proofs.Alike.{boots_alike}
use Rattle.mdcc_disks.specs.Contents.{tears_of}
use Rattle.mdcc_log.specs.AtRest.{IsAtRest}
use Rattle.mdcc_log_file.specs.Area.{AreaLog, payloads, read_areas}
use Rattle.mdcc_log_file.specs.Both.{KeepsBut}
use Rattle.mdcc_log.specs.Frames.{OpenAreas}
use Rattle.mdcc_log.specs.Crash.{ReadsAsEither}
use Rattle.mdcc_log_file.specs.declared.fault.LogFault.{LogFault}
use Rattle.mdcc_disks.specs.Disks.{Only}
use Rattle.mdcc_disks.specs.Memory.{AllMemory, counts_now_of, disk_of, is_there, left_since_of, may_leave_of, moment_of}
use Rattle.mdcc_log_file.specs.Log.{log_limit}
use Rattle.mdcc_node_log.proofs.Logged.{logged-length}
use Rattle.mdcc_node_log.proofs.Places.{from_both}
use Rattle.mdcc_node_log.proofs.Roomy.{roomy_log}
use Rattle.mdcc_node_log.proofs.Struck.{rest_areas}
use Rattle.mdcc_world_logs.proofs.Calls.{stays-durable}
use Rattle.mdcc_world_logs.proofs.Refusals.{its-payloads, leaves-here, one}
use Rattle.mdcc_world_logs.proofs.Standing.{IsSame, both-same, cond-here, cond-there, elsewhere, log-here, log-same, logs-with, others-same, put}
use Rattle.mdcc_world_logs.proofs.Tails.{has-tail, tail-open, tail-read}
use Rattle.mdcc_node_log.specs.Nodes.{CentreStore, IsNodeOf, are_stored, store_cells}
use Rattle.mdcc_world_logs.specs.Represents.{IsLogOf, LogsRepresent, MayHave, log_at, with_up}
use Rattle.mdcc_world_logs.specs.Starting.{HasStarted, OnNone, RunsWithTail, StartsOver, cells_with_boot, lacking}
use Rattle.mdcc_world_logs.specs.Tails.{HasTail, tail_at}
use Rattle.mdcc_world_logs.specs.declared.logs.Logs.{Logs}
use Rattle.mdcc_option.specs.declared.cluster.Cluster.{Cluster}
use Rattle.mdcc_def_messages.specs.Lengths.{cells_needed, log_length}
use Rattle.mdcc_def_protocol.specs.Cells.{cells_held}
use Rattle.mdcc_def_protocol.specs.Facts.{epoch_of}
use Rattle.mdcc_def_protocol.specs.Volatile.{initial_volatile}
use Rattle.mdcc_def_messages.specs.Spelling.{fact_bytes, encodings_of}
use Rattle.mdcc_def_messages.specs.declared.facts.Fact.{Fact}
use Rattle.mdcc_node_log.specs.Logged.{AreLogged}
use Rattle.mdcc_node_log.specs.Starting.{HasLogRoom, IsAsBefore, IsLogOnDisks as IsReadAs, IsRefused, KeepsLog, Runs, booted_over, size_with_boot}
use Rattle.mdcc_node_log.specs.declared.fault.StartFault.{StartFault}
use Rattle.mdcc_node_log.specs.declared.starting.Running.{Running}
use Rattle.mdcc_def_rules.specs.Boot.{booted_by, next_boot}
use Rattle.mdcc_def_rules.specs.declared.node.BootFault.{BootFault}
use Rattle.mdcc_theorem_node_steps.proofs.Booting.{boot-reads}
use Rattle.mdcc_theorem_node_steps.proofs.Each.{each-append}
use Rattle.mdcc_theorem_node_steps.specs.NodeInvariant.{FitInTurn, fact_payloads}
use Rattle.mdcc_def_simulation.specs.Checkpoints.{checkpoint_every, tail_after_append}

-- ---- the cells of a centre

-- no fact that had room in them needs more than there are
each-few : (cluster : Cluster) (facts : List Fact) → FitInTurn cluster facts → cluster.cells < 2 ^ 63
    → AllByRecursion (λ payload. (fact : Fact) → payload ≡ Some fact → cells_needed fact < 2 ^ 63) (fact_payloads facts)
each-few cluster [] fits few = tt
each-few cluster (fact ∷ facts) fits few =
    each-append (λ (payload : Option Fact). (other : Fact) → payload ≡ Some other → cells_needed other < 2 ^ 63) (fact_payloads facts) (Some fact ∷ [])
    (each-few cluster facts fits.0 few)
    (λ other e. let same : fact ≡ other = cc in subst (λ (f : Fact). cells_needed f < 2 ^ 63) same (last (cells_held facts) (cells_needed fact) cluster.cells fits.1 few), tt)
  where
    last : (a b c : ℕ) → a + b ≤ c → c < 2 ^ 63 → b < 2 ^ 63
    last a b c h few = omega (h, few, arith)

module _ (cluster : Cluster) (facts : List Fact) (are : AreLogged cluster facts) (few : cluster.cells < 2 ^ 63) (fits : FitInTurn cluster facts) (early : epoch_of facts < 2 ^ 32 - 1) where
  -- a boot over them is the definition's
  over-cells : booted_over cluster.cells cluster facts ≡ booted_by cluster (Ok facts)
  over-cells = boots_alike cluster (fact_payloads facts) few (each-few cluster facts fits few) ∙ boot-reads cluster facts are.allowed fits

  boot-over : booted_over cluster.cells cluster facts
      ≡ (if nat_lt cluster.cells (cells_with_boot facts) then Err (BootFault.Room (cells_with_boot facts) cluster.cells) else Ok (next_boot facts ∷ facts))
  boot-over = let left : nat_le (2 ^ 32 - 1) (epoch_of facts) ≡ false = lt-leb (2 ^ 32 - 1) (epoch_of facts) early in over-cells ∙ rw left refl

  fits-by : (past : Bool) → (past ≡ false → cells_with_boot facts ≤ cluster.cells) → (all : List Fact)
      → (if past then Err (BootFault.Room (cells_with_boot facts) cluster.cells) else Ok (next_boot facts ∷ facts)) ≡ Ok all → cells_with_boot facts ≤ cluster.cells
  fits-by true within all e = absurd (cc)
  fits-by false within all e = within refl

  lacks-by : (past : Bool) → (past ≡ true → cluster.cells < cells_with_boot facts) → (needed all : ℕ)
      → (if past then Err (BootFault.Room (cells_with_boot facts) cluster.cells) else Ok (next_boot facts ∷ facts)) ≡ Err (BootFault.Room needed all)
      → (cluster.cells < cells_with_boot facts) × (needed ≡ cells_with_boot facts)
  lacks-by true past needed all e = (past refl, cc)
  lacks-by false past needed all e = absurd (cc)

  -- what comes of a start that is refused
  pub lacking-over : (me : ℕ) (old new : AllMemory) (roomy : Type 0) (fault : StartFault) → roomy → IsRefused cluster.cells cluster facts roomy fault → StartsOver (lacking fault) cluster me facts old new
  lacking-over me old new roomy (StartFault.Log LogFault.LogFull) room h =
      (fits-by (nat_lt cluster.cells (cells_with_boot facts)) (ltb-false cluster.cells (cells_with_boot facts)) (next_boot facts ∷ facts) (sym boot-over ∙ h.0), h.1 room)
  lacking-over me old new roomy (StartFault.Log LogFault.DiskFault) room h = tt
  lacking-over me old new roomy (StartFault.Log LogFault.Memory) room h = tt
  lacking-over me old new roomy (StartFault.Log (LogFault.NotALog n)) room h = tt
  lacking-over me old new roomy (StartFault.Boot (BootFault.Room needed all)) room h =
      lacks-by (nat_lt cluster.cells (cells_with_boot facts)) (ltb-true cluster.cells (cells_with_boot facts)) needed all (sym boot-over ∙ h)
  lacking-over me old new roomy (StartFault.Boot (BootFault.NotARun n)) room h = tt
  lacking-over me old new roomy (StartFault.Boot BootFault.Epochs) room h = tt
  lacking-over me old new roomy (StartFault.Boot BootFault.Memory) room h = tt
  lacking-over me old new roomy StartFault.Memory room h = tt

-- and the log is as it was
pub lacking-kept : (all : List (List ℕ)) (me : ℕ) (old new : AllMemory) (fault : StartFault) → KeepsLog all fault me checkpoint_every disk_of may_leave_of old new → OnNone (lacking fault) all me old new
lacking-kept all me old new (StartFault.Log LogFault.LogFull) h = h
lacking-kept all me old new (StartFault.Log LogFault.DiskFault) h = tt
lacking-kept all me old new (StartFault.Log LogFault.Memory) h = tt
lacking-kept all me old new (StartFault.Log (LogFault.NotALog n)) h = tt
lacking-kept all me old new (StartFault.Boot (BootFault.Room needed total)) h = h
lacking-kept all me old new (StartFault.Boot (BootFault.NotARun n)) h = tt
lacking-kept all me old new (StartFault.Boot BootFault.Epochs) h = tt
lacking-kept all me old new (StartFault.Boot BootFault.Memory) h = tt
lacking-kept all me old new StartFault.Memory h = tt

-- none runs
pub lacking-tail : (fault : StartFault) (tail : ℕ) → RunsWithTail (lacking fault) tail
lacking-tail (StartFault.Log LogFault.LogFull) tail = tt
lacking-tail (StartFault.Log LogFault.DiskFault) tail = tt
lacking-tail (StartFault.Log LogFault.Memory) tail = tt
lacking-tail (StartFault.Log (LogFault.NotALog n)) tail = tt
lacking-tail (StartFault.Boot (BootFault.Room needed total)) tail = tt
lacking-tail (StartFault.Boot (BootFault.NotARun n)) tail = tt
lacking-tail (StartFault.Boot BootFault.Epochs) tail = tt
lacking-tail (StartFault.Boot BootFault.Memory) tail = tt
lacking-tail StartFault.Memory tail = tt

-- ---- a disk in memory tears no byte to 1

pub no-gate-is-torn-open : tears_of 1 → ⊥
no-gate-is-torn-open is = omega (is, arith)

-- ---- the log has no room

pub full-log : (facts : List Fact) → log_limit < size_with_boot facts → nat_lt log_limit (log_length (next_boot facts ∷ facts)) ≡ true
full-log facts long = let size = logged-length (next_boot facts ∷ facts) in grind (arith, nat_tests, size, long)

roomy-log : (facts : List Fact) → size_with_boot facts ≤ log_limit → nat_lt log_limit (log_length (next_boot facts ∷ facts)) ≡ false
roomy-log facts short = le-ltb log_limit (log_length (next_boot facts ∷ facts)) (omega (logged-length (next_boot facts ∷ facts), short, arith))

-- ---- the log of a centre is read

module _ (logs : Logs) (d : AllMemory) (a : ℕ) (is_up : Bool) (facts : List Fact) (its : IsLogOf logs a is_up facts) (same : (p : ℕ) → IsSame logs.disks d p) where
  pub read-same : read_areas (disk_of d a).bytes (disk_of d (a + 16)).bytes ≡ Ok its.log
  read-same = ap (λ (bytes : List ℕ). read_areas bytes (disk_of d (a + 16)).bytes) (same a).bytes ∙ ap (λ (bytes : List ℕ). read_areas (disk_of logs.disks a).bytes bytes) (same (a + 16)).bytes ∙ its.read

  pub reads : IsReadAs facts (disk_of d a) (disk_of d (a + 16))
  reads = record {
    told_first = (same a).there ∙ its.there;
    told_second = (same (a + 16)).there ∙ its.there_other;
    read = its-payloads (disk_of d a).bytes (disk_of d (a + 16)).bytes its.log (encodings_of facts) read-same its.payloads_are;
  }

  pub room : HasLogRoom checkpoint_every (disk_of d a) (disk_of d (a + 16))
  room = record { log = its.log; read = read-same; roomy = its.roomy; often = omega arith }

  pub durable-first : Only (disk_of d a).bytes (may_leave_of d a)
  durable-first = stays-durable logs.disks d a (same a) its.durable

  pub durable-second : Only (disk_of d (a + 16)).bytes (may_leave_of d (a + 16))
  durable-second = stays-durable logs.disks d (a + 16) (same (a + 16)) its.durable_other

module _ (old new : Logs) (a centres : ℕ) (up : ℕ → Bool) (facts : ℕ → List Fact) (stand : LogsRepresent old centres up facts) (some : 1 ≤ a) (few : a ≤ length old.open.items)
    (d : AllMemory) (same : (p : ℕ) → IsSame old.disks d p) (keeps : KeepsBut disk_of may_leave_of moment_of left_since_of d new.disks a (a + 16)) where
  its : IsLogOf old a (up a) (facts a)
  its = one old new a centres up facts stand some few

  beside : (p : ℕ) → p ≢ a → p ≢ a + 16 → IsSame old.disks new.disks p
  beside p first second = both-same old.disks d new.disks p (same p) (elsewhere d new.disks a (a + 16) p keeps first second)

  there : is_there new.disks a ≡ true
  there = keeps.told_one ∙ (same a).there ∙ its.there

  there-other : is_there new.disks (a + 16) ≡ true
  there-other = keeps.told_two ∙ (same (a + 16)).there ∙ its.there_other

  -- ---- a centre has started again

  pub restarted : (before : AllMemory) (centre : Running CentreStore) (cluster : Cluster) → new.open.items ≡ set old.open.items (a - 1) centre.log
      → HasLogRoom checkpoint_every (disk_of before a) (disk_of before (a + 16)) → FitInTurn cluster (facts a)
      → Runs are_stored store_cells cluster.cells centre cluster a checkpoint_every (facts a) disk_of may_leave_of before new.disks
      → HasStarted centre.node centre.epoch new cluster centres (with_up up a true) a facts
  restarted before centre cluster items roomy fits runs =
      let next : next_boot (facts a) ≡ Fact.Booted centre.epoch = ap (λ (n : ℕ). Fact.Booted n) (sym runs.epoch) in
      record {
        next = runs.epoch;
        node_of = subst (λ (fact : Fact). IsNodeOf centre.node cluster a (fact ∷ facts a) initial_volatile) next (record { itself = runs.node; cells = runs.total_is; fits = (fits, runs.fits) });
        stand = put old new a centre.log (Fact.Booted centre.epoch) centres up (with_up up a true) facts stand some few items
            (others-same old.disks new.disks a its.range beside)
            (λ b other. cond-there a b true (up b) other)
            there there-other
            (record {
              centre = runs.place;
              every = runs.every_is;
              few = runs.few;
              roomy = runs.roomy roomy;
              at_rest = subst (λ (fact : Fact). IsAtRest disk_of may_leave_of new.disks centre.log (encodings_of (fact ∷ facts a))) next runs.at_rest;
            });
        room = subst (λ (fact : Fact). nat_lt log_limit (log_length (fact ∷ facts a)) ≡ false) next (roomy-log (facts a) runs.within);
      }

  pub restarted-tail : (more : ℕ → List Fact) (log : OpenAreas) (was : AreaLog) → read_areas (disk_of old.disks a).bytes (disk_of old.disks (a + 16)).bytes ≡ Ok was → new.open.items ≡ set old.open.items (a - 1) log → LogsRepresent new centres (with_up up a true) more
      → log.tail ≡ tail_after_append (length was.tail) → HasTail old new a (tail_after_append (tail_at old a))
  restarted-tail more log was read items stands tail =
      let here = stands.each a some (omega (few, stand.as_many, arith)) in
      has-tail old new a (tail_after_append (tail_at old a)) (others-same old.disks new.disks a its.range beside)
      (tail-open new a (more a) (here.open (cond-here a true (up a))) ∙ ap (λ (l : OpenAreas). l.tail) (log-here old new a log some few items) ∙ tail
      ∙ ap tail_after_append (sym (tail-read old a was read)))

  -- ---- a start for which the log or the node has no room

  pub none-tail : IsAsBefore (encodings_of (facts a)) a checkpoint_every disk_of may_leave_of d new.disks → HasTail old new a (tail_at old a)
  none-tail was =
      has-tail old new a (tail_at old a) (others-same old.disks new.disks a its.range beside)
      (tail-read new a its.log (was.same its.log (read-same old d a (up a) (facts a) its same)) ∙ sym (tail-read old a its.log its.read))

  pub none-stays-as : (now : ℕ → Bool) → now a ≡ false → ((b : ℕ) → b ≢ a → now b ≡ up b) → new.open.items ≡ old.open.items
      → IsAsBefore (encodings_of (facts a)) a checkpoint_every disk_of may_leave_of d new.disks → LogsRepresent new centres now facts
  none-stays-as now down others items was =
      let rest = was.at_rest in
      let durable = from_both (λ p. Only (disk_of new.disks p).bytes (may_leave_of new.disks p)) a was.frames.centre was.frames.area was.place rest.range rest.in_use.durable rest.spare.durable in
      let roomy = was.room (room old d a (up a) (facts a) its same) in
      let read = (rest_areas disk_of may_leave_of new.disks was.frames a (encodings_of (facts a)) was.place rest).log_is in
      logs-with old new a centres up now facts facts stand (ap length items) (λ b first other. log-same old new items b)
      (others-same old.disks new.disks a its.range beside) others (λ b other. refl)
      (record {
        range = its.range;
        there = there;
        there_other = there-other;
        log = rest.log;
        read = read;
        payloads_are = sym rest.payloads_are;
        roomy = roomy_log checkpoint_every (disk_of new.disks a) (disk_of new.disks (a + 16)) rest.log read roomy;
        durable = durable.0;
        durable_other = durable.1;
        few = λ yes. absurd (false≢true (sym down ∙ yes));
        «open» = λ yes. absurd (false≢true (sym down ∙ yes));
      })

  pub none-stays : up a ≡ false → new.open.items ≡ old.open.items → IsAsBefore (encodings_of (facts a)) a checkpoint_every disk_of may_leave_of d new.disks → LogsRepresent new centres up facts
  none-stays down items was = none-stays-as up down (λ b other. refl) items was

  pub none-stays-down : new.open.items ≡ old.open.items → IsAsBefore (encodings_of (facts a)) a checkpoint_every disk_of may_leave_of d new.disks → LogsRepresent new centres (with_up up a false) facts
  none-stays-down items was = none-stays-as (with_up up a false) (cond-here a false (up a)) (λ b other. cond-there a b false (up b) other) items was

  -- ---- a start that found no memory

  pub start-may-have : ((first second : List ℕ) → left_since_of new.disks a (moment_of d) first → left_since_of new.disks (a + 16) (moment_of d) second
      → ReadsAsEither (encodings_of (facts a)) (fact_bytes (next_boot (facts a))) (payloads first second)) → ((b : ℕ) → 1 ≤ b → b ≢ a → log_at new b ≡ log_at old b)
      → MayHave new centres up a facts (next_boot (facts a))
  start-may-have reads logs =
      leaves-here old new a centres up facts stand some few (next_boot (facts a)) (keeps.told_one ∙ (same a).there) (keeps.told_two ∙ (same (a + 16)).there) beside logs
      (λ first second now now_other. reads first second (counts_now_of new.disks a (moment_of d) first keeps.later now) (counts_now_of new.disks (a + 16) (moment_of d) second keeps.later now_other))
