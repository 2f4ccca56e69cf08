-- What a checkpoint that stops makes of the logs.
use Rattle.std.proofs.Common.{◌≡◌, ◌≢◌, inl, inr, ◌+◌, ◌-◌, ◌<◌, ◌≤◌, ◌∷◌, ◌++◌, [], Bool, List, Ok, ap, arith, cond, false, length, length-append, nat_le, refl, set, subst, sym, true, ℕ, ◌∙◌}
use Rattle.std.proofs.lemmas.Bool.{cases_Bool, false≢true, le-leb, leb-true, lt-leb}
use Rattle.std.proofs.lemmas.Bool.Decides.{nat_tests}
use Rattle.std.proofs.lemmas.List.{length-set}
use Rattle.mdcc_base.specs.declared.outside.Image.{Image}
use Rattle.mdcc_base.specs.declared.outside.Image.TheVariants.{Kept, Lost, Torn}
use Rattle.mdcc_log.proofs.Choice.{appended_payloads, packed_payloads}
use Rattle.mdcc_log_file.specs.Area.{AreaLog, area_bytes, payloads_of, read_areas}
use Rattle.mdcc_log.specs.AtRest.{IsAtRest}
use Rattle.mdcc_log_file.specs.Both.{KeepsBut}
use Rattle.mdcc_log.specs.Crash.{IsCurrent, IsLog}
use Rattle.mdcc_log.specs.Frames.{IsInUse, OpenAreas, appended, other_of, packed, place_of}
use Rattle.mdcc_world_log_stops.specs.Stops.{IsStoppedCopy, StoppedIsRead, StoppedIsRoomy, is_copy_kept, stopped_log}
use Rattle.mdcc_log.specs.Tails.{read_by}
use Rattle.mdcc_disks.specs.Contents.{Contents, durable, image_of}
use Rattle.mdcc_disks.specs.Memory.{AllMemory, CrashLeaves, IsBut, KeepsPlaces, at_place, crashed, disk_of, is_there, left_since_of, may_leave_of, moment_of, standing}
use Rattle.mdcc_log_file.proofs.LogRead.{short_more}
use Rattle.mdcc_log_file.specs.Log.{payload_limit}
use Rattle.mdcc_world_logs.proofs.Calls.{centre-is, crash-here, rest-there, roomy-there, tail-there}
use Rattle.mdcc_world_logs.proofs.Standing.{IsDurableAt, IsSame, both-same, cond-here, cond-there, elsewhere, log-there, logs-with, others-same, standing-same, there-same}
use Rattle.mdcc_world_logs.proofs.Stops.{only-these}
use Rattle.mdcc_world_logs.proofs.Tails.{has-tail, tail-read}
use Rattle.mdcc_world_logs.specs.Represents.{IsLogOf, LogsRepresent, log_at, with_fact_at, with_up}
use Rattle.mdcc_world_logs.specs.Stopping.{stopped_facts}
use Rattle.mdcc_world_logs.specs.Tails.{HasTail, tail_at}
use Rattle.mdcc_world_logs.specs.declared.logs.Logs.{Logs}
use Rattle.mdcc_def_messages.specs.Spelling.{fact_bytes, encodings_of}
use Rattle.mdcc_def_messages.specs.declared.facts.Fact.{Fact}
use Rattle.mdcc_node_log.proofs.Others.{but_areas}
use Rattle.mdcc_node_log.proofs.Places.{at_both, from_both, from_places}
use Rattle.mdcc_def_simulation.specs.Checkpoints.{checkpoint_every, is_checkpoint_kept, is_due_after, is_frame_kept, tail_stopped}

-- ---- what counts then

-- the frame of the append was durable
frame-kept : (call : ℕ) (image : Image) → 5 ≤ call → is_frame_kept call image ≡ true
frame-kept call Kept late = let few : 3 ≤ call = omega (late, arith) in grind (few, arith, nat_tests)
frame-kept call Lost late = grind (late, arith, nat_tests)
frame-kept call Torn late = grind (late, arith, nat_tests)

-- the calls of a checkpoint are counted from its first one
copy-kept : (call : ℕ) (image : Image) → 5 ≤ call → is_copy_kept (call - 4) image ≡ is_checkpoint_kept call image
copy-kept call Kept late = elim (cases_Bool (nat_le 10 call)) [
  | inl open' ↦ le-leb 6 (call - 4) (let ten = leb-true 10 call open' in omega (ten, arith)) ∙ sym open'
  | inr shut ↦ let few : call < 10 = grind (shut, arith, nat_tests) in lt-leb 6 (call - 4) (omega (few, late, arith)) ∙ sym shut
]
copy-kept call Lost late = refl
copy-kept call Torn late = refl

copied-payloads : (kept : Bool) (log : AreaLog) → payloads_of (cond kept (packed log) log) ≡ payloads_of log
copied-payloads true log = packed_payloads log
copied-payloads false log = refl

copied-tail : (kept : Bool) (log : AreaLog) → length (cond kept (packed log) log).tail ≡ cond kept 0 (length log.tail)
copied-tail true log = refl
copied-tail false log = refl

copied-facts : (facts : ℕ → List Fact) (a : ℕ) (fact : Fact) (call : ℕ) (image : Image) → 5 ≤ call → with_fact_at facts a fact ≡ stopped_facts facts a fact call image
copied-facts facts a fact call image late = ap (λ (b : Bool). cond b (with_fact_at facts a fact) facts) (sym (frame-kept call image late))

-- ---- both areas crash

module _ (leaves : CrashLeaves) (image : Image) (a : ℕ) (mid next new : AllMemory) (keeps : KeepsPlaces a mid next) (but : IsBut (crashed image (at_place mid a)) (at_place next a))
    (keeps_other : KeepsPlaces (a + 16) next new) (but_other : IsBut (crashed image (at_place next (a + 16))) (at_place new (a + 16))) where
  abbrev IsStruckAt : ℕ → Type 0
  IsStruckAt p = standing (at_place new p) ≡ durable (image_of image (standing (at_place mid p)))

  struck-first : IsStruckAt a
  struck-first = ap standing (keeps_other.others a (λ e. absurd (omega (e, arith)))) ∙ ap standing but ∙ leaves image (at_place mid a)

  struck-second : IsStruckAt (a + 16)
  struck-second =
      let before = ap standing (keeps.others (a + 16) (λ e. absurd (omega (e, arith)))) in
      ap standing but_other ∙ leaves image (at_place next (a + 16)) ∙ ap (λ (c : Contents). durable (image_of image c)) before

  counted : new.count ≡ mid.count
  counted = keeps_other.counted ∙ keeps.counted

  unstruck : (p : ℕ) → p ≢ a → p ≢ a + 16 → IsSame mid new p
  unstruck p first second = standing-same mid new p counted (ap standing (keeps_other.others p second) ∙ ap standing (keeps.others p first))

-- ---- the log of the centre

module _ (old : Logs) (a centres : ℕ) (up : ℕ → Bool) (facts : ℕ → List Fact) (stand : LogsRepresent old centres up facts) (running : up a ≡ true) (some : 1 ≤ a) (few : a ≤ length old.open.items)
    (log : OpenAreas) (is : log ≡ log_at old a) (d : AllMemory) (same : (p : ℕ) → IsSame old.disks d p)
    (fact : Fact) (payload : List ℕ) (bytes : payload ≡ fact_bytes fact) (fits : length payload ≤ payload_limit) where
  its : IsLogOf old a (up a) (facts a)
  its = stand.each a some (omega (few, stand.as_many, arith))

  abbrev pub standing-log : IsAtRest disk_of may_leave_of d log (encodings_of (facts a))
  standing-log = rest-there old old a centres up facts stand running some few d log is same

  abbrev place : ℕ
  place = place_of log.centre log.area

  abbrev other : ℕ
  other = place_of log.centre (other_of log.area)

  abbrev more : AreaLog
  more = appended standing-log.log payload

  of-centre : log.centre ≡ a
  of-centre = centre-is old old a centres up facts stand running some few d log is same

  valid : IsLog log.area more
  valid = let was = standing-log.in_use.valid in record { head = was.head; short = short_more standing-log.log.tail payload was.short fits }

  more-payloads : payloads_of more ≡ encodings_of (with_fact_at facts a fact a)
  more-payloads =
      appended_payloads standing-log.log payload
      ∙ ap (λ (ps : List (List ℕ)). ps ++ payload ∷ []) (sym standing-log.payloads_are)
      ∙ ap (λ (p : List ℕ). encodings_of (facts a) ++ p ∷ []) bytes
      ∙ ap encodings_of (sym (cond-here a (fact ∷ facts a) (facts a)))

  module _ (call : ℕ) (image : Image) (late : 5 ≤ call) (due : is_due_after (tail_at old a) ≡ true) (mid next : AllMemory) (new : Logs) (frames : OpenAreas)
      (items : new.open.items ≡ set old.open.items (a - 1) frames)
      (keeps : KeepsBut disk_of may_leave_of moment_of left_since_of d mid place other)
      (whole : IsInUse frames more (disk_of mid place).bytes (may_leave_of mid place))
      (copy : IsStoppedCopy (call - 4) more (standing (at_place mid other)))
      (read_law : StoppedIsRead) (room_law : StoppedIsRoomy) (leaves : CrashLeaves)
      (first_keeps : KeepsPlaces a mid next) (first_but : IsBut (crashed image (at_place mid a)) (at_place next a))
      (second_keeps : KeepsPlaces (a + 16) next new.disks) (second_but : IsBut (crashed image (at_place next (a + 16))) (at_place new.disks (a + 16))) where
    abbrev kept : Bool
    kept = is_copy_kept (call - 4) image

    abbrev after : AreaLog
    after = stopped_log (call - 4) image more

    struck : IsStruckAt leaves image a mid next new.disks first_keeps first_but second_keeps second_but place × IsStruckAt leaves image a mid next new.disks first_keeps first_but second_keeps second_but other
    struck =
        at_both (IsStruckAt leaves image a mid next new.disks first_keeps first_but second_keeps second_but) a log.centre log.area of-centre
        (struck-first leaves image a mid next new.disks first_keeps first_but second_keeps second_but) (struck-second leaves image a mid next new.disks first_keeps first_but second_keeps second_but) standing-log.range

    current-bytes : (disk_of new.disks place).bytes ≡ area_bytes more
    current-bytes = (crash-here image mid new.disks place (counted leaves image a mid next new.disks first_keeps first_but second_keeps second_but) struck.0 whole.durable).bytes ∙ whole.file

    current : IsCurrent log.area more (disk_of new.disks place).bytes
    current = record { valid = valid; file = inr ([], current-bytes) }

    other-bytes : (disk_of new.disks other).bytes ≡ image_of image (standing (at_place mid other))
    other-bytes = ap (λ (c : Contents). c.kept) struck.1

    by-area : read_by log.area (disk_of new.disks place).bytes (disk_of new.disks other).bytes ≡ Ok after
    by-area =
        subst (λ (l : List ℕ). read_by log.area (disk_of new.disks place).bytes l ≡ Ok after) (sym other-bytes)
        (read_law log.area (call - 4) image more (disk_of new.disks place).bytes (standing (at_place mid other)) current copy)

    read : read_areas (disk_of new.disks a).bytes (disk_of new.disks (a + 16)).bytes ≡ Ok after
    read =
        from_places (λ n p q. read_by n (disk_of new.disks p).bytes (disk_of new.disks q).bytes ≡ Ok after) (read_areas (disk_of new.disks a).bytes (disk_of new.disks (a + 16)).bytes ≡ Ok after) a
        (λ has. has) (λ has. has) log.area standing-log.range
        (subst (λ (n : ℕ). read_by log.area (disk_of new.disks (place_of n log.area)).bytes (disk_of new.disks (place_of n (other_of log.area))).bytes ≡ Ok after) of-centre by-area)

    durables : IsDurableAt new.disks a × IsDurableAt new.disks (a + 16)
    durables =
        from_both (IsDurableAt new.disks) a log.centre log.area of-centre standing-log.range
        (only-these (standing (at_place new.disks place)) (image_of image (standing (at_place mid place))) struck.0)
        (only-these (standing (at_place new.disks other)) (image_of image (standing (at_place mid other))) struck.1)

    keeps-areas : KeepsBut disk_of may_leave_of moment_of left_since_of d mid a (a + 16)
    keeps-areas = but_areas disk_of may_leave_of moment_of left_since_of d mid a log.centre log.area of-centre standing-log.range keeps

    still-there : (p : ℕ) → is_there new.disks p ≡ is_there mid p
    still-there p = there-same mid new.disks p (counted leaves image a mid next new.disks first_keeps first_but second_keeps second_but)

    beside : (p : ℕ) → p ≢ a → p ≢ a + 16 → IsSame old.disks new.disks p
    beside p first second =
        both-same old.disks mid new.disks p (both-same old.disks d mid p (same p) (elsewhere d mid a (a + 16) p keeps-areas first second))
        (unstruck leaves image a mid next new.disks first_keeps first_but second_keeps second_but p first second)

    due-now : checkpoint_every ≤ length standing-log.log.tail + 1
    due-now =
        let tail = tail-there old old a centres up facts stand running some few d log is same in
        leb-true checkpoint_every (length standing-log.log.tail + 1) (subst (λ (n : ℕ). is_due_after n ≡ true) tail due)

    here : IsLogOf new a false (with_fact_at facts a fact a)
    here = record {
      range = its.range;
      there = still-there a ∙ keeps-areas.told_one ∙ (same a).there ∙ its.there;
      there_other = still-there (a + 16) ∙ keeps-areas.told_two ∙ (same (a + 16)).there ∙ its.there_other;
      log = after;
      read = read;
      payloads_are = copied-payloads kept more ∙ more-payloads;
      roomy = room_law checkpoint_every (call - 4) image standing-log.log payload (roomy-there old old a centres up facts stand running some few d log is same) (omega arith) due-now;
      durable = durables.0;
      durable_other = durables.1;
      few = λ yes. absurd (false≢true yes);
      «open» = λ yes. absurd (false≢true yes);
    }

    stands : LogsRepresent new centres (with_up up a false) (with_fact_at facts a fact)
    stands =
        logs-with old new a centres up (with_up up a false) facts (with_fact_at facts a fact) stand
        (ap length items ∙ length-set old.open.items (a - 1) frames) (log-there old new a frames some items)
        (others-same old.disks new.disks a its.range beside)
        (λ b apart. cond-there a b false (up b) apart)
        (λ b apart. cond-there a b (fact ∷ facts b) (facts b) apart)
        (subst (λ (u : Bool). IsLogOf new a u (with_fact_at facts a fact a)) (sym (cond-here a false (up a))) here)

    pub copy-stopped : LogsRepresent new centres (with_up up a false) (stopped_facts facts a fact call image)
    copy-stopped = subst (LogsRepresent new centres (with_up up a false)) (copied-facts facts a fact call image late) stands

    pub copy-tail : HasTail old new a (tail_stopped (tail_at old a) call image)
    copy-tail =
        has-tail old new a (tail_stopped (tail_at old a) call image) (others-same old.disks new.disks a its.range beside)
        (tail-read new a after read ∙ copied-tail kept more
        ∙ ap (λ (n : ℕ). cond kept 0 n) (length-append standing-log.log.tail (payload ∷ []))
        ∙ ap (λ (n : ℕ). cond kept 0 (n + 1)) (sym (tail-there old old a centres up facts stand running some few d log is same))
        ∙ ap (λ (b : Bool). cond b 0 (tail_at old a + 1)) (copy-kept call image late)
        ∙ ap (λ (b : Bool). cond (is_checkpoint_kept call image) 0 (cond b (tail_at old a + 1) (tail_at old a))) (sym (frame-kept call image late)))
