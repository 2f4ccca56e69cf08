-- What an append that stops makes of the logs.
use Rattle.std.proofs.Common.{◌≡◌, ◌≢◌, ◌⊎◌, ⊎_elim, ◌+◌, ◌-◌, ◌≤◌, ◌∷◌, ◌++◌, [], Bool, List, Ok, ap, arith, cond, false, inl, inr, length, length-append, refl, subst, suc, sym, true, zero, ℕ, ◌∙◌}
use Rattle.std.proofs.lemmas.Bool.{false≢true}
use Rattle.mdcc_base.specs.declared.outside.Image.{Image}
use Rattle.mdcc_log.proofs.Choice.{Other, Seen, appended_payloads, between_is_read, front_is_read, front_seen}
use Rattle.mdcc_log_file.specs.Append.{MayAppend}
use Rattle.mdcc_log_file.specs.Area.{AreaLog, front_of, generation_of, payloads, payloads_of, read_area}
use Rattle.mdcc_log.specs.AtRest.{IsAtRest}
use Rattle.mdcc_log.specs.Crash.{IsBetween, IsDead, IsIdle, IsLog, IsOlder, ReadsAsEither, payloads_by}
use Rattle.mdcc_log.specs.Frames.{IsInUse, IsSpare, OpenAreas, appended, other_of, place_of}
use Rattle.mdcc_log.specs.Room.{IsRoomyLog}
use Rattle.mdcc_disks.specs.Contents.{Contents, IsImage, durable, image_of}
use Rattle.mdcc_disks.specs.Disks.{Only, Within}
use Rattle.mdcc_disks.specs.Memory.{AllMemory, at_place, disk_of, is_there, may_leave_of, standing}
use Rattle.mdcc_log_file.proofs.LogRead.{short_more}
use Rattle.mdcc_log_file.specs.Calls.{append_calls}
use Rattle.mdcc_log_file.specs.Log.{payload_limit}
use Rattle.mdcc_world_logs.proofs.Calls.{centre-is, crash-here, rest-there, roomy-there, stays-durable, tail-there}
use Rattle.mdcc_world_logs.proofs.Made.{all-durable}
use Rattle.mdcc_world_logs.proofs.Refusals.{leaves-here}
use Rattle.mdcc_world_logs.proofs.Stages.{EndsShut, shut_end, stop-ends}
use Rattle.mdcc_world_logs.proofs.Standing.{IsDurableAt, IsSame, both-same, cond-here, cond-there, log-same, logs-with, others-same, standing-same, there-same}
use Rattle.mdcc_world_logs.proofs.Tails.{early-copy, has-tail, tail-read}
use Rattle.mdcc_world_logs.specs.Represents.{IsLogOf, LogsRepresent, MayHave, log_at, with_fact_at, with_up}
use Rattle.mdcc_world_logs.specs.Stopping.{HoldBut, IsImageStruck, stopped_at, stopped_facts}
use Rattle.mdcc_world_logs.specs.Tails.{HasTail, tail_at}
use Rattle.mdcc_world_logs.specs.declared.logs.Logs.{Logs}
use Rattle.mdcc_def_messages.specs.Spelling.{fact_bytes, encodings_of}
use Rattle.mdcc_def_messages.specs.declared.facts.Fact.{Fact}
use Rattle.mdcc_node_log.proofs.Places.{by_places, from_both, from_places}
use Rattle.mdcc_node_log.proofs.Struck.{IsRead, idle_loses, seen_first, seen_second}
use Rattle.mdcc_def_simulation.specs.Checkpoints.{is_frame_kept, tail_stopped}

-- all is durable
pub only-these : (contents : Contents) (bytes : List ℕ) → contents ≡ durable bytes → Only contents.kept (IsImage contents)
only-these contents bytes is = subst (λ (c : Contents). Only c.kept (IsImage c)) (sym is) (λ c left. elim left [ inl same ↦ same | inr more ↦ elim more [ inl same ↦ same | inr same ↦ same ] ])

-- the area that the code names
pub other-area : (area : ℕ) → area ≤ 1 → 1 - area ≡ other_of area
other-area zero range = refl
other-area (suc zero) range = refl
other-area (suc (suc n)) range = absurd (omega (range, arith))

-- ---- the facts after it

stopped-logged : (facts : ℕ → List Fact) (a : ℕ) (fact : Fact) (kept : Bool)
    → encodings_of (cond kept (with_fact_at facts a fact) facts a) ≡ cond kept (encodings_of (facts a) ++ fact_bytes fact ∷ []) (encodings_of (facts a))
stopped-logged facts a fact true = ap encodings_of (cond-here a (fact ∷ facts a) (facts a))
stopped-logged facts a fact false = refl

stopped-others : (facts : ℕ → List Fact) (a : ℕ) (fact : Fact) (kept : Bool) (b : ℕ) → b ≢ a → cond kept (with_fact_at facts a fact) facts b ≡ facts b
stopped-others facts a fact true b other = cond-there a b (fact ∷ facts b) (facts b) other
stopped-others facts a fact false b other = refl

-- ---- the log after it

abbrev stopped-log : Bool → AreaLog → List ℕ → AreaLog
stopped-log kept log payload = cond kept (appended log payload) log

stopped-payloads : (kept : Bool) (log : AreaLog) (payload : List ℕ) → payloads_of (stopped-log kept log payload) ≡ cond kept (payloads_of log ++ payload ∷ []) (payloads_of log)
stopped-payloads true log payload = appended_payloads log payload
stopped-payloads false log payload = refl

stopped-generation : (kept : Bool) (log : AreaLog) (payload : List ℕ) → generation_of (stopped-log kept log payload).head ≡ generation_of log.head
stopped-generation true log payload = refl
stopped-generation false log payload = refl

stopped-valid : (kept : Bool) (area : ℕ) (log : AreaLog) (payload : List ℕ) → length payload ≤ payload_limit → IsLog area log → IsLog area (stopped-log kept log payload)
stopped-valid true area log payload fits valid = record { head = valid.head; short = short_more log.tail payload valid.short fits }
stopped-valid false area log payload fits valid = valid

stopped-roomy : (kept : Bool) (log : AreaLog) (payload : List ℕ) → IsRoomyLog log → IsRoomyLog (stopped-log kept log payload)
stopped-roomy true log payload roomy =
    let tail = length-append log.tail (payload ∷ []) in
    let count : length (payloads_of (appended log payload)) ≡ length (payloads_of log) + 1 = ap (λ (ps : List (List ℕ)). length ps) (appended_payloads log payload) ∙ length-append (payloads_of log) (payload ∷ []) in
    record {
      generations = omega (roomy.generations, count, arith);
      frames = omega (roomy.frames, count, tail, arith);
      records = ⊎_elim (λ none. inl none) (λ some. inr (omega (some, count, tail, arith))) roomy.records;
    }
stopped-roomy false log payload roomy = roomy

stopped-tail : (kept : Bool) (log : AreaLog) (payload : List ℕ) → length (stopped-log kept log payload).tail ≡ cond kept (length log.tail + 1) (length log.tail)
stopped-tail true log payload = length-append log.tail (payload ∷ [])
stopped-tail false log payload = refl

-- ---- a strike

module _ (old : Logs) (a centres : ℕ) (up : ℕ → Bool) (facts : ℕ → List Fact) (stand : LogsRepresent old centres up facts) (running : up a ≡ true) (some : 1 ≤ a) (few : a ≤ length old.open.items)
    (log : OpenAreas) (is : log ≡ log_at old a) (d : AllMemory) (same : (p : ℕ) → IsSame old.disks d p) where
  its : IsLogOf old a (up a) (facts a)
  its = stand.each a some (omega (few, stand.as_many, arith))

  abbrev pub rest : IsAtRest disk_of may_leave_of d log (encodings_of (facts a))
  rest = rest-there old old a centres up facts stand running some few d log is same

  abbrev place : ℕ
  place = place_of a log.area

  abbrev other : ℕ
  other = place_of a (other_of log.area)

  abbrev front : List ℕ
  front = front_of rest.log

  pub range : log.area ≤ 1
  range = rest.range

  used : IsInUse log rest.log (disk_of d place).bytes (may_leave_of d place)
  used = subst (λ (n : ℕ). IsInUse log rest.log (disk_of d (place_of n log.area)).bytes (may_leave_of d (place_of n log.area))) (centre-is old old a centres up facts stand running some few d log is same) rest.in_use

  spare : IsSpare log (disk_of d other).bytes (may_leave_of d other)
  spare = subst (λ (n : ℕ). IsSpare log (disk_of d (place_of n (other_of log.area))).bytes (may_leave_of d (place_of n (other_of log.area)))) (centre-is old old a centres up facts stand running some few d log is same) rest.spare

  pub holds-area : standing (at_place d place) ≡ durable (shut_end front)
  holds-area = all-durable (standing (at_place d place)) (shut_end front) used.file used.durable

  pub area-sized : log.size ≡ length (shut_end front)
  area-sized = used.size ∙ ap length used.file

  pub area-within : log.size ≤ length (disk_of d place).bytes
  area-within = omega (used.size, arith)

  module _ (new : Logs) (items : new.open.items ≡ old.open.items) (but : HoldBut place other d new.disks) where
    beside : (p : ℕ) → p ≢ place → p ≢ other → IsSame old.disks new.disks p
    beside p first second = both-same old.disks d new.disks p (same p) (standing-same d new.disks p but.counted (but.contents p first second))

    elsewhere-same : (p : ℕ) → p ≢ a → p ≢ a + 16 → IsSame old.disks new.disks p
    elsewhere-same p first second =
        by_places (λ n q r. ((s : ℕ) → s ≢ q → s ≢ r → IsSame old.disks new.disks s) → IsSame old.disks new.disks p) a
        (λ each. each p first second) (λ each. each p second first) log.area rest.range beside

    counted : (p : ℕ) → is_there new.disks p ≡ is_there old.disks p
    counted p = there-same d new.disks p but.counted ∙ (same p).there

    -- it found no memory
    module _ (fact : Fact) (payload : List ℕ) (bytes : payload ≡ fact_bytes fact) (fits : length payload ≤ payload_limit)
        (left : Within (MayAppend front payload) (may_leave_of new.disks place)) (left_other : standing (at_place new.disks other) ≡ standing (at_place d other)) where
      between : (c : List ℕ) → may_leave_of new.disks place c → IsBetween log.area rest.log payload c
      between c now = ⊎_elim
          (λ shut. inl (record { valid = used.valid; file = inr shut }))
          (λ undecided. inr (record { valid = used.valid; fits = fits; gate = undecided.0; file = undecided.1 })) (left c now)

      idle : (c : List ℕ) → may_leave_of new.disks other c → IsIdle rest.log c
      idle c now =
          let stands : c ≡ (disk_of d other).bytes = spare.durable c (subst (λ (x : Contents). IsImage x c) left_other now) in
          subst (IsIdle rest.log) (sym stands)
          (⊎_elim (λ (dead : IsDead (disk_of d other).bytes). inl dead) (λ (older : IsOlder log.generation (disk_of d other).bytes). inr (inl (subst (λ (n : ℕ). IsOlder n (disk_of d other).bytes) used.generation older))) spare.idle)

      reads-either : (current spared : List ℕ) → may_leave_of new.disks place current → may_leave_of new.disks other spared → ReadsAsEither (encodings_of (facts a)) (fact_bytes fact) (payloads_by log.area current spared)
      reads-either current spared now now_other =
          subst (λ (p : List ℕ). ReadsAsEither (encodings_of (facts a)) p (payloads_by log.area current spared)) bytes
          (subst (λ (ps : List (List ℕ)). ReadsAsEither ps payload (payloads_by log.area current spared)) (sym rest.payloads_are)
          (between_is_read log.area rest.log payload current spared (between current now) (idle spared now_other)))

      pub unwritten : MayHave new centres up a facts fact
      unwritten =
          leaves-here old new a centres up facts stand some few fact (counted a) (counted (a + 16)) elsewhere-same (λ b first apart. log-same old new items b)
          (from_places (λ n p q. (current spared : List ℕ) → may_leave_of new.disks p current → may_leave_of new.disks q spared → ReadsAsEither (encodings_of (facts a)) (fact_bytes fact) (payloads_by n current spared))
          ((first second : List ℕ) → may_leave_of new.disks a first → may_leave_of new.disks (a + 16) second → ReadsAsEither (encodings_of (facts a)) (fact_bytes fact) (payloads first second)) a
          (λ has. has) (λ has first second now now_other. has second first now_other now) log.area rest.range reads-either)

    -- the calls were made up to the one that stopped, and both areas crashed
    module _ (fact : Fact) (payload : List ℕ) (bytes : payload ≡ fact_bytes fact) (fits : length payload ≤ payload_limit) (call : ℕ) (first : 1 ≤ call) (last : call ≤ 4) (image : Image)
        (struck : standing (at_place new.disks place) ≡ durable (image_of image (stopped_at call (append_calls log.size payload) (standing (at_place d place)))))
        (struck_other : standing (at_place new.disks other) ≡ durable (image_of image (standing (at_place d other)))) where
      abbrev kept : Bool
      kept = is_frame_kept call image

      abbrev after : AreaLog
      after = stopped-log kept rest.log payload

      abbrev left-bytes : List ℕ
      left-bytes = image_of image (stopped_at call (append_calls log.size payload) (durable (shut_end front)))

      whole : standing (at_place new.disks place) ≡ durable left-bytes
      whole = struck ∙ ap (λ (c : Contents). durable (image_of image (stopped_at call (append_calls log.size payload) c))) holds-area

      bytes-are : (disk_of new.disks place).bytes ≡ left-bytes
      bytes-are = ap (λ (c : Contents). c.kept) whole

      pub struck-bytes : IsImageStruck fact call image (disk_of old.disks place).bytes (disk_of new.disks place).bytes
      struck-bytes =
          let was : shut_end front ≡ (disk_of old.disks place).bytes = sym used.file ∙ (same place).bytes in
          bytes-are
          ∙ ap (λ (n : ℕ). image_of image (stopped_at call (append_calls n payload) (durable (shut_end front)))) area-sized
          ∙ ap (λ (p : List ℕ). image_of image (stopped_at call (append_calls (length (shut_end front)) p) (durable (shut_end front)))) bytes
          ∙ ap (λ (l : List ℕ). image_of image (stopped_at call (append_calls (length l) (fact_bytes fact)) (durable l))) was

      other-same : IsSame d new.disks other
      other-same = crash-here image d new.disks other but.counted struck_other spare.durable

      pub other-bytes : (disk_of new.disks other).bytes ≡ (disk_of old.disks other).bytes
      other-bytes = other-same.bytes ∙ (same other).bytes

      ends : EndsShut after (disk_of new.disks place).bytes
      ends = subst (EndsShut after) (sym bytes-are) (stop-ends rest.log payload log.size call image area-sized first last)

      valid : IsLog log.area after
      valid = stopped-valid kept log.area rest.log payload fits used.valid

      seen : Seen log.area (generation_of after.head) (disk_of new.disks place).bytes
      seen = front_seen log.area after (ends.gate ∷ ends.rest) (disk_of new.disks place).bytes valid ends.file

      loses : Other (generation_of after.head) (disk_of new.disks other).bytes
      loses =
          idle_loses (generation_of after.head) (disk_of new.disks other).bytes
          (subst (λ (n : ℕ). IsDead (disk_of new.disks other).bytes ⊎ IsOlder n (disk_of new.disks other).bytes) (used.generation ∙ sym (stopped-generation kept rest.log payload))
          (subst (λ (l : List ℕ). IsDead l ⊎ IsOlder log.generation l) (sym other-same.bytes) spare.idle))

      taken : IsRead (disk_of new.disks a).bytes (disk_of new.disks (a + 16)).bytes log.area after
      taken =
          by_places (λ n p q. Seen n (generation_of after.head) (disk_of new.disks p).bytes → Other (generation_of after.head) (disk_of new.disks q).bytes → read_area (disk_of new.disks p).bytes ≡ Ok after
          → IsRead (disk_of new.disks a).bytes (disk_of new.disks (a + 16)).bytes n after) a
          (seen_first (disk_of new.disks a).bytes (disk_of new.disks (a + 16)).bytes after) (seen_second (disk_of new.disks a).bytes (disk_of new.disks (a + 16)).bytes after)
          log.area rest.range seen loses
          (front_is_read log.area after ends.gate ends.rest (disk_of new.disks place).bytes valid ends.shut ends.file)

      payloads-are : payloads_of after ≡ encodings_of (stopped_facts facts a fact call image a)
      payloads-are =
          stopped-payloads kept rest.log payload
          ∙ ap (λ (ps : List (List ℕ)). cond kept (ps ++ payload ∷ []) ps) (sym rest.payloads_are)
          ∙ ap (λ (p : List ℕ). cond kept (encodings_of (facts a) ++ p ∷ []) (encodings_of (facts a))) bytes
          ∙ sym (stopped-logged facts a fact kept)

      durables : IsDurableAt new.disks a × IsDurableAt new.disks (a + 16)
      durables =
          from_both (IsDurableAt new.disks) a a log.area refl rest.range
          (only-these (standing (at_place new.disks place)) left-bytes whole)
          (stays-durable d new.disks other other-same spare.durable)

      here : IsLogOf new a false (stopped_facts facts a fact call image a)
      here = record {
        range = its.range;
        there = counted a ∙ its.there;
        there_other = counted (a + 16) ∙ its.there_other;
        log = after;
        read = taken.log_is;
        payloads_are = payloads-are;
        roomy = stopped-roomy kept rest.log payload (roomy-there old old a centres up facts stand running some few d log is same);
        durable = durables.0;
        durable_other = durables.1;
        few = λ yes. absurd (false≢true yes);
        «open» = λ yes. absurd (false≢true yes);
      }

      pub stopped : LogsRepresent new centres (with_up up a false) (stopped_facts facts a fact call image)
      stopped =
          logs-with old new a centres up (with_up up a false) facts (stopped_facts facts a fact call image) stand (ap length items)
          (λ b one apart. log-same old new items b)
          (others-same old.disks new.disks a its.range elsewhere-same)
          (λ b apart. cond-there a b false (up b) apart)
          (λ b apart. stopped-others facts a fact kept b apart)
          (subst (λ (u : Bool). IsLogOf new a u (stopped_facts facts a fact call image a)) (sym (cond-here a false (up a))) here)

      pub frame-tail : HasTail old new a (tail_stopped (tail_at old a) call image)
      frame-tail =
          has-tail old new a (tail_stopped (tail_at old a) call image) (others-same old.disks new.disks a its.range elsewhere-same)
          (tail-read new a after taken.log_is ∙ stopped-tail kept rest.log payload
          ∙ ap (λ (n : ℕ). cond kept (n + 1) n) (sym (tail-there old old a centres up facts stand running some few d log is same))
          ∙ ap (λ (b : Bool). cond b 0 (cond kept (tail_at old a + 1) (tail_at old a))) (sym (early-copy call image last)))
