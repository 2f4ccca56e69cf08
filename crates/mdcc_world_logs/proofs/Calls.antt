-- Logs that stand after an append and after a crash, and when a log is full.
use Rattle.std.proofs.Common.{◌≡◌, ◌≢◌, ◌↔◌, ◌+◌, ◌-◌, ◌<◌, ◌≤◌, ◌∷◌, ◌++◌, [], Bool, List, ap, arith, inl, inr, length, false, nat_lt, refl, set, subst, sym, true, ℕ, ◌∙◌}
use Rattle.std.specs.Prelude.{IsTrue}
use Rattle.std.proofs.lemmas.Bool.{false≢true}
use Rattle.std.proofs.lemmas.Bool.Decides.{eqb_tells, nat_tests}
use Rattle.mdcc_base.specs.declared.outside.Image.{Image}
use Rattle.mdcc_base.specs.declared.outside.Image.TheVariants.{Kept, Lost, Torn}
use Rattle.mdcc_log.proofs.Rooms.{full_by_length}
use Rattle.mdcc_log_file.specs.Area.{payloads, payloads_of, read_areas}
use Rattle.mdcc_log.specs.AtRest.{IsAtRest}
use Rattle.mdcc_log_file.specs.Both.{KeepsBut}
use Rattle.mdcc_log.specs.Crash.{ReadsAsEither, payloads_by}
use Rattle.mdcc_log.specs.Frames.{IsSettled, IsSpare, OpenAreas, other_of, place_of}
use Rattle.mdcc_log.specs.Room.{HasGrown, IsFull, IsRoomyLog}
use Rattle.mdcc_disks.specs.Contents.{Contents, IsImage, durable, image_of}
use Rattle.mdcc_disks.specs.Memory.{AllMemory, CrashLeaves, IsBut, KeepsPlaces, at_place, counts_now_of, crashed, disk_of, left_since_of, may_leave_of, moment_of, standing}
use Rattle.mdcc_log_file.specs.Log.{log_bytes, log_limit}
use Rattle.mdcc_world_logs.proofs.Payloads.{log-more}
use Rattle.mdcc_world_logs.proofs.Refusals.{leaves-here}
use Rattle.mdcc_world_logs.proofs.Standing.{IsDurableAt, IsSame, both-same, cond-here, cond-there, elsewhere, log-here, log-same, log-stays, log-there, logs-with, others-same, put, rests, same-areas, standing-same, there-same}
use Rattle.mdcc_world_logs.specs.Represents.{IsLogOf, IsOpenAt, LogsRepresent, MayHave, log_at, with_fact_at, with_up}
use Rattle.mdcc_world_logs.proofs.Tails.{due-next, has-tail, tail-grown, tail-open, tail-read}
use Rattle.mdcc_world_logs.specs.Tails.{HasTail, tail_at}
use Rattle.mdcc_world_logs.specs.declared.logs.Logs.{Logs}
use Rattle.mdcc_def_messages.specs.Lengths.{fact_length, log_length}
use Rattle.mdcc_def_messages.specs.Spelling.{fact_bytes, encodings_of}
use Rattle.mdcc_def_messages.specs.declared.facts.Fact.{Fact}
use Rattle.mdcc_node_log.proofs.Logged.{logged-length}
use Rattle.mdcc_node_log.proofs.Others.{but_areas}
use Rattle.mdcc_node_log.proofs.Places.{at_both, from_places}
use Rattle.mdcc_node_log.proofs.Roomy.{roomy_more, same_log}
use Rattle.mdcc_node_log.proofs.Struck.{rest_areas}
use Rattle.mdcc_def_simulation.specs.Checkpoints.{checkpoint_every, is_due_after, tail_after_append}

-- ---- a crash

-- of a disk whose bytes are all durable
pub crash-here : (image : Image) (old new : AllMemory) (p : ℕ) → new.count ≡ old.count → standing (at_place new p) ≡ durable (image_of image (standing (at_place old p))) → IsDurableAt old p → IsSame old new p
crash-here image old new p counted is only =
    let left : image_of image (standing (at_place old p)) ≡ (disk_of old p).bytes = by image in
    let whole : standing (at_place new p) ≡ durable (disk_of old p).bytes = is ∙ ap (λ (l : List ℕ). durable l) left in
    record {
      there = there-same old new p counted;
      bytes = ap (λ (c : Contents). c.kept) whole;
      leaves = λ c now. inl (these (disk_of old p).bytes (standing (at_place new p)) whole c now);
    }
  where
    by : (i : Image) → image_of i (standing (at_place old p)) ≡ (disk_of old p).bytes
    by Lost = only (standing (at_place old p)).lost (inr (inl refl))
    by Kept = refl
    by Torn = only (standing (at_place old p)).torn (inr (inr refl))

    these : (bytes : List ℕ) (contents : Contents) → contents ≡ durable bytes → (c : List ℕ) → IsImage contents c → c ≡ bytes
    these bytes contents whole c now = elim (subst (λ (x : Contents). IsImage x c) whole now) [ inl same ↦ same | inr more ↦ elim more [ inl same ↦ same | inr same ↦ same ] ]

one-crash : CrashLeaves → (old new : AllMemory) (p : ℕ) → KeepsPlaces p old new → IsBut (crashed Lost (at_place old p)) (at_place new p) → IsDurableAt old p → (q : ℕ) → IsSame old new q
one-crash leaves old new p keeps but only q = elim (eqb_tells q p) [
  | inl same ↦ subst (λ (n : ℕ). IsSame old new n) (sym same.1) (crash-here Lost old new p keeps.counted (ap standing but ∙ leaves Lost (at_place old p)) only)
  | inr other ↦ standing-same old new q keeps.counted (ap standing (keeps.others q other.1))
]

pub stays-durable : (old new : AllMemory) (p : ℕ) → IsSame old new p → IsDurableAt old p → IsDurableAt new p
stays-durable old new p same only c now = only c (same.leaves c now) ∙ sym same.bytes

-- a centre that is down keeps its log
pub is-down : (logs : Logs) (a : ℕ) (down was : Bool) (facts : List Fact) → down ≡ false → IsLogOf logs a was facts → IsLogOf logs a down facts
is-down logs a down was facts is its = record {
  range = its.range;
  there = its.there;
  there_other = its.there_other;
  log = its.log;
  read = its.read;
  payloads_are = its.payloads_are;
  roomy = its.roomy;
  durable = its.durable;
  durable_other = its.durable_other;
  few = λ yes. absurd (false≢true (sym is ∙ yes));
  «open» = λ yes. absurd (false≢true (sym is ∙ yes));
}

pub crash-same : CrashLeaves → (old : Logs) (mid new : AllMemory) (a centres : ℕ) (up : ℕ → Bool) (facts : ℕ → List Fact) → 1 ≤ a → a ≤ length old.open.items
    → KeepsPlaces a old.disks mid → IsBut (crashed Lost (at_place old.disks a)) (at_place mid a)
    → KeepsPlaces (a + 16) mid new → IsBut (crashed Lost (at_place mid (a + 16))) (at_place new (a + 16))
    → LogsRepresent old centres up facts → (p : ℕ) → IsSame old.disks new p
crash-same leaves old mid new a centres up facts some few keeps but keeps_other but_other stand p =
    let its = stand.each a some (omega (few, stand.as_many, arith)) in
    let first = one-crash leaves old.disks mid a keeps but its.durable in
    let second = one-crash leaves mid new (a + 16) keeps_other but_other (stays-durable old.disks mid (a + 16) (first (a + 16)) its.durable_other) in
    both-same old.disks mid new p (first p) (second p)

pub crash-stays : (old new : Logs) (a centres : ℕ) (up : ℕ → Bool) (facts : ℕ → List Fact) → 1 ≤ a → a ≤ length old.open.items
    → new.open.items ≡ old.open.items → ((p : ℕ) → IsSame old.disks new.disks p)
    → LogsRepresent old centres up facts → LogsRepresent new centres (with_up up a false) facts
crash-stays old new a centres up facts some few items same stand =
    let its = stand.each a some (omega (few, stand.as_many, arith)) in
    let here = log-stays old new a (up a) (facts a) (log-same old new items a) (same-areas old.disks new.disks same a) its in
    logs-with old new a centres up (with_up up a false) facts facts stand (ap length items)
    (λ b first other. log-same old new items b) (λ b high other. same-areas old.disks new.disks same b) (λ b other. cond-there a b false (up b) other) (λ b other. refl)
    (is-down new a (with_up up a false a) (up a) (facts a) (cond-here a false (up a)) here)

-- ---- an append

-- the open log of a centre that is up
pub settled-there : (logs : Logs) (d : AllMemory) (a : ℕ) (log : OpenAreas) → IsOpenAt logs a → 1 ≤ a → a ≤ length logs.open.items → log ≡ log_at logs a
    → ((p : ℕ) → IsSame logs.disks d p)
    → IsSettled log (disk_of d (place_of log.centre log.area)).bytes (may_leave_of d (place_of log.centre log.area))
    × IsSpare log (disk_of d (place_of log.centre (other_of log.area))).bytes (may_leave_of d (place_of log.centre (other_of log.area)))
settled-there logs d a log are some few is same =
    let stand = are.3 in
    let its = (stand.each a some (omega (few, stand.as_many, arith))).open are.4 in
    let rest = rests logs.disks d a (log_at logs a) (encodings_of (are.2 a)) its.centre (same-areas logs.disks d same a) its.at_rest in
    subst (λ (l : OpenAreas). IsSettled l (disk_of d (place_of l.centre l.area)).bytes (may_leave_of d (place_of l.centre l.area))
    × IsSpare l (disk_of d (place_of l.centre (other_of l.area))).bytes (may_leave_of d (place_of l.centre (other_of l.area)))) (sym is)
    ((rest.log, rest.in_use), rest.spare)

module _ (old new : Logs) (a centres : ℕ) (up : ℕ → Bool) (facts : ℕ → List Fact) (stand : LogsRepresent old centres up facts) (running : up a ≡ true) (some : 1 ≤ a) (few : a ≤ length old.open.items)
    (d : AllMemory) (log : OpenAreas) (is : log ≡ log_at old a) (same : (p : ℕ) → IsSame old.disks d p) where
  its : IsLogOf old a (up a) (facts a)
  its = stand.each a some (omega (few, stand.as_many, arith))

  pub centre-is : log.centre ≡ a
  centre-is = ap (λ (l : OpenAreas). l.centre) is ∙ (its.open running).centre

  pub rest-there : IsAtRest disk_of may_leave_of d log (encodings_of (facts a))
  rest-there =
      subst (λ (l : OpenAreas). IsAtRest disk_of may_leave_of d l (encodings_of (facts a))) (sym is)
      (rests old.disks d a (log_at old a) (encodings_of (facts a)) (its.open running).centre (same-areas old.disks d same a) (its.open running).at_rest)

  pub told-there : IsTrue (disk_of d (place_of log.centre log.area)).told × IsTrue (disk_of d (place_of log.centre (other_of log.area))).told
  told-there = at_both (λ p. IsTrue (disk_of d p).told) a log.centre log.area centre-is ((same a).there ∙ its.there) ((same (a + 16)).there ∙ its.there_other) rest-there.range

  -- its log is the one that is read
  pub roomy-there : IsRoomyLog rest-there.log
  roomy-there =
      let read = (rest_areas disk_of may_leave_of d log a (encodings_of (facts a)) centre-is rest-there).log_is in
      let was = ap (λ (bytes : List ℕ). read_areas bytes (disk_of d (a + 16)).bytes) (same a).bytes ∙ ap (λ (bytes : List ℕ). read_areas (disk_of old.disks a).bytes bytes) (same (a + 16)).bytes ∙ its.read in
      subst IsRoomyLog (same_log its.log rest-there.log (sym was ∙ read)) its.roomy

  pub tail-there : tail_at old a ≡ length rest-there.log.tail
  tail-there =
      let read = (rest_areas disk_of may_leave_of d log a (encodings_of (facts a)) centre-is rest-there).log_is in
      let was = ap (λ (bytes : List ℕ). read_areas bytes (disk_of old.disks (a + 16)).bytes) (sym (same a).bytes) ∙ ap (λ (bytes : List ℕ). read_areas (disk_of d a).bytes bytes) (sym (same (a + 16)).bytes) in
      tail-read old a rest-there.log (was ∙ read)

  pub every-is : log.every ≡ checkpoint_every
  every-is = ap (λ (l : OpenAreas). l.every) is ∙ (its.open running).every

  pub often : 17 ≤ log.every
  often = subst (λ (n : ℕ). 17 ≤ n) (sym every-is) (omega arith)

  -- whether a checkpoint is due next
  pub due-there : (due : Bool) → (IsTrue due ↔ (log.every ≤ log.tail + 1)) → due ≡ is_due_after (tail_at old a)
  due-there due tells = due-next due log.every log.tail every-is tells.0 tells.1 ∙ ap is_due_after (rest-there.in_use.tail ∙ sym tail-there)

  module _ (more : OpenAreas) (fact : Fact) (items : new.open.items ≡ set old.open.items (a - 1) more) (keeps : KeepsBut disk_of may_leave_of moment_of left_since_of d new.disks (place_of log.centre log.area) (place_of log.centre (other_of log.area))) where
    keeps-areas : KeepsBut disk_of may_leave_of moment_of left_since_of d new.disks a (a + 16)
    keeps-areas = but_areas disk_of may_leave_of moment_of left_since_of d new.disks a log.centre log.area centre-is rest-there.range keeps

    beside : (p : ℕ) → p ≢ a → p ≢ a + 16 → IsSame old.disks new.disks p
    beside p first second = both-same old.disks d new.disks p (same p) (elsewhere d new.disks a (a + 16) p keeps-areas first second)

    pub appended : more.centre ≡ log.centre → more.every ≡ log.every → more.tail < more.every → HasGrown 1 log more
        → IsAtRest disk_of may_leave_of new.disks more (encodings_of (facts a) ++ fact_bytes fact ∷ []) → LogsRepresent new centres up (with_fact_at facts a fact)
    appended centre every tail grown rest =
        let every_is : more.every ≡ checkpoint_every = every ∙ every-is in
        put old new a more fact centres up up facts stand some few items (others-same old.disks new.disks a its.range beside) (λ b other. refl)
        (keeps-areas.told_one ∙ (same a).there ∙ its.there) (keeps-areas.told_two ∙ (same (a + 16)).there ∙ its.there_other)
        (record {
          centre = centre ∙ centre-is;
          every = every_is;
          few = subst (λ (n : ℕ). more.tail < n) every_is tail;
          roomy = roomy_more log rest-there.log (disk_of d (place_of log.centre log.area)).bytes (may_leave_of d (place_of log.centre log.area)) rest-there.in_use more roomy-there often grown;
          at_rest = rest;
        })

    pub tail-appended : more.every ≡ log.every → more.tail < more.every → HasGrown 1 log more → LogsRepresent new centres up (with_fact_at facts a fact) → HasTail old new a (tail_after_append (tail_at old a))
    tail-appended every tail grown stands =
        let here = stands.each a some (omega (few, stand.as_many, arith)) in
        has-tail old new a (tail_after_append (tail_at old a)) (others-same old.disks new.disks a its.range beside)
        (tail-open new a (with_fact_at facts a fact a) (here.open running)
        ∙ ap (λ (l : OpenAreas). l.tail) (log-here old new a more some few items)
        ∙ tail-grown log more grown every-is every tail
        ∙ ap tail_after_append (rest-there.in_use.tail ∙ sym tail-there))

    -- or what a crash leaves of it
    pub may-have : ((current other : List ℕ) → left_since_of new.disks (place_of log.centre log.area) (moment_of d) current → left_since_of new.disks (place_of log.centre (other_of log.area)) (moment_of d) other
        → ReadsAsEither (encodings_of (facts a)) (fact_bytes fact) (payloads_by log.area current other)) → MayHave new centres up a facts fact
    may-have reads =
        leaves-here old new a centres up facts stand some few fact (keeps-areas.told_one ∙ (same a).there) (keeps-areas.told_two ∙ (same (a + 16)).there) beside (log-there old new a more some items)
        (from_places (λ n p q. (current other : List ℕ) → left_since_of new.disks p (moment_of d) current → left_since_of new.disks q (moment_of d) other → ReadsAsEither (encodings_of (facts a)) (fact_bytes fact) (payloads_by n current other))
        ((first second : List ℕ) → may_leave_of new.disks a first → may_leave_of new.disks (a + 16) second → ReadsAsEither (encodings_of (facts a)) (fact_bytes fact) (payloads first second)) a
        (λ has first second now now_other. has first second (counts_now_of new.disks a (moment_of d) first keeps-areas.later now) (counts_now_of new.disks (a + 16) (moment_of d) second keeps-areas.later now_other))
        (λ has first second now now_other. has second first (counts_now_of new.disks (a + 16) (moment_of d) second keeps-areas.later now_other) (counts_now_of new.disks a (moment_of d) first keeps-areas.later now))
        log.area rest-there.range
        (subst (λ (n : ℕ). (current other : List ℕ) → left_since_of new.disks (place_of n log.area) (moment_of d) current → left_since_of new.disks (place_of n (other_of log.area)) (moment_of d) other
        → ReadsAsEither (encodings_of (facts a)) (fact_bytes fact) (payloads_by log.area current other)) centre-is reads))

  -- ---- a full log

  pub full-is : (fact : Fact) (length_is : ℕ) (full : Bool) → length_is ≡ fact_length fact → (IsTrue full ↔ IsFull log length_is) → full ≡ nat_lt log_limit (log_length (fact ∷ facts a))
  full-is fact more full framed tells =
      let rest = rest-there in
      let by = full_by_length log rest.log (disk_of d (place_of log.centre log.area)).bytes (may_leave_of d (place_of log.centre log.area)) more rest.in_use in
      let sized : length (log_bytes (payloads_of rest.log)) + (more + 5) ≡ log_length (fact ∷ facts a) =
      omega (ap (λ (ps : List (List ℕ)). length (log_bytes ps)) rest.payloads_are, logged-length (facts a), log-more fact (facts a), framed, arith) in
      as-test full (log_limit) (log_length (fact ∷ facts a))
      (λ yes. subst (λ (n : ℕ). log_limit < n) sized (by.1 roomy-there often (tells.0 yes)))
      (λ past. tells.1 (by.0 (subst (λ (n : ℕ). log_limit < n) (sym sized) past)))
    where
      as-test : (b : Bool) (m n : ℕ) → (b ≡ true → m < n) → (m < n → b ≡ true) → b ≡ nat_lt m n
      as-test true m n to from = let lt = to refl in grind (arith, nat_tests)
      as-test false m n to from = let no : m < n → ⊥ = λ lt. false≢true (from lt) in grind (arith, nat_tests)
