-- A checkpoint that stops.
use Rattle.std.proofs.Common.{◌≡◌, ◌≢◌, ◌⊎◌, inl, inr, ⊎_elim, ℕ, ◌+◌, ◌^◌, ◌<◌, ◌≤◌, nat_eq, nat_le, Bool, cond, true, false, List, [], ◌∷◌, ◌++◌, length, Ok, Err, OnOk, Result, sym, ◌∙◌, ap, refl, subst, arith, length-append}
use Rattle.std.specs.Cmp.Lexicographic.{pointwise}
use Rattle.std.proofs.lemmas.Bool.{cases_lt}
use Rattle.std.proofs.lemmas.Bool.Decides.{nat_tests}
use Rattle.mdcc_base.specs.declared.outside.Image.{Image}
use Rattle.mdcc_disks.specs.Contents.{Contents, IsImage, image_of}
use Rattle.mdcc_disks.specs.Disks.{LeavesOnly, Within}
use Rattle.mdcc_disks.specs.Memory.{AllMemory, at_place, counts_now_of, left_since_of, moment_of, standing}
use Rattle.mdcc_log_file.specs.Area.{AreaLog, area_mark, generation_of, is_second, payloads_of, spare_of}
use Rattle.mdcc_log.specs.Checkpoint.{copy_of, MayBegin}
use Rattle.mdcc_log.specs.Crash.{IsCurrent, IsDead, IsOlder}
use Rattle.mdcc_log.specs.Frames.{IsInUse, IsSpare, OpenAreas, appended, packed}
use Rattle.mdcc_log.specs.Room.{IsRoomyLog}
use Rattle.mdcc_world_log_stops.specs.Stops.{IsStoppedCopy, StoppedIsRead, StoppedIsRoomy, is_copy_kept, opening_copy, stopped_log}
use Rattle.mdcc_log.specs.Tails.{IsPassedOver, read_by}
use Rattle.mdcc_log.proofs.Choice.{appended_payloads, packed_payloads}
use Rattle.mdcc_log.proofs.Idles.{gate_mark, older_gate}
use Rattle.mdcc_log.proofs.LogReads.{copy_is_read, log_is_read}

-- ---- what is read

not_kept : (call : ℕ) (image : Image) → call < 6 → is_copy_kept call image ≡ false
not_kept call Image.Lost early = refl
not_kept call Image.Kept early = grind (arith, nat_tests)
not_kept call Image.Torn early = refl

read_early : (area call : ℕ) (image : Image) (log : AreaLog) (current : List ℕ) (contents : Contents) → IsCurrent area log current → IsStoppedCopy call log contents → call < 6
    → read_by area current (image_of image contents) ≡ Ok (stopped_log call image log)
read_early area call image log current contents is stopped early =
    log_is_read area log current (image_of image contents) is (stopped.early early image)
    ∙ ap (λ (b : Bool). let ok : Result AreaLog ℕ = Ok (cond b (packed log) log) in ok) (sym (not_kept call image early))

-- the images of the copy
read_image : (area call : ℕ) (image : Image) (log : AreaLog) (current : List ℕ) → IsCurrent area log current → generation_of log.head + 1 < 2 ^ 64 → length (payloads_of log) < 2 ^ 64 → 6 ≤ call
    → read_by area current (image_of image (opening_copy (generation_of log.head + 1) (payloads_of log))) ≡ Ok (stopped_log call image log)
read_image area call Image.Lost log current is fits counted late = log_is_read area log current (copy_of 0 (generation_of log.head + 1) (payloads_of log)) is (inl (inr (inr refl)))
read_image area call Image.Torn log current is fits counted late =
    let closed : 165 ≢ 1 = λ same. omega (arith, same) in
    log_is_read area log current (copy_of 165 (generation_of log.head + 1) (payloads_of log)) is (inr (inr closed))
read_image area call Image.Kept log current is fits counted late =
    let kept : nat_le 6 call ≡ true = grind (arith, nat_tests) in
    (copy_is_read area log current (copy_of 1 (generation_of log.head + 1) (payloads_of log)) is fits counted refl).0
    ∙ ap (λ (b : Bool). let ok : Result AreaLog ℕ = Ok (cond b (packed log) log) in ok) (sym kept)

pub stopped_is_read : StoppedIsRead
stopped_is_read area call image log current contents is stopped = elim (cases_lt call 6) [
  | inl early ↦ read_early area call image log current contents is stopped early
  | inr late ↦
      ap (λ (x : Contents). read_by area current (image_of image x)) (stopped.late late)
      ∙ read_image area call image log current is stopped.generation stopped.count late
]

-- ---- its length

roomy_by : (every : ℕ) (kept : Bool) (log : AreaLog) (payload : List ℕ) → IsRoomyLog log → 17 ≤ every → every ≤ length log.tail + 1 → IsRoomyLog (cond kept (packed (appended log payload)) (appended log payload))
roomy_by every kept log payload roomy often due = by_kept kept
  where
    tails : length (log.tail ++ payload ∷ []) ≡ length log.tail + 1
    tails = length-append log.tail (payload ∷ [])

    counts : length (payloads_of (appended log payload)) ≡ length (payloads_of log) + 1
    counts = ap (λ (l : List (List ℕ)). length l) (appended_payloads log payload) ∙ length-append (payloads_of log) (payload ∷ [])

    packed_counts : length (payloads_of (packed (appended log payload))) ≡ length (payloads_of log) + 1
    packed_counts = ap (λ (l : List (List ℕ)). length l) (packed_payloads (appended log payload)) ∙ counts

    by_kept : (b : Bool) → IsRoomyLog (cond b (packed (appended log payload)) (appended log payload))
    by_kept true = record {
      generations = omega (arith, packed_counts, roomy.generations);
      frames = omega (arith, packed_counts);
      records = inr (omega (arith, packed_counts, roomy.frames, often, due));
    }
    by_kept false = record {
      generations = omega (arith, counts, roomy.generations);
      frames = omega (arith, counts, tails, roomy.frames);
      records = ⊎_elim (λ none. inl none) (λ some. inr (omega (arith, some, counts, tails))) roomy.records;
    }

pub stopped_is_roomy : StoppedIsRoomy
stopped_is_roomy every call image log payload roomy often due = roomy_by every (is_copy_kept call image) log payload roomy often due

-- ---- what its calls leave

-- before the area gate is opened the area is not taken
begun_passed : (g : ℕ) (bytes c : List ℕ) → IsDead bytes ⊎ IsOlder g bytes → MayBegin bytes c → IsPassedOver g c
begun_passed g bytes c spare (inr shut) = inl (inr (inr shut))
begun_passed g bytes c (inl dead) (inl (inl same)) = inl (subst IsDead (sym same) dead)
begun_passed g bytes c (inr older) (inl (inl same)) = inr (inl (subst (IsOlder g) (sym same) older))
begun_passed g bytes c spare (inl (inr (inl short))) = inl (inl short.1)
begun_passed g bytes c (inl (inl few)) (inl (inr (inr change))) = absurd (omega (arith, few, change.0))
begun_passed g bytes c (inl (inr (inl unmarked))) (inl (inr (inr change))) =
    let long : 8 ≤ length bytes = omega (arith, change.0) in
    inl (inr (inl (ap is_second change.1.1.1 ∙ ap (λ (l : List ℕ). pointwise nat_eq l area_mark) (gate_mark change.1.1.0 bytes long) ∙ unmarked)))
begun_passed g bytes c (inl (inr (inr shut))) (inl (inr (inr change))) = absurd (change.1.0 shut)
begun_passed g bytes c (inr older) (inl (inr (inr change))) = inr (inl (subst (IsOlder g) (sym change.1.1.1) (older_gate g change.1.1.0 bytes older)))

image_is : (image : Image) (contents : Contents) → IsImage contents (image_of image contents)
image_is Image.Lost contents = inr (inl refl)
image_is Image.Kept contents = inl refl
image_is Image.Torn contents = inr (inr refl)

pub begun_left : (old new : AllMemory) (place g : ℕ) (bytes : List ℕ) (image : Image) → IsDead bytes ⊎ IsOlder g bytes → LeavesOnly moment_of left_since_of old new place (MayBegin bytes) → IsPassedOver g (image_of image (standing (at_place new place)))
begun_left old new place g bytes image spare leaves =
    let left = image_of image (standing (at_place new place)) in
    begun_passed g bytes left spare (leaves.each left (counts_now_of new place (moment_of old) left leaves.later (image_is image (standing (at_place new place)))))

pub stopped_copy : {T E : Type 0} (call : ℕ) (log : AreaLog) (contents : Contents) (result : Result T E) → generation_of log.head + 1 < 2 ^ 64 → length (payloads_of log) < 2 ^ 64
    → (call < 6 → (image : Image) → IsPassedOver (generation_of log.head) (image_of image contents))
    → (6 ≤ call → OnOk result (contents ≡ opening_copy (generation_of log.head + 1) (payloads_of log)))
    → OnOk result (IsStoppedCopy call log contents)
stopped_copy call log contents (Ok x) fits counted early late = record { generation = fits; count = counted; early = early; late = late }
stopped_copy call log contents (Err e) fits counted early late = tt

-- ---- an append before it

pub on_always : {T E : Type 0} {P : Type 0} (result : Result T E) → P → OnOk result P
on_always (Ok x) is = is
on_always (Err e) is = tt

-- what was only read is in use still
pub read_in_use : (frames : OpenAreas) (log : AreaLog) (bytes new : List ℕ) (may_leave may_new : List ℕ → Type 0) → IsInUse frames log bytes may_leave → new ≡ bytes → Within may_leave may_new → IsInUse frames log new may_new
read_in_use frames log bytes new may_leave may_new used same crash = record {
  valid = used.valid;
  file = same ∙ used.file;
  generation = used.generation;
  count = used.count;
  start = used.start;
  tail = used.tail;
  body = used.body;
  size = used.size ∙ ap (λ (l : List ℕ). length l) (sym same);
  durable = λ c may. used.durable c (crash c may) ∙ sym same;
}

pub still_spare : (frames more : OpenAreas) (bytes new : List ℕ) (may_leave may_new : List ℕ → Type 0) → IsSpare frames bytes may_leave → more.generation ≡ frames.generation → more.spare ≡ frames.spare → new ≡ bytes → Within may_leave may_new → IsSpare more new may_new
still_spare frames more bytes new may_leave may_new spare generation_is spare_is same crash = record {
  idle = subst (λ (l : List ℕ). IsDead l ⊎ IsOlder more.generation l) (sym same) (subst (λ (n : ℕ). IsDead bytes ⊎ IsOlder n bytes) (sym generation_is) spare.idle);
  spare = spare_is ∙ spare.spare ∙ ap spare_of (sym same);
  durable = λ c may. spare.durable c (crash c may) ∙ sym same;
}
