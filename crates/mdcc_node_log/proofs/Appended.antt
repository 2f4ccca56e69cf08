-- What a crash leaves where nothing was appended, and what is read of it.
use Rattle.std.proofs.Common.{◌≡◌, inl, inr, ⊎_elim, ℕ, List, [], OnOk, Result, Ok, Err, sym, subst}
use Rattle.mdcc_disks.specs.Disks.{Disk, LeavesOnly}
use Rattle.mdcc_log_file.proofs.Moments.{started}
use Rattle.mdcc_log.proofs.Dues.{mixed_read}
use Rattle.mdcc_log_file.specs.Area.{AreaLog, generation_of}
use Rattle.mdcc_log.specs.AtRest.{IsAtRest, MayBeDue}
use Rattle.mdcc_log.specs.Crash.{IsCurrent, IsDead, IsIdle, IsOlder, ReadsAsEither, payloads_by}
use Rattle.mdcc_log.specs.Frames.{IsInUse, IsSpare, OpenAreas, appended, other_of, place_of}

pub on_ok_any : {T E : Type 0} (result : Result T E) (P : Type 0) → P → OnOk result P
on_ok_any (Ok x) P p = p
on_ok_any (Err e) P p = tt

module _ {D : Type 0} (disk : D → ℕ → Disk) (may_leave : D → ℕ → List ℕ → Type 0) (moment : D → ℕ) (left_since : D → ℕ → ℕ → List ℕ → Type 0) (only_now : (disks : D) (p : ℕ) (c : List ℕ) → left_since disks p (moment disks) c → may_leave disks p c) where
  pub still_in_use : (old : D) (place : ℕ) (frames : OpenAreas) (log : AreaLog) (payload : List ℕ) → IsInUse frames log (disk old place).bytes (may_leave old place)
      → LeavesOnly moment left_since old old place (MayBeDue frames.area log payload)
  still_in_use old place frames log payload used =
      started moment left_since old place (MayBeDue frames.area log payload)
      (λ c left. inl (inl (subst (IsCurrent frames.area log) (sym (used.durable c (only_now old place c left))) (record { valid = used.valid; file = inr ([], used.file) }))))

  pub still_spare : (old : D) (place : ℕ) (frames : OpenAreas) (log : AreaLog) (payload : List ℕ) → frames.generation ≡ generation_of log.head → IsSpare frames (disk old place).bytes (may_leave old place)
      → LeavesOnly moment left_since old old place (IsIdle (appended log payload))
  still_spare old place frames log payload generation spare =
      started moment left_since old place (IsIdle (appended log payload))
      (λ c left. subst (IsIdle (appended log payload)) (sym (spare.durable c (only_now old place c left)))
      (⊎_elim (λ (dead : IsDead (disk old place).bytes). inl dead) (λ (older : IsOlder frames.generation (disk old place).bytes). inr (inl (subst (λ (n : ℕ). IsOlder n (disk old place).bytes) generation older))) spare.idle))

  pub reads_either : (old new : D) (frames : OpenAreas) (all : List (List ℕ)) (payload : List ℕ) (rest : IsAtRest disk may_leave old frames all)
      → LeavesOnly moment left_since old new (place_of frames.centre frames.area) (MayBeDue frames.area rest.log payload)
      → LeavesOnly moment left_since old new (place_of frames.centre (other_of frames.area)) (IsIdle (appended rest.log payload))
      → (current other : List ℕ) → left_since new (place_of frames.centre frames.area) (moment old) current → left_since new (place_of frames.centre (other_of frames.area)) (moment old) other
      → ReadsAsEither all payload (payloads_by frames.area current other)
  reads_either old new frames all payload rest first second current other left left_other =
      subst (λ (ps : List (List ℕ)). ReadsAsEither ps payload (payloads_by frames.area current other)) (sym rest.payloads_are)
      (mixed_read frames.area rest.log payload current other (first.each current left) (second.each other left_other))
