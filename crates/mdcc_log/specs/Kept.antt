-- What opening keeps of what a crash left, and what a checkpoint may leave.
use Rattle.std.specs.Prelude.{◌≡◌, ◌⊎◌, ℕ, ◌+◌, ◌^◌, ◌<◌, ◌≤◌, List, length, true, Ok}
use Rattle.mdcc_log_file.specs.Area.{AreaLog, copy_generation, generation_of, is_copy, payloads_of, read_areas, taken}
use Rattle.mdcc_log.specs.AtRest.{MayBeDue}
use Rattle.mdcc_log.specs.Checkpoint.{MayCopy}
use Rattle.mdcc_log.specs.Crash.{IsCurrent, IsBetween, IsDead, IsLog, IsOlder, IsIdle, ReadsAsEither, payloads_by}
use Rattle.mdcc_log.specs.Frames.{appended, other_of}
use Rattle.mdcc_log.specs.Opening.{MayOpenAs, MayTake, pick}
use Rattle.mdcc_log.specs.Repair.{MayClose, with_closed_gate}

-- a written byte may be torn to any byte
abbrev pub any_byte : ℕ → Type 0
any_byte byte = Unit {0}

-- while the area in use is settled, a crash leaves the same payloads there
abbrev pub CurrentStays : Type 0
CurrentStays = (area : ℕ) (log : AreaLog) (bytes c : List ℕ) → IsCurrent area log bytes → MayTake any_byte bytes c ⊎ MayClose any_byte bytes c → IsCurrent area log c

abbrev pub BetweenStays : Type 0
BetweenStays = (area : ℕ) (log : AreaLog) (payload bytes c : List ℕ) → IsBetween area log payload bytes → MayTake any_byte bytes c ⊎ MayClose any_byte bytes c → IsBetween area log payload c

-- and while the other one is
abbrev pub IdleStays : Type 0
IdleStays = (log : AreaLog) (bytes c : List ℕ) → IsIdle log bytes → MayClose any_byte bytes c → IsIdle log c

-- what was not taken is taken for no log next to this generation
abbrev pub OtherIsSpare : Type 0
OtherIsSpare =
    ((first second : List ℕ) (g : ℕ) → taken first second ≡ Ok 0 → (is_copy first ≡ true → copy_generation first ≡ Ok g) → IsDead (with_closed_gate second) ⊎ IsOlder g (with_closed_gate second))
    × ((first second : List ℕ) (g : ℕ) → taken first second ≡ Ok 1 → (is_copy second ≡ true → copy_generation second ≡ Ok g) → IsDead (with_closed_gate first) ⊎ IsOlder g (with_closed_gate first))

-- after a crash at any moment of a checkpoint all payloads are read
abbrev pub CheckpointIsRead : Type 0
CheckpointIsRead = (area : ℕ) (log : AreaLog) (current other c : List ℕ) → IsCurrent area log current → generation_of log.head + 1 < 2 ^ 64 → length (payloads_of log) < 2 ^ 64
    → IsDead other ⊎ IsOlder (generation_of log.head) other → MayCopy other (generation_of log.head + 1) (payloads_of log) c → IsIdle log c × (payloads_by area current c ≡ Ok (payloads_of log))

-- After a crash of an opening, or of an append that follows it, the payloads are read that opening gave, or those and the new one,
-- where no byte is torn to 1: for any outcome of one area beside any of the other.
abbrev pub ThenIsRead : Type 1
ThenIsRead = (tears : ℕ → Type 0) → (tears 1 → ⊥) → (first second : List ℕ) (area : ℕ) (log : AreaLog) (payload current other : List ℕ) → area ≤ 1
    → taken first second ≡ Ok area → read_areas first second ≡ Ok log → IsLog area log
    → MayOpenAs tears area (taken first second) (pick area first second) current ⊎ MayBeDue area log payload current
    → MayOpenAs tears (other_of area) (taken first second) (pick area second first) other ⊎ IsIdle (appended log payload) other
    → ReadsAsEither (payloads_of log) payload (payloads_by area current other)

-- So it is of an append and the checkpoint that is due with it, where no opening came before.
abbrev pub DueIsRead : Type 0
DueIsRead = (area : ℕ) (log : AreaLog) (payload current other : List ℕ) → MayBeDue area log payload current → IsIdle (appended log payload) other
    → ReadsAsEither (payloads_of log) payload (payloads_by area current other)
