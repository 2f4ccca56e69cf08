-- What a checkpoint copies, and what a crash may leave of it.
use Rattle.std.specs.Prelude.{◌≡◌, ◌⊎◌, ℕ, ◌+◌, ◌^◌, ◌≤◌, ◌<◌, ◌==◌, nat_le, true, false, List, [], ◌∷◌, ◌++◌, length, if◌then◌else◌}
use Rattle.mdcc_log_file.specs.Log.{log_limit}
use Rattle.mdcc_log_file.specs.declared.area.Spare.{Spare}
use Rattle.mdcc_log_file.specs.declared.area.Spare.TheVariants as spares
use Rattle.mdcc_log.specs.declared.checkpoint.Whole.{Whole}
use Rattle.mdcc_log_file.specs.Area.{AreaLog, generation_of, payloads_of, area_mark, records_bytes, copy_body, head_bytes, front_of, area_bytes, with_gate}
use Rattle.mdcc_log_file.specs.Copying.{IsShut, MayShut}
use Rattle.mdcc_log.specs.Crash.{IsLog}

-- how many bytes stand before the records
abbrev pub head_size : ℕ → ℕ
head_size generation = if generation == 0 then 8 else 25

-- What is copied: a log, whose records begin at the head, its frames at the start, and its last gate stands at the end.
pub record StandsAs (whole : Whole) (log : AreaLog) (bytes : List ℕ) : Type 0 where
  pub area : ℕ
  pub valid : IsLog area log
  pub file : bytes ≡ area_bytes log
  pub head_is : whole.head ≡ head_size (generation_of log.head)
  pub start_is : whole.start ≡ length (head_bytes log.head)
  pub end_is : whole.end ≡ length (front_of log)
  pub count_is : whole.count ≡ length (payloads_of log)
  pub tail_is : whole.tail ≡ length log.tail
  pub body_is : whole.body ≡ length (records_bytes (payloads_of log))

-- the parts stand in order, and their copy has no more bytes than a log
pub record IsFilled (whole : Whole) : Type 0 where
  pub head_start : whole.head ≤ whole.start
  pub start_end : whole.start ≤ whole.end
  pub end_fits : whole.end < 2 ^ 63
  pub tail_count : whole.tail ≤ whole.count
  pub body_fits : whole.body + 26 ≤ log_limit

-- the payloads packed, with this area gate and generation
abbrev pub copy_of : ℕ → ℕ → List (List ℕ) → List ℕ
copy_of gate generation records = area_mark ++ gate ∷ (copy_body generation records ++ 0 ∷ [])

-- what a crash may leave of the other area before its area gate is opened
abbrev pub MayBegin : List ℕ → List ℕ → Type 0
MayBegin bytes c = MayShut bytes c ⊎ IsShut c

-- what a crash may leave while the area gate is opened over what is durable
abbrev pub MayOpen : List ℕ → List ℕ → Type 0
MayOpen bytes c = IsShut c ⊎ ((gate : ℕ) × (c ≡ with_gate gate bytes))

-- what a crash may leave while these payloads are copied with this generation over what stood in the area
abbrev pub MayCopy : List ℕ → ℕ → List (List ℕ) → List ℕ → Type 0
MayCopy bytes generation records c = MayShut bytes c ⊎ (IsShut c ⊎ ((gate : ℕ) × (c ≡ copy_of gate generation records)))

-- what is known of an area of this generation and size that is no longer in use
abbrev pub left_area : ℕ → ℕ → Spare
left_area generation size = if nat_le size 9 then spares.Short else spares.Long false (if generation == 0 then false else true)
