-- When a centre has a pause: what each received since its last one, and which has one now.
use Rattle.std.specs.Prelude.{◌≡◌, ℕ, ◌+◌, ◌-◌, ◌*◌, ◌/◌, ◌%◌, ◌^◌, min, Bool, false, ◌==◌, nat_le, nat_lt, replicate, slice_index, slice_set, if◌then◌else◌, Option, Some, None}
use Rattle.mdcc_link.specs.declared.pauses.Pauses.{Pauses}

-- nothing was received
abbrev pub IsNewPauses : Pauses → Type 0
IsNewPauses pauses = (pauses.pausing ≡ None) × ((pauses.busy ≡ replicate 16 0) × (pauses.limit ≡ 4096))

-- after how much a pause comes where a receive waits for so many milliseconds at most
abbrev pub limit_for : ℕ → ℕ
limit_for milliseconds = 4096 * milliseconds / 20

-- what the centre of an endpoint received; both its endpoints have one place
abbrev pub busy_at : ℕ → Pauses → ℕ
busy_at at pauses = slice_index pauses.busy (at % 16)

-- it received so much more, in a count that stands still at its end
abbrev pub busy_counted : ℕ → ℕ → Pauses → Pauses
busy_counted at weight pauses =
    record pauses { busy = slice_set pauses.busy (at % 16) (min (busy_at at pauses + weight) (2 ^ 32 - 1)) }

-- whether it received as much as is between two pauses
abbrev pub is_busy : ℕ → Pauses → Bool
is_busy at pauses = nat_le pauses.limit (busy_at at pauses)

abbrev pub has_pause : Option ℕ → ℕ → Bool
has_pause None own = false
has_pause (Some centre) own = centre == own

-- Whether a receive is of a pause. The one at a centre's own endpoint begins it, and the next one ends it, if it is at its client's.
abbrev pub is_of_pause : ℕ → Pauses → Bool
is_of_pause at pauses = if nat_lt 16 at then has_pause pauses.pausing (at - 16) else is_busy at pauses

-- the centre of an endpoint is counted for anew, since time passes for it
abbrev pub pauses_restarted : ℕ → Pauses → Pauses
pauses_restarted at pauses = record pauses { busy = slice_set pauses.busy (at % 16) 0 }

-- what is known after a receive
abbrev pub pause_begun : ℕ → Pauses → Pauses
pause_begun at pauses = record (pauses_restarted at pauses) { pausing = Some at }

abbrev pub pause_ended : Pauses → Pauses
pause_ended pauses = record pauses { pausing = None }

abbrev pub after_receive : ℕ → Pauses → Pauses
after_receive at pauses = if nat_lt 16 at then pause_ended pauses else (if is_busy at pauses then pause_begun at pauses else pause_ended pauses)
