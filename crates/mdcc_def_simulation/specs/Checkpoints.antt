-- When a checkpoint of a log is made, which appends an armed stop strikes, and what it leaves.
use Rattle.std.specs.Prelude.{Bool, None, Option, Some, false, if◌then◌else◌, nat_le, ℕ, ◌+◌}
use Rattle.mdcc_base.specs.declared.outside.Image.{Image}
use Rattle.mdcc_def_simulation.specs.State.{World, centre_at}

-- a checkpoint is due once the tail of a log has this many frames
abbrev pub checkpoint_every : ℕ
checkpoint_every = 1024

-- whether a checkpoint is due once a log whose tail has this many frames has one more
abbrev pub is_due_after : ℕ → Bool
is_due_after tail = nat_le checkpoint_every (tail + 1)

-- the frames of the tail after an append: a checkpoint that is due then is made at once, and empties it
abbrev pub tail_after_append : ℕ → ℕ
tail_after_append tail = if is_due_after tail then 0 else tail + 1

-- the armed stop, where it strikes in the next append: inside one of its four calls, or inside a call of the checkpoint due then
abbrev pub striking : ℕ → Option (ℕ × Image) → Option (ℕ × Image)
striking tail None = None
striking tail (Some stop) = if nat_le stop.0 4 then Some stop else (if is_due_after tail then Some stop else None)

abbrev pub striking_at : World → ℕ → Option (ℕ × Image)
striking_at w a = striking (centre_at w a).tail (centre_at w a).stop

-- whether the frame is there after a stop: in an append it is where its gate is in the image, and in a checkpoint it is durable
abbrev pub is_frame_kept : ℕ → Image → Bool
is_frame_kept call Image.Kept = nat_le 3 call
is_frame_kept call _ = nat_le 5 call

-- whether a checkpoint counts as made after a stop: where the gate of the copied area is in the image
abbrev pub is_checkpoint_kept : ℕ → Image → Bool
is_checkpoint_kept call Image.Kept = nat_le 10 call
is_checkpoint_kept call _ = false

-- the frames of the tail after a stop
abbrev pub tail_stopped : ℕ → ℕ → Image → ℕ
tail_stopped tail call image =
    if is_checkpoint_kept call image then 0 else (if is_frame_kept call image then tail + 1 else tail)
