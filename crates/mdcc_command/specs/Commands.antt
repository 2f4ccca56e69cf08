-- What the commands of the program write and answer.
use Rattle.std.specs.Prelude.{Bool, List, None, Option, Some, false, option_map, true, ℕ, ◌≡◌}
use Rattle.mdcc_command_words.specs.declared.words.Command.{Command}
use Rattle.mdcc_command_words.specs.declared.words.Command.TheVariants.{Ask, Audit, Cluster, Dump, Node, Replay, Sample}
use Rattle.mdcc_command_replay.specs.Samples.{sample_of}
use Rattle.mdcc_def_simulation.specs.Replay.{Output, output_of, replay_of}

-- what is written and answered, where it is known: that of `replay` where its input is
abbrev pub output_for : Option Command → Option (List ℕ) → Option Output
output_for (Some Replay) input = option_map (λ bytes. output_of (replay_of bytes)) input
output_for (Some (Sample seed items orders)) input = Some (output_of (sample_of seed items orders))
output_for command input = None

-- it reads an input
abbrev pub reads : Option Command → Bool
reads (Some (Sample seed items orders)) = false
reads None = false
reads command = true

-- it replays a schedule
abbrev pub replays : Option Command → Bool
replays (Some Replay) = true
replays (Some (Sample seed items orders)) = true
replays command = false

-- it uses the disks
abbrev pub has_disks : Option Command → Bool
has_disks (Some (Node centre turns)) = true
has_disks (Some (Cluster turns)) = true
has_disks (Some (Dump centre)) = true
has_disks (Some Audit) = true
has_disks command = false

-- it uses the link
abbrev pub has_link : Option Command → Bool
has_link (Some (Node centre turns)) = true
has_link (Some (Cluster turns)) = true
has_link (Some (Ask question)) = true
has_link command = false

-- nothing was done at disks and link
pub record AreUntouched {D L : Type 0} (disks_old disks_new : D) (link_old link_new : L) : Type 0 where
  pub disks : disks_new ≡ disks_old
  pub link : link_new ≡ link_old
