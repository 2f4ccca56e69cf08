-- What the disks of a world show.
use Rattle.std.specs.Prelude.{◌≡◌, ◌+◌, ◌<◌, List, Ok, length, true, ℕ}
use Rattle.mdcc_log_file.specs.Area.{AreaLog, payloads, read_areas}
use Rattle.mdcc_disks.specs.Memory.{AllMemory, disk_of}
use Rattle.mdcc_def_protocol.specs.Belongs.{is_centre}
use Rattle.mdcc_def_ledger.specs.Ledger.{facts_of}
use Rattle.mdcc_def_simulation.specs.State.{World, is_up_at}
use Rattle.mdcc_def_messages.specs.Spelling.{encodings_of}

-- the frames of the current area of a centre, those after its last checkpoint, are so few
abbrev pub HasShortTail : List ℕ → List ℕ → Type 0
HasShortTail first second = (log : AreaLog) × ((read_areas first second ≡ Ok log) × (length log.tail < 1024))

-- For each centre the payloads of its two areas are the encodings of its facts in the ledger, in order; and where it is up, the tail of
-- its current area has fewer than 1,024 frames.
pub record ShowsLog (first second : List ℕ) (w : World) (a : ℕ) : Type 0 where
  pub has : payloads first second ≡ Ok (encodings_of (facts_of w.ledger a))
  pub tail : is_up_at w a ≡ true → HasShortTail first second

abbrev pub DisksShow : AllMemory → World → Type 0
DisksShow disks w = (a : ℕ) → is_centre w.cluster a ≡ true → ShowsLog (disk_of disks a).bytes (disk_of disks (a + 16)).bytes w a
