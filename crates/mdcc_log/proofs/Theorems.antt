-- What opening keeps, and what is read after a crash of a checkpoint.
use Rattle.std.proofs.Common.{inl, inr, ◌+◌, refl}
use Rattle.mdcc_log_file.specs.Area.{generation_of}
use Rattle.mdcc_log.specs.Kept.{any_byte, CurrentStays, BetweenStays, IdleStays, OtherIsSpare, CheckpointIsRead}
use Rattle.mdcc_log.proofs.Choice.{current_is_read}
use Rattle.mdcc_log.proofs.Idles.{idle_closed_stays}
use Rattle.mdcc_log.proofs.Keeps.{current_taken_stays, current_closed_stays, between_taken_stays, between_closed_stays}
use Rattle.mdcc_log.proofs.Takes.{first_idle, second_idle}
use Rattle.mdcc_log.proofs.Uses.{copying_idle}

pub current_stays : CurrentStays
current_stays area log bytes c is (inl may) = current_taken_stays {tears = any_byte} area log bytes c is may
current_stays area log bytes c is (inr may) = current_closed_stays {tears = any_byte} area log bytes c is may

pub between_stays : BetweenStays
between_stays area log p bytes c is (inl may) = between_taken_stays {tears = any_byte} area log p bytes c is may
between_stays area log p bytes c is (inr may) = between_closed_stays {tears = any_byte} area log p bytes c is may

pub idle_stays : IdleStays
idle_stays log bytes c idle may = idle_closed_stays {tears = any_byte} log bytes c idle may

pub other_is_spare : OtherIsSpare
other_is_spare = (second_idle, first_idle)

pub checkpoint_is_read : CheckpointIsRead
checkpoint_is_read area log current other c is fits counted spare may =
    let idle = copying_idle area (generation_of log.head + 1) log other c is.valid refl fits counted spare may in
    (idle, current_is_read area log current c is idle)
