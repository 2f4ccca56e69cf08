use Rattle.mdcc_disks_files.proofs.Crashes.{cut_of_itself}
use Rattle.mdcc_disks_files.proofs.file_disks.FileDisksDisks.cut.Goals as goal

pub returns-then-is_ok-clause-crash : goal.returns-then-is_ok-clause-crash
returns-then-is_ok-clause-crash g c = λ bytes _. (bytes, tt, cut_of_itself _ bytes)

pub returns-clause-crash : goal.returns-clause-crash
returns-clause-crash g c = λ bytes _. (bytes, tt, cut_of_itself _ bytes)
