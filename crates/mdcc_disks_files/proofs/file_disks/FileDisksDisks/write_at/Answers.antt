use Rattle.mdcc_disks_files.proofs.Crashes.{torn_of_itself}
use Rattle.mdcc_disks_files.proofs.file_disks.FileDisksDisks.write_at.Goals as goal

pub returns-then-is_ok-clause-crash : goal.returns-then-is_ok-clause-crash
returns-then-is_ok-clause-crash g c = λ bytes _. (bytes, tt, torn_of_itself _ _ bytes)

pub returns-clause-crash : goal.returns-clause-crash
returns-clause-crash g c = λ bytes _. (bytes, tt, torn_of_itself _ _ bytes)
