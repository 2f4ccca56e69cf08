-- A header with the number of the line behind it.
use Rattle.std.specs.Prelude.{List, Ok, Result, ℕ}
use Rattle.mdcc_option.specs.declared.cluster.Cluster.{Cluster}
use Rattle.mdcc_def_language.specs.Header.{UnreadLines, all_of, header_lines}
use Rattle.mdcc_def_language.specs.Words.{◌>>=◌}
use Rattle.mdcc_def_language.specs.declared.schedule.HeaderFault.{HeaderFault}

abbrev pub header_numbered : Cluster × UnreadLines → Result (Cluster × ℕ × ℕ) HeaderFault
header_numbered header = Ok (header.0, header.1.at, header.1.number)

-- the cluster of a header, the place behind it, and the number of the line there
abbrev pub numbered_header : List ℕ → Result (Cluster × ℕ × ℕ) HeaderFault
numbered_header text = header_lines (all_of text) >>= header_numbered
