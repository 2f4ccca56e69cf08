use Rattle.std.proofs.Common.{◌≡◌, drop}
use Rattle.std.specs.Prelude.{fold}
use Rattle.mdcc_cells_chains.specs.Hashes.{mixed}
use Rattle.mdcc_cells_chains.proofs.index_key.bytes_hash.Given as goal

abbrev pub invariant-loop-byte : goal.invariant-loop-byte
invariant-loop-byte l = fold mixed l.hash (drop l.byte-index l.bytes) ≡ fold mixed 14695981039346656037 l.bytes
