-- Where a key is looked for. No contract of an index depends on it.
use Rattle.std.specs.Prelude.{ℕ, ◌+◌, ◌*◌, ◌/◌, ◌%◌, ◌^◌, List, fold}

-- transactions of one epoch of a manager have neighbouring numbers
abbrev pub tx_hash : (centre epoch seq : ℕ) → ℕ
tx_hash centre epoch seq = seq + epoch * 1000003 + centre * 15485863

abbrev pub mixed : ℕ → ℕ → ℕ
mixed hash byte = ((hash + byte) % 2 ^ 64 * 11400714819323198485) % 2 ^ 64

-- the upper half of what the bytes are mixed into
abbrev pub bytes_hash : List ℕ → ℕ
bytes_hash bytes = fold mixed 14695981039346656037 bytes / 4294967296

-- versions of one key have neighbouring numbers
abbrev pub instance_hash : List ℕ → ℕ → ℕ
instance_hash key version = (bytes_hash key + version) % 2 ^ 64
