-- Numbers as bytes: little-endian, of fixed width.
use Rattle.std.specs.Prelude.{ℕ, ℤ, List, [], ◌∷◌, ◌++◌, length}
use Rattle.std.specs.List.{flat_map}
use Rattle.std.specs.Int.{w32, w64, to_le_bytes, cast_unsigned}

-- a number below 2^8
abbrev pub u8_bytes : ℕ → List ℕ
u8_bytes n = n ∷ []

-- a number below 2^32
abbrev pub u32_bytes : ℕ → List ℕ
u32_bytes n = to_le_bytes w32 n

-- a number below 2^64
abbrev pub u64_bytes : ℕ → List ℕ
u64_bytes n = to_le_bytes w64 n

-- a whole number in two's complement
abbrev pub i64_bytes : ℤ → List ℕ
i64_bytes z = to_le_bytes w64 (cast_unsigned w64 z)

-- a short list: how many there are, and then each
abbrev pub counted_bytes : {X : Type 0} → (X → List ℕ) → List X → List ℕ
counted_bytes bytes_of xs = u8_bytes (length xs) ++ flat_map bytes_of xs
