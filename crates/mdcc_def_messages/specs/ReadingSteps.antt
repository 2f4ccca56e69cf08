-- Reading bytes from left to right. A reader is given all bytes and the place at which a part begins, and answers the
-- part with the place behind it, or the first fault. A number is read whole, and asked for its range at once; an order
-- and an equality with the part round it are asked once the identifier, the key or the number that they speak of is read.
use Rattle.std.specs.Prelude.{ℕ, zero, suc, ◌+◌, ◌-◌, ℤ, Bool, true, nat_lt, nat_eq, if◌then◌else◌, List, [], ◌∷◌, length, take, drop, Option, Some, None, Result, Ok, Err}
use Rattle.std.specs.Int.{Width, w8, w32, w64, byte_len, from_le_bytes, cast_signed, is_in_range}
use Rattle.mdcc_def_messages.specs.declared.wire.WireFault.{WireFault}
use Rattle.mdcc_def_messages.specs.declared.wire.WireFault.TheVariants.{Truncated, Range, NotCanonical}

infixl 10 ◌>>=◌
abbrev pub ◌>>=◌ : {A B : Type 0} → Result A WireFault → (A → Result B WireFault) → Result B WireFault
(Ok x) >>= f = f x
(Err fault) >>= f = Err fault

-- ---- numbers

abbrev pub number_at : Width → List ℕ → ℕ → Result (ℕ × ℕ) WireFault
number_at width bytes at =
    if nat_lt (length bytes - at) (byte_len width) then Err (Truncated (length bytes))
    else Ok (from_le_bytes width (take (byte_len width) (drop at bytes)), at + byte_len width)

abbrev pub u8_at : List ℕ → ℕ → Result (ℕ × ℕ) WireFault
u8_at bytes at = number_at w8 bytes at

abbrev pub u32_at : List ℕ → ℕ → Result (ℕ × ℕ) WireFault
u32_at bytes at = number_at w32 bytes at

abbrev pub u64_at : List ℕ → ℕ → Result (ℕ × ℕ) WireFault
u64_at bytes at = number_at w64 bytes at

-- a whole number in two's complement
abbrev pub i64_at : List ℕ → ℕ → Result (ℤ × ℕ) WireFault
i64_at bytes at = do
  n ← u64_at bytes at
  Ok (cast_signed w64 n.0, n.1)

-- ---- what is asked of a value that was read

abbrev pub unless_fault : {X : Type 0} → Option WireFault → X → Result X WireFault
unless_fault None x = Ok x
unless_fault (Some fault) x = Err fault

-- what was read, if the check finds no fault in it
abbrev pub checked : {X : Type 0} → (X → Option WireFault) → Result (X × ℕ) WireFault → Result (X × ℕ) WireFault
checked check (Ok x) = unless_fault (check x.0) x
checked check (Err fault) = Err fault

abbrev pub free : {X : Type 0} → X → Option WireFault
free x = None

-- a number of the part that begins at a place is in a range
abbrev pub ranged : ℕ → ℕ → ℕ → ℕ → Option WireFault
ranged part low high n = if is_in_range low high n then None else Some (Range part)

-- it is the one that the part at a place must have
abbrev pub same : {X : Type 0} → (X → X → Bool) → ℕ → X → X → Option WireFault
same eq part expected x = if eq x expected then None else Some (NotCanonical part)

abbrev pub is_after : {X : Type 0} → (X → X → Bool) → Option X → X → Bool
is_after lt None x = true
is_after lt (Some last) x = lt last x

-- it stands behind the last one of the list that begins at a place
abbrev pub fault_unless_after : {X : Type 0} → (X → X → Bool) → ℕ → Option X → X → Option WireFault
fault_unless_after lt part last x = if is_after lt last x then None else Some (NotCanonical part)

abbrev pub u8_within : ℕ → ℕ → ℕ → List ℕ → ℕ → Result (ℕ × ℕ) WireFault
u8_within part low high bytes at = checked (ranged part low high) (u8_at bytes at)

abbrev pub u32_within : ℕ → ℕ → ℕ → List ℕ → ℕ → Result (ℕ × ℕ) WireFault
u32_within part low high bytes at = checked (ranged part low high) (u32_at bytes at)

-- a byte 0 or 1
abbrev pub flag_at : List ℕ → ℕ → Result (Bool × ℕ) WireFault
flag_at bytes at = do
  flag ← u8_within at 0 1 bytes at
  Ok (nat_eq flag.0 1, flag.1)

-- ---- lists

-- so many elements one after another, each read by what names the element before it
abbrev pub elements_at : {X K : Type 0} → (Option K → ℕ → Result (X × ℕ) WireFault) → (X → K) → ℕ → Option K → ℕ → Result (List X × ℕ) WireFault
elements_at read name_of zero last at = Ok ([], at)
elements_at read name_of (suc count) last at = do
  first ← read last at
  others ← elements_at read name_of count (Some (name_of first.0)) first.1
  Ok (first.0 ∷ others.0, others.1)

-- a count in a range, and so many elements
abbrev pub list_at : {X K : Type 0} → ℕ → ℕ → ℕ → (Option K → ℕ → Result (X × ℕ) WireFault) → (X → K) → List ℕ → ℕ → Result (List X × ℕ) WireFault
list_at part low high read name_of bytes at = do
  count ← u8_within part low high bytes at
  elements_at read name_of count.0 None count.1
