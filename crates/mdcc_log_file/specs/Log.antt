-- The bytes of a log, and the payloads that they stand for.
--
-- A log is a mark of eight bytes, frames, and a gate. A frame is a gate, the length of the payload in four bytes, the least
-- first, and the payload. A gate is one byte. It is open exactly where it is 1, and then a frame stands there.
use Rattle.std.specs.Prelude.{ℕ, ◌+◌, ◌^◌, zero, suc, Bool, false, ◌==◌, ◌&&◌, nat_le, nat_lt, List, [], ◌∷◌, ◌++◌, length, take, drop, if◌then◌else◌, Result, Ok, Err}
use Rattle.std.specs.List.{flat_map}
use Rattle.std.specs.Int.{w32, to_le_bytes, from_le_bytes}

-- MDCCLOG1
abbrev pub log_mark : List ℕ
log_mark = 77 ∷ 68 ∷ 67 ∷ 67 ∷ 76 ∷ 79 ∷ 71 ∷ 49 ∷ []

-- the most bytes of a payload, and of a log
abbrev pub payload_limit : ℕ
payload_limit = 2097152

abbrev pub log_limit : ℕ
log_limit = 2 ^ 30

-- ---- as it is written

-- what stands behind the gate of a frame
abbrev pub frame_body : List ℕ → List ℕ
frame_body payload = to_le_bytes w32 (length payload) ++ payload

abbrev pub frame_bytes : List ℕ → List ℕ
frame_bytes payload = 1 ∷ frame_body payload

-- all that stands before the last gate
abbrev pub log_front : List (List ℕ) → List ℕ
log_front payloads = log_mark ++ flat_map frame_bytes payloads

-- the frames, and a closed gate
abbrev pub log_bytes : List (List ℕ) → List ℕ
log_bytes payloads = log_front payloads ++ 0 ∷ []

-- ---- as it is read

abbrev pub is_open : List ℕ → Bool
is_open [] = false
is_open (gate ∷ rest) = gate == 1

-- the length of the payload that stands at an open gate
abbrev pub stated_length : List ℕ → ℕ
stated_length rest = from_le_bytes w32 (take 4 (drop 1 rest))

abbrev pub payload_of : List ℕ → List ℕ
payload_of rest = take (stated_length rest) (drop 5 rest)

-- what stands behind it
abbrev pub next_of : List ℕ → List ℕ
next_of rest = drop (stated_length rest) (drop 5 rest)

-- The length is no more than a payload has, and the frame lies in the bytes, with a gate behind it.
abbrev pub is_whole_frame : List ℕ → Bool
is_whole_frame rest = nat_le 5 (length rest) && (nat_le (stated_length rest) payload_limit && nat_lt (5 + stated_length rest) (length rest))

-- these payloads, and then what else was read
abbrev pub behind : List (List ℕ) → Result (List (List ℕ)) ℕ → Result (List (List ℕ)) ℕ
behind payloads (Ok more) = Ok (payloads ++ more)
behind payloads (Err offset) = Err offset

-- The payloads before the first gate that is not open, of the bytes from the gate at this offset on; or the offset of an open
-- gate where no frame stands. The first number is how many frames are read at most.
abbrev pub frames_from : ℕ → ℕ → List ℕ → Result (List (List ℕ)) ℕ
frames_from zero offset rest = Ok []
frames_from (suc most) offset rest =
    if is_open rest
    then (if is_whole_frame rest
    then behind (payload_of rest ∷ []) (frames_from most (offset + (5 + stated_length rest)) (next_of rest))
    else Err offset)
    else Ok []
