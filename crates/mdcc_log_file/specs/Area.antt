-- The bytes of the two areas of a log, and the log that they stand for.
--
-- An area of version 1 is a mark of eight bytes, frames and a gate; area 0 alone may be one. An area of version 2 is a mark, an
-- area gate, the generation in eight bytes, the number of its records in eight bytes, the records, frames and a gate. Numbers
-- have their least byte first. A record is the length of a payload in four bytes and the payload, and a frame is a record behind
-- a gate that is open. A gate is one byte. It is open exactly where it is 1.
use Rattle.std.specs.Prelude.{ℕ, ◌+◌, zero, suc, Bool, ◌==◌, ◌&&◌, nat_eq, nat_le, nat_lt, List, [], ◌∷◌, ◌++◌, length, take, drop, slice_index, if◌then◌else◌, Result, Ok, Err}
use Rattle.std.specs.List.{flat_map}
use Rattle.std.specs.Cmp.Lexicographic.{pointwise}
use Rattle.std.specs.Int.{w32, w64, to_le_bytes, from_le_bytes}
use Rattle.mdcc_log_file.specs.declared.area.Spare.{Spare}
use Rattle.mdcc_log_file.specs.declared.area.Spare.TheVariants as spares
use Rattle.mdcc_log_file.specs.Log.{log_mark, payload_limit, frame_body, frame_bytes, frames_from}

-- MDCCLOG2
abbrev pub area_mark : List ℕ
area_mark = 77 ∷ 68 ∷ 67 ∷ 67 ∷ 76 ∷ 79 ∷ 71 ∷ 50 ∷ []

-- ---- as it is written

-- what stands before the frames
pub data Head : Type 0 where
  Version1 : Head
  Version2 : (generation : ℕ) (records : List (List ℕ)) → Head

-- the log in an area: its head, and the payloads of its frames
pub record AreaLog : Type 0 where
  pub head : Head
  pub tail : List (List ℕ)

abbrev pub generation_of : Head → ℕ
generation_of Version1 = 0
generation_of (Version2 generation records) = generation

abbrev pub records_of : Head → List (List ℕ)
records_of Version1 = []
records_of (Version2 generation records) = records

abbrev pub payloads_of : AreaLog → List (List ℕ)
payloads_of log = records_of log.head ++ log.tail

-- the generation and the number of the records
abbrev pub counts_bytes : ℕ → ℕ → List ℕ
counts_bytes generation count = to_le_bytes w64 generation ++ to_le_bytes w64 count

-- a record is what stands behind the gate of a frame
abbrev pub records_bytes : List (List ℕ) → List ℕ
records_bytes records = flat_map frame_body records

-- what stands behind the area gate
abbrev pub copy_body : ℕ → List (List ℕ) → List ℕ
copy_body generation records = counts_bytes generation (length records) ++ records_bytes records

-- all that stands before the frames
abbrev pub head_bytes : Head → List ℕ
head_bytes Version1 = log_mark
head_bytes (Version2 generation records) = area_mark ++ 1 ∷ copy_body generation records

-- all that stands before the last gate
abbrev pub front_of : AreaLog → List ℕ
front_of log = head_bytes log.head ++ flat_map frame_bytes log.tail

-- the frames, and a closed gate
abbrev pub area_bytes : AreaLog → List ℕ
area_bytes log = front_of log ++ 0 ∷ []

-- ---- as it is read

abbrev pub is_first : List ℕ → Bool
is_first bytes = pointwise nat_eq (take 8 bytes) log_mark

abbrev pub is_second : List ℕ → Bool
is_second bytes = pointwise nat_eq (take 8 bytes) area_mark

abbrev pub area_gate : List ℕ → ℕ
area_gate bytes = slice_index bytes 8

-- an area is whole where it is more than a mark and a gate, and its area gate is open
abbrev pub is_copy : List ℕ → Bool
is_copy bytes = nat_lt 9 (length bytes) && (is_second bytes && area_gate bytes == 1)

abbrev pub is_log : List ℕ → Bool
is_log bytes = nat_lt 9 (length bytes) && is_first bytes

-- its area gate is neither closed nor open
abbrev pub is_torn : List ℕ → Bool
is_torn bytes = nat_lt 9 (length bytes) && (is_second bytes && nat_lt 1 (area_gate bytes))

-- the numbers behind the area gate
abbrev pub generation_in : List ℕ → ℕ
generation_in bytes = from_le_bytes w64 (take 8 (drop 9 bytes))

abbrev pub count_in : List ℕ → ℕ
count_in bytes = from_le_bytes w64 (take 8 (drop 17 bytes))

-- the generation of a whole area of version 2, from 1 on; or the offset of what is missing there
abbrev pub copy_generation : List ℕ → Result ℕ ℕ
copy_generation bytes =
    if nat_lt (length bytes) 17 then Err 9
    else (if nat_lt (length bytes) 25 then Err 17
    else (if generation_in bytes == 0 then Err 9 else Ok (generation_in bytes)))

-- which of two whole areas is taken: the one of the greater generation
abbrev pub newer : Result ℕ ℕ → Result ℕ ℕ → Result ℕ ℕ
newer (Err n) second = Err n
newer (Ok g) (Err n) = Err n
newer (Ok g) (Ok h) = if g == h then Err 9 else (if nat_lt g h then Ok 1 else Ok 0)

-- this area, where its generation can be read
abbrev pub only : ℕ → Result ℕ ℕ → Result ℕ ℕ
only area (Err n) = Err n
only area (Ok g) = Ok area

-- the area that is taken: the whole one, of two the one of the greater generation, and where none is whole area 0, which then
-- has at most nine bytes; or the offset of what is no log
abbrev pub taken : List ℕ → List ℕ → Result ℕ ℕ
taken first second =
    if is_copy second
    then (if is_log first then newer (Ok 0) (copy_generation second)
    else (if is_copy first then newer (copy_generation first) (copy_generation second) else only 1 (copy_generation second)))
    else (if is_log first then Ok 0
    else (if is_copy first then only 0 (copy_generation first)
    else (if nat_le (length first) 9 then Ok 0 else Err 0)))

abbrev pub record_length : List ℕ → ℕ
record_length rest = from_le_bytes w32 (take 4 rest)

-- the length is no more than a payload has, and the record lies in the bytes
abbrev pub is_record : List ℕ → Bool
is_record rest = nat_le 4 (length rest) && (nat_le (record_length rest) payload_limit && nat_le (4 + record_length rest) (length rest))

abbrev pub record_of : List ℕ → List ℕ
record_of rest = take (record_length rest) (drop 4 rest)

abbrev pub next_record : List ℕ → List ℕ
next_record rest = drop (record_length rest) (drop 4 rest)

-- the log of this head and this tail
abbrev pub with_tail : Head → Result (List (List ℕ)) ℕ → Result AreaLog ℕ
with_tail head (Ok tail) = Ok (record { head = head; tail = tail })
with_tail head (Err offset) = Err offset

-- the payloads of the frames from this offset on, where at least a gate stands
abbrev pub tail_from : ℕ → List ℕ → Result (List (List ℕ)) ℕ
tail_from offset rest = if nat_lt 0 (length rest) then frames_from (length rest) offset rest else Err offset

-- the log of this generation, of which these records were read and so many are left; or the offset of a record, of a gate or of
-- an open gate where none stands
abbrev pub log_from : ℕ → List (List ℕ) → ℕ → ℕ → List ℕ → Result AreaLog ℕ
log_from generation records zero offset rest = with_tail (Version2 generation records) (tail_from offset rest)
log_from generation records (suc left) offset rest =
    if is_record rest
    then log_from generation (records ++ record_of rest ∷ []) left (offset + (4 + record_length rest)) (next_record rest)
    else Err offset

-- a log that was never begun
abbrev pub fresh : AreaLog
fresh = record { head = Version1; tail = [] }

-- the log in a whole area of version 2 of this generation
abbrev pub read_copy : Result ℕ ℕ → List ℕ → Result AreaLog ℕ
read_copy (Ok generation) bytes = log_from generation [] (count_in bytes) 25 (drop 25 bytes)
read_copy (Err offset) bytes = Err offset

-- the log in an area, or the offset of what is no log; at most nine bytes are a log that was never begun
abbrev pub read_area : List ℕ → Result AreaLog ℕ
read_area bytes =
    if nat_le (length bytes) 9 then Ok fresh
    else (if is_first bytes then with_tail Version1 (frames_from (length bytes) 8 (drop 8 bytes))
    else (if is_copy bytes then read_copy (copy_generation bytes) bytes else Err 0))

abbrev pub read_area_taken : Result ℕ ℕ → List ℕ → List ℕ → Result AreaLog ℕ
read_area_taken (Ok area) first second = if area == 0 then read_area first else read_area second
read_area_taken (Err offset) first second = Err offset

-- the log in two areas, or the offset of what is no log
abbrev pub read_areas : List ℕ → List ℕ → Result AreaLog ℕ
read_areas first second = read_area_taken (taken first second) first second

abbrev pub payloads_in : Result AreaLog ℕ → Result (List (List ℕ)) ℕ
payloads_in (Ok log) = Ok (payloads_of log)
payloads_in (Err offset) = Err offset

-- the payloads in two areas: the records, then those before the first gate that is not open; or the offset of what is no log
abbrev pub payloads : List ℕ → List ℕ → Result (List (List ℕ)) ℕ
payloads first second = payloads_in (read_areas first second)

-- ---- what else is said of an area

-- with another area gate
abbrev pub with_gate : ℕ → List ℕ → List ℕ
with_gate gate bytes = take 8 bytes ++ gate ∷ drop 9 bytes

-- what is known of an area that is not in use: whether it has more than a mark and a gate, and then whether its area gate is
-- closed and its mark is that of version 2
abbrev pub spare_of : List ℕ → Spare
spare_of bytes = if nat_lt 9 (length bytes) then spares.Long (area_gate bytes == 0) (is_second bytes) else spares.Short
