-- Bytes of encodings that are passed by: how long a part is stands at its own beginning.
use Rattle.std.specs.Prelude.{List, ℕ, zero, suc, ◌+◌, ◌*◌, ◌==◌, drop, get_or, if◌then◌else◌, take}

-- what is looked at of an entry before more of it is read
abbrev pub entry_head : List ℕ → List ℕ
entry_head bytes = take 64 bytes

-- a byte, 0 past the end
abbrev pub byte_at : ℕ → List ℕ → ℕ
byte_at at bytes = get_or bytes at 0

-- after a count and so many elements of a width
abbrev pub after_counted : ℕ → List ℕ → List ℕ
after_counted width bytes = drop (1 + width * byte_at 0 bytes) bytes

-- after an item: a body and values
abbrev pub after_counted_item : List ℕ → List ℕ
after_counted_item bytes = after_counted 8 (after_counted 1 bytes)

-- after an update: an item that is written and what its writer saw, or amounts
abbrev pub after_counted_update : List ℕ → List ℕ
after_counted_update bytes = if byte_at 0 bytes == 1 then after_counted 9 (after_counted_item (drop 1 bytes)) else after_counted 9 (drop 1 bytes)

-- after so many keys with their versions
abbrev pub after_counted_keys : ℕ → List ℕ → List ℕ
after_counted_keys zero bytes = bytes
after_counted_keys (suc count) bytes = after_counted_keys count (drop 8 (after_counted 1 bytes))

abbrev pub after_counted_write_set : List ℕ → List ℕ
after_counted_write_set bytes = after_counted_keys (byte_at 0 bytes) (drop 1 bytes)

-- after the choice whose update begins there
abbrev pub past_update : List ℕ → List ℕ
past_update bytes = after_counted_write_set (after_counted_update bytes)
