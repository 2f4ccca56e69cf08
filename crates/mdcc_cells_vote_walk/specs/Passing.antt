-- What follows a part of a fact, by the counts in its bytes.
use Rattle.std.specs.Prelude.{List, ℕ, ◌*◌, ◌+◌, ◌==◌, drop, get_or, if◌then◌else◌, suc, zero}

-- after a list: how many elements there are, and each of so many bytes
abbrev pub after_list : ℕ → List ℕ → List ℕ
after_list width bytes = drop (1 + width * get_or bytes 0 0) bytes

-- after a written item: its body and its values
abbrev pub after_item : List ℕ → List ℕ
after_item bytes = after_list 8 (after_list 1 bytes)

-- after an update: a written item and the transactions seen, or amounts
abbrev pub after_update : List ℕ → List ℕ
after_update bytes = if get_or bytes 0 0 == 1 then after_list 9 (after_item (drop 1 bytes)) else after_list 9 (drop 1 bytes)

-- after a key and a version
abbrev pub after_written : List ℕ → List ℕ
after_written bytes = drop 8 (after_list 1 bytes)

-- after so many keys and versions
abbrev pub after_each : ℕ → List ℕ → List ℕ
after_each zero bytes = bytes
after_each (suc count) bytes = after_each count (after_written bytes)

abbrev pub after_write_set : List ℕ → List ℕ
after_write_set bytes = after_each (get_or bytes 0 0) (drop 1 bytes)

abbrev pub after_choice : List ℕ → List ℕ
after_choice bytes = after_write_set (after_update (after_written (drop 9 bytes)))

-- after a mark: a transaction that is rejected, or a choice that is accepted
abbrev pub after_mark : List ℕ → List ℕ
after_mark bytes = if get_or bytes 0 0 == 1 then after_choice (drop 1 bytes) else drop 10 bytes

-- after so many marks
abbrev pub after_marks : ℕ → List ℕ → List ℕ
after_marks zero bytes = bytes
after_marks (suc count) bytes = after_marks count (after_mark bytes)
