-- The lines of a text.
use Rattle.std.specs.Prelude.{ℕ, ◌+◌, ◌==◌, nat_le, if◌then◌else◌, List, [], ◌∷◌, length, drop, Result, Ok, Err}
use Rattle.std.specs.List.{onto_first}
use Rattle.mdcc_def_language.specs.declared.schedule.SchedFault.{SchedFault}
use Rattle.mdcc_def_language.specs.declared.schedule.SchedCause.TheVariants.{Range, Word}
use Rattle.mdcc_def_language.specs.Words.{refused, part_at}

-- the byte that ends a line
abbrev pub line_end : ℕ
line_end = 10

-- the most bytes that a line may have before its end
abbrev pub most_line_bytes : ℕ
most_line_bytes = 4096

-- the lines of a text, each with its line end; the last one has none where the text doesn't end with one
abbrev pub lines_in : List ℕ → List (List ℕ)
lines_in [] = []
lines_in (b ∷ bs) = if b == line_end then (b ∷ []) ∷ lines_in bs else onto_first b (lines_in bs)

-- the bytes of a line before its line end
abbrev pub bytes_of_line : List ℕ → List ℕ
bytes_of_line line = part_at line_end 0 line

-- what is read of a line that has too many bytes: its fault where that stands within the most bytes, and in all other
-- cases the first byte too much is out of range
abbrev pub of_long : {A : Type 0} → Result A SchedFault → Result A SchedFault
of_long (Ok x) = refused (most_line_bytes + 1) Range
of_long (Err fault) = if nat_le fault.column most_line_bytes then Err fault else refused (most_line_bytes + 1) Range

-- what is read of a line with these bytes before its line end
abbrev pub bounded : {A : Type 0} → List ℕ → Result A SchedFault → Result A SchedFault
bounded text read = if nat_le (length text) most_line_bytes then read else of_long read

-- one line end and nothing more, from this column on
abbrev pub line_end_by : ℕ → List ℕ → Result (Unit {0}) SchedFault
line_end_by column [] = refused column Word
line_end_by column (b ∷ []) = Ok tt
line_end_by column (b ∷ c ∷ bs) = refused (column + 1) Word

-- a line ends behind its text, by one line end
abbrev pub line_end_of : List ℕ → List ℕ → Result (Unit {0}) SchedFault
line_end_of text line = line_end_by (length text + 1) (drop (length text) line)
