-- The number of a message in a list.
use Rattle.std.specs.Prelude.{ℕ, List, Result}
use Rattle.mdcc_def_language.specs.declared.schedule.SchedFault.{SchedFault}
use Rattle.mdcc_def_language.specs.Words.{◌>>=◌, not_empty, count_of}

-- the number of a word, which may not be empty
abbrev pub number_of_word : ℕ → List ℕ → Result ℕ SchedFault
number_of_word column word = not_empty word column >>= λ _. count_of word column
