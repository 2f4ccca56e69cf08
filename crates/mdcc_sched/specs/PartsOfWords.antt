-- What one update word needs and gives.
use Rattle.std.specs.Prelude.{ℕ, ℤ, List, Option, option_and_then, Result, Ok}
use Rattle.mdcc_option.specs.declared.items.Known.{Known}
use Rattle.mdcc_option.specs.declared.items.Part.{Part}
use Rattle.mdcc_option.specs.declared.items.Update.TheVariants.{Add}
use Rattle.mdcc_def_language.specs.declared.events.UpdateWord.{UpdateWord}
use Rattle.mdcc_def_language.specs.declared.schedule.ResolveFault.{ResolveFault}
use Rattle.mdcc_def_language.specs.Resolve.{read_named, if_missing, item_in, part_on, written_on}
use Rattle.mdcc_def_language.specs.Words.{◌>>=◌}

-- the read that a word names, where it was not made
abbrev pub missing_in : List (Option Known) → UpdateWord → Option ℕ
missing_in reads word = option_and_then (if_missing reads) (read_named word)

-- amounts that are added to what a read saw; it has to have shown an item
abbrev pub added_on : Known → List (ℕ × ℤ) → Result Part ResolveFault
added_on read amounts = item_in read >>= λ item. Ok (part_on read (Add amounts))

-- the item of a read, written again
abbrev pub kept_on : Known → Result Part ResolveFault
kept_on read = item_in read >>= λ item. Ok (written_on read item)
