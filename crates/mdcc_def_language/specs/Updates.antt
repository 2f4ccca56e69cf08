-- How an update word is read.
use Rattle.std.specs.Prelude.{ℕ, zero, suc, ◌+◌, ℤ, Bool, if◌then◌else◌, List, [], ◌∷◌, length, codes, Result, Ok}
use Rattle.mdcc_option.specs.declared.items.Item.{Item}
use Rattle.mdcc_def_language.specs.declared.events.UpdateWord.{UpdateWord}
use Rattle.mdcc_def_language.specs.declared.events.UpdateWord.TheVariants.{New, Set, Add, Keep}
use Rattle.mdcc_def_language.specs.declared.schedule.SchedFault.{SchedFault}
use Rattle.mdcc_def_language.specs.declared.schedule.SchedCause.TheVariants.{Word, Range}
use Rattle.mdcc_def_language.specs.Words.{◌>>=◌, refused, text_eq, part_at, part_end, parts_from, start_after, end_at, natural_of, count_of, value_of, key_of, body_of, values_of}

-- ---- amounts

-- an attribute and its amount: `1=-4`
abbrev pub parse_amount : List ℕ → ℕ → Result (ℕ × ℤ) SchedFault
parse_amount word column = (do
  attribute ← natural_of (part_at 61 0 word) column 1 4
  start ← start_after 61 (part_end 61 0 word) word column
  amount ← value_of (part_at 61 start word) (column + start)
  _ ← end_at (part_end 61 start word) word column
  Ok (attribute, amount))

-- the amounts of parts, the first of which stands at a column; where no more are allowed the next one is out of range
abbrev pub amounts_from : ℕ → ℕ → List (List ℕ) → Result (List (ℕ × ℤ)) SchedFault
amounts_from left column [] = Ok []
amounts_from zero column (part ∷ parts) = refused column Range
amounts_from (suc left) column (part ∷ parts) = (do
  amount ← parse_amount part column
  amounts ← amounts_from left (column + length part + 1) parts
  Ok (amount ∷ amounts))

-- 1 to 4 amounts with commas between them
abbrev pub parse_amounts : List ℕ → ℕ → Result (List (ℕ × ℤ)) SchedFault
parse_amounts word column = amounts_from 4 column (parts_from 44 0 word)

-- ---- the parts behind the first, with colons between them

-- an item, whose two parts stand behind this place and end the word
abbrev pub parse_item : ℕ → List ℕ → ℕ → Result Item SchedFault
parse_item at word column = (do
  start ← start_after 58 at word column
  body ← body_of (part_at 58 start word) (column + start)
  next ← start_after 58 (part_end 58 start word) word column
  values ← values_of (part_at 58 next word) (column + next)
  _ ← end_at (part_end 58 next word) word column
  Ok (record { body = body; values = values }))

-- `new:KEY:BODY:VALUES`
abbrev pub parse_new : List ℕ → ℕ → Result UpdateWord SchedFault
parse_new word column = (do
  start ← start_after 58 3 word column
  key ← key_of (part_at 58 start word) (column + start)
  item ← parse_item (part_end 58 start word) word column
  Ok (New key item))

-- `set:R:BODY:VALUES`
abbrev pub parse_set : List ℕ → ℕ → Result UpdateWord SchedFault
parse_set word column = (do
  start ← start_after 58 3 word column
  read ← count_of (part_at 58 start word) (column + start)
  item ← parse_item (part_end 58 start word) word column
  Ok (Set read item))

-- `add:R:A=D,..`
abbrev pub parse_add : List ℕ → ℕ → Result UpdateWord SchedFault
parse_add word column = (do
  start ← start_after 58 3 word column
  read ← count_of (part_at 58 start word) (column + start)
  next ← start_after 58 (part_end 58 start word) word column
  amounts ← parse_amounts (part_at 58 next word) (column + next)
  _ ← end_at (part_end 58 next word) word column
  Ok (Add read amounts))

-- `keep:R`
abbrev pub parse_keep : List ℕ → ℕ → Result UpdateWord SchedFault
parse_keep word column = (do
  start ← start_after 58 4 word column
  read ← count_of (part_at 58 start word) (column + start)
  _ ← end_at (part_end 58 start word) word column
  Ok (Keep read))

-- whether the first part of a word is this one
abbrev pub begins_update : List ℕ → List ℕ → Bool
begins_update name word = text_eq (part_at 58 0 word) name

-- an update word that begins at a column
abbrev pub update_of : List ℕ → ℕ → Result UpdateWord SchedFault
update_of word column =
    if begins_update (codes "new") word then parse_new word column
    else (if begins_update (codes "set") word then parse_set word column
    else (if begins_update (codes "add") word then parse_add word column
    else (if begins_update (codes "keep") word then parse_keep word column
    else refused column Word)))
