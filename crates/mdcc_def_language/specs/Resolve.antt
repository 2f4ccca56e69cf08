-- What update words change, by the reads that they name.
use Rattle.std.specs.Prelude.{ℕ, zero, suc, is_some, if◌then◌else◌, List, [], ◌∷◌, Option, Some, None, slice_get, option_and_then, ok_or, Result, Ok, Err}
use Rattle.std.specs.Option.{option_or}
use Rattle.mdcc_option.specs.declared.items.Item.{Item}
use Rattle.mdcc_option.specs.declared.items.Known.{Known}
use Rattle.mdcc_option.specs.declared.items.Part.{Part}
use Rattle.mdcc_option.specs.declared.items.Update.{Update}
use Rattle.mdcc_option.specs.declared.items.Update.TheVariants.{Write}
use Rattle.mdcc_def_language.specs.declared.events.UpdateWord.{UpdateWord}
use Rattle.mdcc_def_language.specs.declared.events.UpdateWord.TheVariants.{New, Set, Keep}
use Rattle.mdcc_def_language.specs.declared.schedule.ResolveFault.{ResolveFault}
use Rattle.mdcc_def_language.specs.declared.schedule.ResolveFault.TheVariants.{NoRead, NoItem}
use Rattle.mdcc_def_language.specs.Words.{◌>>=◌}

-- ---- reads

-- the read of a number, which counts from 1; there is none where it was not made
abbrev pub read_at : List (Option Known) → ℕ → Option Known
read_at reads zero = None
read_at reads (suc place) = option_and_then (λ read. read) (slice_get reads place)

-- the read that a word names
abbrev pub read_named : UpdateWord → Option ℕ
read_named (New key item) = None
read_named (Set number item) = Some number
read_named (UpdateWord.Add number amounts) = Some number
read_named (Keep number) = Some number

-- the number of a read, where that read was not made
abbrev pub if_missing : List (Option Known) → ℕ → Option ℕ
if_missing reads number = if is_some (read_at reads number) then None else Some number

-- the first read that is named and was not made
abbrev pub first_missing : List (Option Known) → List UpdateWord → Option ℕ
first_missing reads [] = None
first_missing reads (word ∷ words) =
    option_or (option_and_then (if_missing reads) (read_named word)) (first_missing reads words)

-- ---- parts

abbrev pub read_for : List (Option Known) → ℕ → Result Known ResolveFault
read_for reads number = ok_or (read_at reads number) (NoRead number)

abbrev pub item_in : Known → Result Item ResolveFault
item_in read = ok_or read.item (NoItem read.key)

-- an update of the key of a read, at the version that it saw
abbrev pub part_on : Known → Update → Part
part_on read update = record { key = read.key; version = read.token.version; update = update }

-- an item that is written on what a read saw
abbrev pub written_on : Known → Item → Part
written_on read item = part_on read (Write item read.token.seen)

abbrev pub part_of : List (Option Known) → UpdateWord → Result Part ResolveFault
part_of reads (New key item) = Ok (record { key = key; version = 0; update = Write item [] })
part_of reads (Set number item) = read_for reads number >>= λ read. Ok (written_on read item)
part_of reads (UpdateWord.Add number amounts) = (do
  read ← read_for reads number
  _ ← item_in read
  Ok (part_on read (Update.Add amounts)))
part_of reads (Keep number) = (do
  read ← read_for reads number
  item ← item_in read
  Ok (written_on read item))

abbrev pub parts_of : List (Option Known) → List UpdateWord → Result (List Part) ResolveFault
parts_of reads [] = Ok []
parts_of reads (word ∷ words) = (do
  part ← part_of reads word
  parts ← parts_of reads words
  Ok (part ∷ parts))

abbrev pub resolve_by : Option ℕ → Result (List Part) ResolveFault → Result (List Part) ResolveFault
resolve_by (Some number) parts = Err (NoRead number)
resolve_by None parts = parts

-- the parts of update words; reads that were not made are asked for first
abbrev pub resolve : List UpdateWord → List (Option Known) → Result (List Part) ResolveFault
resolve words reads = resolve_by (first_missing reads words) (parts_of reads words)
