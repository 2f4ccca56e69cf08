-- How a history is read: its schema and its lines, or the first fault with its line and column.
use Rattle.std.specs.Prelude.{true, Bool, Err, List, None, Ok, Option, Result, Some, [], codes, take, if◌then◌else◌, length, suc, zero, ℕ, ℤ, ◌++◌, ◌+◌, ◌-◌, ◌==◌, ◌^◌, ◌∷◌}
use Rattle.mdcc_base.specs.TxId.{tx_lt}
use Rattle.mdcc_base.specs.declared.identifiers.TxId.{TxId}
use Rattle.mdcc_check.specs.Verdicts.{is_above}
use Rattle.mdcc_option.specs.Transaction.{transaction_of}
use Rattle.mdcc_option.specs.declared.faults.DraftFault.{DraftFault}
use Rattle.mdcc_option.specs.declared.items.Known.{Known}
use Rattle.mdcc_option.specs.declared.items.Part.{Part}
use Rattle.mdcc_option.specs.declared.items.Update.{Update}
use Rattle.mdcc_def_language.specs.Header.{UnreadLines, bounds_lines, header_line, is_version}
use Rattle.mdcc_def_language.specs.Lines.{bytes_of_line, line_end_of}
use Rattle.mdcc_def_language.specs.Schedule.{begins_with}
use Rattle.mdcc_def_language.specs.Updates.{begins_update, parse_amounts, parse_item}
use Rattle.mdcc_def_language.specs.Words.{body_of, count_of, end_at, key_of, natural_of, part_at, part_end, parts_from, refused, start_after, text_eq, values_of, word_after, word_at, word_end, ◌>>=◌}
use Rattle.mdcc_def_language.specs.declared.schedule.HeaderFault.{HeaderFault}
use Rattle.mdcc_def_language.specs.declared.schedule.SchedCause.TheVariants.{Number, Order, Range, Word}
use Rattle.mdcc_def_language.specs.declared.schedule.SchedFault.{SchedFault}
use Rattle.mdcc_check.specs.declared.history.HistoryLine.{HistoryLine}
use Rattle.mdcc_check_histories.specs.declared.lines.LineFault.{LineFault}
use Rattle.mdcc_check_histories.specs.declared.lines.Spelled.{Spelled}

-- ---- words

-- an identifier: three numbers with dots between them; each fault of it stands at its first byte
abbrev pub tx_in : ℕ → List (List ℕ) → Result TxId SchedFault
tx_in column (a ∷ b ∷ c ∷ []) = (do
  centre ← natural_of a column 1 9
  epoch ← count_of b column
  seq ← count_of c column
  Ok (record { centre = centre; epoch = epoch; seq = seq }))
tx_in column parts = refused column Number

abbrev pub tx_of : List ℕ → ℕ → Result TxId SchedFault
tx_of word column = tx_in column (parts_from 46 0 word)

abbrev pub in_order : Option TxId → TxId → ℕ → Result (Unit {0}) SchedFault
in_order last tx column = if is_above last tx then Ok tt else refused column Order

-- an identifier behind the last one
abbrev pub tx_above : Option TxId → List ℕ → ℕ → Result TxId SchedFault
tx_above last part column = (do
  tx ← tx_of part column
  _ ← in_order last tx column
  Ok tx)

-- identifiers, ascending; where no more are allowed the next one is out of range
abbrev pub txs_from : ℕ → Option TxId → ℕ → List (List ℕ) → Result (List TxId) SchedFault
txs_from left last column [] = Ok []
txs_from zero last column (part ∷ parts) = refused column Range
txs_from (suc left) last column (part ∷ parts) = (do
  tx ← tx_above last part column
  txs ← txs_from left (Some tx) (column + length part + 1) parts
  Ok (tx ∷ txs))

abbrev pub txs_of : List ℕ → ℕ → Result (List TxId) SchedFault
txs_of word column = txs_from 64 None column (parts_from 44 0 word)

-- `-`, or 1 to 64 identifiers with commas between them
abbrev pub seen_in : List ℕ → ℕ → Result (List TxId) SchedFault
seen_in word column = if text_eq word (codes "-") then Ok [] else txs_of word column

abbrev pub version_in : List ℕ → ℕ → Result ℕ SchedFault
version_in word column = natural_of word column 0 (2 ^ 64 - 1)

-- ---- updates

-- `write:KEY:VERSION:SEEN:BODY:VALUES`
abbrev pub parse_write : List ℕ → ℕ → Result Part SchedFault
parse_write word column = (do
  first ← start_after 58 5 word column
  key ← key_of (part_at 58 first word) (column + first)
  second ← start_after 58 (part_end 58 first word) word column
  version ← version_in (part_at 58 second word) (column + second)
  third ← start_after 58 (part_end 58 second word) word column
  seen ← seen_in (part_at 58 third word) (column + third)
  item ← parse_item (part_end 58 third word) word column
  Ok (record { key = key; version = version; update = Update.Write item seen }))

-- `add:KEY:VERSION:A=D,..`
abbrev pub parse_add : List ℕ → ℕ → Result Part SchedFault
parse_add word column = (do
  first ← start_after 58 3 word column
  key ← key_of (part_at 58 first word) (column + first)
  second ← start_after 58 (part_end 58 first word) word column
  version ← version_in (part_at 58 second word) (column + second)
  third ← start_after 58 (part_end 58 second word) word column
  amounts ← parse_amounts (part_at 58 third word) (column + third)
  _ ← end_at (part_end 58 third word) word column
  Ok (record { key = key; version = version; update = Update.Add amounts }))

abbrev pub part_of : List ℕ → ℕ → Result Part SchedFault
part_of word column =
    if begins_update (codes "write") word then parse_write word column
    else (if begins_update (codes "add") word then parse_add word column
    else refused column Word)

abbrev pub history_parts_of : ℕ → List (List ℕ) → Result (List Part) SchedFault
history_parts_of column [] = Ok []
history_parts_of column (word ∷ words) = (do
  part ← part_of word column
  parts ← history_parts_of (column + length word + 1) words
  Ok (part ∷ parts))

-- these parts before those, and of them all the first nine
abbrev pub nine_onto : List Part → Result (List Part) SchedFault → Result (List Part) SchedFault
nine_onto parts (Ok more) = Ok (take 9 (parts ++ more))
nine_onto parts (Err fault) = Err fault

-- all parts are read, and of more than nine the first nine are kept: nine are too many for a transaction, as all of them are
abbrev pub first_parts : ℕ → List (List ℕ) → Result (List Part) SchedFault
first_parts column words = nine_onto [] (history_parts_of column words)

-- ---- lines, without their line ends

-- `commit T UPDATE ..`
abbrev pub parse_commit : List ℕ → Result Spelled SchedFault
parse_commit line = (do
  start ← word_after 6 line
  tx ← tx_of (word_at start line) (start + 1)
  next ← word_after (word_end start line) line
  parts ← first_parts (next + 1) (parts_from 32 next line)
  Ok (Spelled.Commit tx parts))

-- a read of the first state of a key
abbrev pub first_known : List ℕ → Known
first_known key = record { key = key; token = record { version = 0; seen = [] }; item = None }

-- the first state of a key, which ends the line at this place
abbrev pub first_read : List ℕ → ℕ → List ℕ → Result Spelled SchedFault
first_read key at line = (do
  _ ← end_at at line 1
  Ok (Spelled.Read (first_known key)))

-- `SEEN BODY VALUES` behind this place
abbrev pub later_read : List ℕ → ℕ → ℕ → List ℕ → Result Spelled SchedFault
later_read key version at line = (do
  first ← word_after at line
  seen ← seen_in (word_at first line) (first + 1)
  second ← word_after (word_end first line) line
  body ← body_of (word_at second line) (second + 1)
  third ← word_after (word_end second line) line
  values ← values_of (word_at third line) (third + 1)
  _ ← end_at (word_end third line) line 1
  Ok (Spelled.Read (record { key = key; token = record { version = version; seen = seen }; item = Some (record { body = body; values = values }) })))

-- `read KEY 0`, or `read KEY VERSION SEEN BODY VALUES`
abbrev pub parse_read_line : List ℕ → Result Spelled SchedFault
parse_read_line line = (do
  start ← word_after 4 line
  key ← key_of (word_at start line) (start + 1)
  next ← word_after (word_end start line) line
  version ← version_in (word_at next line) (next + 1)
  if version == 0 then first_read key (word_end next line) line else later_read key version (word_end next line) line)

abbrev pub parse_spelled : List ℕ → Result Spelled SchedFault
parse_spelled line =
    if begins_with (codes "commit") line then parse_commit line
    else (if begins_with (codes "read") line then parse_read_line line else refused 1 Word)

-- an empty line and one that begins with `#` are skipped
abbrev pub spelled_or_none : List ℕ → Result (Option Spelled) SchedFault
spelled_or_none [] = Ok None
spelled_or_none (b ∷ bs) = if b == 35 then Ok None else parse_spelled (b ∷ bs) >>= λ spelled. Ok (Some spelled)

-- a line of any length, with its line end, which is asked last
abbrev pub spelled_in : List ℕ → Result (Option Spelled) SchedFault
spelled_in line = (do
  spelled ← spelled_or_none (bytes_of_line line)
  _ ← line_end_of (bytes_of_line line) line
  Ok spelled)

-- ---- the header

-- `mdcc-history 1`
abbrev pub version_of : List ℕ → Result (Unit {0}) SchedFault
version_of line = (do
  start ← word_after 12 line
  _ ← is_version (word_at start line) (start + 1)
  end_at (word_end start line) line 1)

abbrev pub history_header : UnreadLines → Result (List (ℤ × ℤ) × UnreadLines) HeaderFault
history_header left = (do
  version ← header_line (codes "mdcc-history") version_of left
  bounds ← bounds_lines version.1
  start ← header_line (codes "start") (λ line. end_at 5 line 1) bounds.1
  Ok (bounds.0, start.1))

-- ---- lines as the lines of a history

abbrev pub committed : TxId → Result (List Part) DraftFault → Result HistoryLine LineFault
committed tx (Ok parts) = Ok (HistoryLine.Commit tx parts)
committed tx (Err fault) = Err (LineFault.Begin fault)

-- a commit whose parts make no transaction is refused; the parts of one that does stand in key order
abbrev pub drafted : List (ℤ × ℤ) → Spelled → Result HistoryLine LineFault
drafted schema (Spelled.Commit tx parts) = committed tx (transaction_of schema parts)
drafted schema (Spelled.Read known) = Ok (HistoryLine.Read known)

abbrev pub drafted_or_none : List (ℤ × ℤ) → Option Spelled → Result (Option HistoryLine) LineFault
drafted_or_none schema None = Ok None
drafted_or_none schema (Some spelled) = drafted schema spelled >>= λ line. Ok (Some line)

abbrev pub in_text : {A : Type 0} → Result A SchedFault → Result A LineFault
in_text (Ok x) = Ok x
in_text (Err fault) = Err (LineFault.Text fault)

-- the line of a history that a text is, with its line end; an empty one and one that begins with `#` are none
abbrev pub line_in : List (ℤ × ℤ) → List ℕ → Result (Option HistoryLine) LineFault
line_in schema line = in_text (spelled_in line) >>= drafted_or_none schema
