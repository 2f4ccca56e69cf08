-- How a line of a schedule is read: its event, or the first fault with its column.
use Rattle.std.specs.Prelude.{ℕ, ◌+◌, nat_lt, ◌==◌, Bool, if◌then◌else◌, List, [], ◌∷◌, length, codes, Option, Some, None, Result, Ok}
use Rattle.mdcc_option.specs.declared.cluster.Cluster.{Cluster}
use Rattle.mdcc_base.specs.declared.outside.Image.{Image}
use Rattle.mdcc_base.specs.declared.outside.Image.TheVariants.{Lost, Kept, Torn}
use Rattle.mdcc_def_language.specs.declared.events.Event.{Event}
use Rattle.mdcc_def_language.specs.declared.events.Event.TheVariants.{Read, Begin, Deliver, Settle, Tick, Crash, Restart, Stop}
use Rattle.mdcc_def_language.specs.declared.events.UpdateWord.{UpdateWord}
use Rattle.mdcc_def_language.specs.declared.schedule.SchedFault.{SchedFault}
use Rattle.mdcc_def_language.specs.declared.schedule.SchedCause.TheVariants.{Word, Order}
use Rattle.mdcc_def_language.specs.Lines.{bounded, bytes_of_line, line_end_of}
use Rattle.mdcc_def_language.specs.Updates.{update_of}
use Rattle.mdcc_def_language.specs.Words.{◌>>=◌, refused, text_eq, parts_from, end_at, word_at, word_end, not_empty, word_after, natural_of, count_of, key_of}

-- ---- words

-- a centre of the cluster
abbrev pub parse_centre : Cluster → List ℕ → ℕ → Result ℕ SchedFault
parse_centre cluster word column = natural_of word column 1 cluster.quorums.centres

abbrev pub parse_image : List ℕ → ℕ → Result Image SchedFault
parse_image word column =
    if text_eq word (codes "lost") then Ok Lost
    else (if text_eq word (codes "kept") then Ok Kept
    else (if text_eq word (codes "torn") then Ok Torn
    else refused column Word))

-- ---- lists of words, the first of which stands at a column

-- numbers of messages
abbrev pub numbers_from : ℕ → List (List ℕ) → Result (List ℕ) SchedFault
numbers_from column [] = Ok []
numbers_from column (word ∷ words) = (do
  _ ← not_empty word column
  number ← count_of word column
  numbers ← numbers_from (column + length word + 1) words
  Ok (number ∷ numbers))

abbrev pub updates_from : ℕ → List (List ℕ) → Result (List UpdateWord) SchedFault
updates_from column [] = Ok []
updates_from column (word ∷ words) = (do
  update ← update_of word column
  updates ← updates_from (column + length word + 1) words
  Ok (update ∷ updates))

-- a centre that is above the last one
abbrev pub above : ℕ → ℕ → ℕ → Result ℕ SchedFault
above last centre column = if nat_lt last centre then Ok centre else refused column Order

-- centres, ascending
abbrev pub centres_from : Cluster → ℕ → ℕ → List (List ℕ) → Result (List ℕ) SchedFault
centres_from cluster last column [] = Ok []
centres_from cluster last column (word ∷ words) = (do
  _ ← not_empty word column
  centre ← parse_centre cluster word column
  _ ← above last centre column
  centres ← centres_from cluster centre (column + length word + 1) words
  Ok (centre ∷ centres))

-- ---- lines, without their line ends

-- the centre behind this place, which ends the line
abbrev pub last_centre : Cluster → ℕ → List ℕ → Result ℕ SchedFault
last_centre cluster at line = (do
  start ← word_after at line
  centre ← parse_centre cluster (word_at start line) (start + 1)
  _ ← end_at (word_end start line) line 1
  Ok centre)

-- `tick K`
abbrev pub parse_tick : Cluster → List ℕ → Result Event SchedFault
parse_tick cluster line = last_centre cluster 4 line >>= λ centre. Ok (Tick centre)

-- `crash K`
abbrev pub parse_crash : Cluster → List ℕ → Result Event SchedFault
parse_crash cluster line = last_centre cluster 5 line >>= λ centre. Ok (Crash centre)

-- `restart K`
abbrev pub parse_restart : Cluster → List ℕ → Result Event SchedFault
parse_restart cluster line = last_centre cluster 7 line >>= λ centre. Ok (Restart centre)

-- `read K KEY`
abbrev pub parse_read : Cluster → List ℕ → Result Event SchedFault
parse_read cluster line = (do
  start ← word_after 4 line
  centre ← parse_centre cluster (word_at start line) (start + 1)
  next ← word_after (word_end start line) line
  key ← key_of (word_at next line) (next + 1)
  _ ← end_at (word_end next line) line 1
  Ok (Read centre key))

-- `begin K UPDATE ..`
abbrev pub parse_begin : Cluster → List ℕ → Result Event SchedFault
parse_begin cluster line = (do
  start ← word_after 5 line
  centre ← parse_centre cluster (word_at start line) (start + 1)
  next ← word_after (word_end start line) line
  updates ← updates_from (next + 1) (parts_from 32 next line)
  Ok (Begin centre updates))

-- `deliver M ..`
abbrev pub parse_deliver : List ℕ → Result Event SchedFault
parse_deliver line = (do
  start ← word_after 7 line
  numbers ← numbers_from (start + 1) (parts_from 32 start line)
  Ok (Deliver numbers))

-- `settle` or `settle K ..`
abbrev pub parse_settle : Cluster → List ℕ → Result Event SchedFault
parse_settle cluster line =
    if length line == 6 then Ok (Settle [])
    else centres_from cluster 0 8 (parts_from 32 7 line) >>= λ centres. Ok (Settle centres)

-- `stop K N IMAGE`
abbrev pub parse_stop : Cluster → List ℕ → Result Event SchedFault
parse_stop cluster line = (do
  start ← word_after 4 line
  centre ← parse_centre cluster (word_at start line) (start + 1)
  next ← word_after (word_end start line) line
  call ← natural_of (word_at next line) (next + 1) 1 11
  last ← word_after (word_end next line) line
  image ← parse_image (word_at last line) (last + 1)
  _ ← end_at (word_end last line) line 1
  Ok (Stop centre call image))

-- whether a line begins with this word
abbrev pub begins_with : List ℕ → List ℕ → Bool
begins_with word line = text_eq (word_at 0 line) word

-- the event of a line that is not skipped
abbrev pub parse_event : Cluster → List ℕ → Result Event SchedFault
parse_event cluster line =
    if begins_with (codes "read") line then parse_read cluster line
    else (if begins_with (codes "begin") line then parse_begin cluster line
    else (if begins_with (codes "deliver") line then parse_deliver line
    else (if begins_with (codes "settle") line then parse_settle cluster line
    else (if begins_with (codes "tick") line then parse_tick cluster line
    else (if begins_with (codes "crash") line then parse_crash cluster line
    else (if begins_with (codes "restart") line then parse_restart cluster line
    else (if begins_with (codes "stop") line then parse_stop cluster line
    else refused 1 Word)))))))

-- an empty line and one that begins with `#` are skipped
abbrev pub event_or_none : Cluster → List ℕ → Result (Option Event) SchedFault
event_or_none cluster [] = Ok None
event_or_none cluster (b ∷ bs) =
    if b == 35 then Ok None else parse_event cluster (b ∷ bs) >>= λ event. Ok (Some event)

-- the event of a line with its line end, which is asked last
abbrev pub event_in : Cluster → List ℕ → Result (Option Event) SchedFault
event_in cluster line = (do
  event ← event_or_none cluster (bytes_of_line line)
  _ ← line_end_of (bytes_of_line line) line
  Ok event)

-- the same, where its bytes aren't too many
abbrev pub line_of : Cluster → List ℕ → Result (Option Event) SchedFault
line_of cluster line = bounded (bytes_of_line line) (event_in cluster line)
