-- How the header of a schedule is read: the cluster, or the line and the cause of the first fault.
use Rattle.std.specs.Prelude.{ℕ, zero, suc, ◌+◌, ℤ, Bool, if◌then◌else◌, List, [], ◌∷◌, length, drop, get_or, codes, Result, Ok, Err}
use Rattle.mdcc_base.specs.Sizes.{Sizes}
use Rattle.mdcc_base.specs.Quorums.{quorums_of}
use Rattle.mdcc_base.specs.declared.quorums.QuorumFault.{QuorumFault}
use Rattle.mdcc_option.specs.Bounds.{is_bound}
use Rattle.mdcc_option.specs.declared.cluster.Cluster.{Cluster}
use Rattle.mdcc_option.specs.declared.cluster.FastLimit.{FastLimit}
use Rattle.mdcc_option.specs.declared.schema.SchemaFault.TheVariants.{Bound}
use Rattle.mdcc_def_language.specs.declared.schedule.HeaderFault.{HeaderFault}
use Rattle.mdcc_def_language.specs.declared.schedule.HeaderCause.{HeaderCause}
use Rattle.mdcc_def_language.specs.declared.schedule.HeaderCause.TheVariants.{Sched, Quorums, Schema}
use Rattle.mdcc_def_language.specs.declared.schedule.SchedFault.{SchedFault}
use Rattle.mdcc_def_language.specs.declared.schedule.SchedCause.TheVariants.{Word, Order}
use Rattle.mdcc_def_language.specs.Lines.{bounded, bytes_of_line, lines_in, line_end_of}
use Rattle.mdcc_def_language.specs.Schedule.{begins_with}
use Rattle.mdcc_def_language.specs.Words.{◌>>=◌, refused, text_eq, end_at, word_at, word_end, word_after, natural_of, value_of}

-- ---- how far a header is read

-- the lines that are left, the place of the first of them in the text, and its number
pub record UnreadLines : Type 0 where
  pub lines : List (List ℕ)
  pub at : ℕ
  pub number : ℕ

abbrev pub all_of : List ℕ → UnreadLines
all_of text = record { lines = lines_in text; at = 0; number = 1 }

-- the next line; at the end of the text an empty one without a line end
abbrev pub next_line : UnreadLines → List ℕ
next_line left = get_or left.lines 0 []

abbrev pub without_next : UnreadLines → UnreadLines
without_next left =
    record { lines = drop 1 left.lines; at = left.at + length (next_line left); number = left.number + 1 }

abbrev pub refused_at : {A : Type 0} → UnreadLines → HeaderCause → Result A HeaderFault
refused_at left cause = Err (record { line = left.number; cause = cause })

-- a header fault names the line and not the column
abbrev pub in_line : {A : Type 0} → UnreadLines → Result A SchedFault → Result A HeaderFault
in_line left (Ok x) = Ok x
in_line left (Err fault) = refused_at left (Sched fault.cause)

-- whether the next line begins with this word
abbrev pub begins_next : List ℕ → UnreadLines → Bool
begins_next word left = begins_with word (bytes_of_line (next_line left))

-- ---- one line

-- a line begins with the word that the order allows there
abbrev pub in_order : List ℕ → List ℕ → Result (Unit {0}) SchedFault
in_order word line = if begins_with word line then Ok tt else refused 1 Order

-- a line that begins with this word and is read so; its line end is asked last
abbrev pub whole_line : {A : Type 0} → List ℕ → (List ℕ → Result A SchedFault) → List ℕ → Result A SchedFault
whole_line word read line = (do
  _ ← in_order word (bytes_of_line line)
  value ← read (bytes_of_line line)
  _ ← line_end_of (bytes_of_line line) line
  Ok value)

-- what the next line spells, where its bytes aren't too many, and what is left behind it
abbrev pub header_line : {A : Type 0} → List ℕ → (List ℕ → Result A SchedFault) → UnreadLines → Result (A × UnreadLines) HeaderFault
header_line word read left =
    in_line left (bounded (bytes_of_line (next_line left)) (whole_line word read (next_line left)))
    >>= λ value. Ok (value, without_next left)

-- the word of the version: `1`
abbrev pub is_version : List ℕ → ℕ → Result (Unit {0}) SchedFault
is_version word column = if text_eq word (codes "1") then Ok tt else refused column Word

-- `mdcc-schedule 1`
abbrev pub version_of : List ℕ → Result (Unit {0}) SchedFault
version_of line = (do
  start ← word_after 13 line
  _ ← is_version (word_at start line) (start + 1)
  end_at (word_end start line) line 1)

-- the number behind this place, which ends the line
abbrev pub last_number : ℕ → ℕ → ℕ → List ℕ → Result ℕ SchedFault
last_number low high at line = (do
  start ← word_after at line
  number ← natural_of (word_at start line) (start + 1) low high
  _ ← end_at (word_end start line) line 1
  Ok number)

-- `quorums N C F`
abbrev pub parse_sizes : List ℕ → Result (ℕ × ℕ × ℕ) SchedFault
parse_sizes line = (do
  first ← word_after 7 line
  n ← natural_of (word_at first line) (first + 1) 0 255
  second ← word_after (word_end first line) line
  c ← natural_of (word_at second line) (second + 1) 0 255
  f ← last_number 0 255 (word_end second line) line
  Ok (n, c, f))

-- `bound LOWER UPPER`
abbrev pub bound_of : List ℕ → Result (ℤ × ℤ) SchedFault
bound_of line = (do
  start ← word_after 5 line
  lower ← value_of (word_at start line) (start + 1)
  next ← word_after (word_end start line) line
  upper ← value_of (word_at next line) (next + 1)
  _ ← end_at (word_end next line) line 1
  Ok (lower, upper))

-- ---- several lines

-- the sizes of quorums that the numbers of a line are
abbrev pub quorums_in : UnreadLines → Result Sizes QuorumFault → Result Sizes HeaderFault
quorums_in left (Ok sizes) = Ok sizes
quorums_in left (Err fault) = refused_at left (Quorums fault)

abbrev pub quorums_line : UnreadLines → Result (Sizes × UnreadLines) HeaderFault
quorums_line left = (do
  sizes ← header_line (codes "quorums") parse_sizes left
  quorums ← quorums_in left (quorums_of sizes.0.0 sizes.0.1 sizes.0.2)
  Ok (quorums, sizes.1))

-- the cells of a node where no line says them
abbrev pub default_cells : ℕ
default_cells = 1048576

-- `cells C`, which may be left out
abbrev pub cells_line : UnreadLines → Result (ℕ × UnreadLines) HeaderFault
cells_line left =
    if begins_next (codes "cells") left
    then header_line (codes "cells") (last_number 1 4194304 5) left else Ok (default_cells, left)

-- the word of the fast limit
abbrev pub limit_in : List ℕ → ℕ → Result FastLimit SchedFault
limit_in word column =
    if text_eq word (codes "safe") then Ok FastLimit.Safe
    else (if text_eq word (codes "paper") then Ok FastLimit.Paper else refused column Word)

-- `limit safe` or `limit paper`
abbrev pub fast_limit_of : List ℕ → Result FastLimit SchedFault
fast_limit_of line = (do
  start ← word_after 5 line
  limit ← limit_in (word_at start line) (start + 1)
  _ ← end_at (word_end start line) line 1
  Ok limit)

-- it may be left out, and the limit is then the safe one
abbrev pub limit_line : UnreadLines → Result (FastLimit × UnreadLines) HeaderFault
limit_line left =
    if begins_next (codes "limit") left then header_line (codes "limit") fast_limit_of left else Ok (FastLimit.Safe, left)

-- the n-th bounds of a schema
abbrev pub bounds_in : ℕ → UnreadLines → ℤ × ℤ → Result (ℤ × ℤ) HeaderFault
bounds_in n left bounds = if is_bound bounds then Ok bounds else refused_at left (Schema (Bound n))

abbrev pub bound_line : ℕ → UnreadLines → Result ((ℤ × ℤ) × UnreadLines) HeaderFault
bound_line n left = (do
  read ← header_line (codes "bound") bound_of left
  bounds ← bounds_in n left read.0
  Ok (bounds, read.1))

abbrev pub Bounds : Type 0
Bounds = List (ℤ × ℤ)

-- further lines `bound`, the n-th and at most so many more
abbrev pub more_bounds : ℕ → ℕ → UnreadLines → Result (Bounds × UnreadLines) HeaderFault
more_bounds zero n left = Ok ([], left)
more_bounds (suc more) n left =
    if begins_next (codes "bound") left
    then (do
      one ← bound_line n left
      rest ← more_bounds more (n + 1) one.1
      Ok (one.0 ∷ rest.0, rest.1))
    else Ok ([], left)

-- one to four lines `bound`
abbrev pub bounds_lines : UnreadLines → Result (Bounds × UnreadLines) HeaderFault
bounds_lines left = (do
  one ← bound_line 1 left
  rest ← more_bounds 3 2 one.1
  Ok (one.0 ∷ rest.0, rest.1))

-- the lines of a header in their order, and what is left behind them
abbrev pub header_lines : UnreadLines → Result (Cluster × UnreadLines) HeaderFault
header_lines left = (do
  version ← header_line (codes "mdcc-schedule") version_of left
  quorums ← quorums_line version.1
  gamma ← header_line (codes "gamma") (last_number 0 1000 5) quorums.1
  cells ← cells_line gamma.1
  limit ← limit_line cells.1
  bounds ← bounds_lines limit.1
  start ← header_line (codes "start") (λ line. end_at 5 line 1) bounds.1
  Ok (record { quorums = quorums.0; schema = bounds.0; gamma = gamma.0; cells = cells.0; limit = limit.0 }, start.1))

-- the cluster of a header, and the place behind it
abbrev pub header_of : List ℕ → Result (Cluster × ℕ) HeaderFault
header_of text = header_lines (all_of text) >>= λ header. Ok (header.0, header.1.at)
