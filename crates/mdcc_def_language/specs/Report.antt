-- The text of a report.
use Rattle.std.specs.Prelude.{ℕ, ◌/◌, ◌%◌, ℤ, Bool, true, false, List, [], ◌∷◌, ◌++◌, length, map, flat_map, take, drop, codes, decimal, Option, Some, None}
use Rattle.std.specs.Fmt.{digit_glyph, signed_decimal}
use Rattle.std.specs.List.{join_with_byte}
use Rattle.mdcc_base.specs.TxId.{tx_text}
use Rattle.mdcc_option.specs.declared.faults.BeginFault.{BeginFault}
use Rattle.mdcc_option.specs.declared.faults.BeginFault.TheVariants.{Stale, Unseen, NoItem, Sequence, Busy}
use Rattle.mdcc_option.specs.declared.items.Item.{Item}
use Rattle.mdcc_option.specs.declared.items.Token.{Token}
use Rattle.mdcc_base.specs.declared.outside.Image.{Image}
use Rattle.mdcc_base.specs.declared.outside.Image.TheVariants.{Lost, Kept, Torn}
use Rattle.mdcc_def_language.specs.declared.lines.Line.{Line}
use Rattle.mdcc_def_language.specs.declared.lines.Line.TheVariants.{Read, Begun, Refused, Deliver, Settle, Settled, Tick, Sweep, Crash, Stop, Restart, Stopped, Dropped, Chosen, Heard, End}

-- ---- words

-- a byte as two hexadecimal digits, in lower case
abbrev pub byte_text : ℕ → List ℕ
byte_text b = digit_glyph false (b / 16) ∷ digit_glyph false (b % 16) ∷ []

abbrev pub body_text : List ℕ → List ℕ
body_text [] = codes "-"
body_text (b ∷ bs) = flat_map byte_text (b ∷ bs)

abbrev pub values_text : List ℤ → List ℕ
values_text values = join_with_byte 44 (map signed_decimal values)

-- an outcome, true being commit
abbrev pub outcome_text : Bool → List ℕ
outcome_text true = codes "commit"
outcome_text false = codes "abort"

abbrev pub image_text : Image → List ℕ
image_text Lost = codes "lost"
image_text Kept = codes "kept"
image_text Torn = codes "torn"

-- ---- parts of lines

-- a version, and how many deltas on it were seen
abbrev pub token_text : Token → List ℕ
token_text token = codes "version " ++ decimal token.version ++ codes " seen " ++ decimal (length token.seen)

-- what a read shows of its key
abbrev pub shown_text : Token → Option Item → List ℕ
shown_text token (Some item) = token_text token ++ codes " values " ++ values_text item.values ++ codes " body " ++ body_text item.body
shown_text token None = codes "version " ++ decimal token.version ++ codes " none"

-- why a transaction was not begun; want of memory is never printed
abbrev pub begin_fault_text : List ℕ → BeginFault → List ℕ
begin_fault_text key (Stale token) = codes "stale " ++ key ++ codes " " ++ token_text token
begin_fault_text key (Unseen version) = codes "unseen " ++ key ++ codes " version " ++ decimal version
begin_fault_text key NoItem = codes "noitem " ++ key
begin_fault_text key Sequence = codes "sequence"
begin_fault_text key Busy = codes "busy"
begin_fault_text key BeginFault.Memory = codes "memory"

-- the number of the next message
abbrev pub next_text : ℕ → List ℕ
next_text next = codes " next " ++ decimal next

-- ---- lines

-- a line without its line end
abbrev pub words_text : Line → List ℕ
words_text (Read number centre known) =
    codes "read " ++ decimal number ++ codes " at " ++ decimal centre ++ codes " " ++ known.key ++ codes " " ++ shown_text known.token known.item
words_text (Begun tx next) = codes "begin " ++ tx_text tx ++ next_text next
words_text (Refused key fault) = codes "begin refused " ++ begin_fault_text key fault
words_text (Deliver number next) = codes "deliver " ++ decimal number ++ next_text next
words_text (Settle centres) = codes "settle" ++ flat_map (λ centre. codes " " ++ decimal centre) centres
words_text (Settled deliveries next) = codes "settled " ++ decimal deliveries ++ next_text next
words_text (Tick centre next) = codes "tick " ++ decimal centre ++ next_text next
words_text (Sweep centre next) = codes "sweep " ++ decimal centre ++ next_text next
words_text (Crash centre) = codes "crash " ++ decimal centre
words_text (Stop centre call image) = codes "stop " ++ decimal centre ++ codes " " ++ decimal call ++ codes " " ++ image_text image
words_text (Restart centre epoch) = codes "restart " ++ decimal centre ++ codes " epoch " ++ decimal epoch
words_text (Stopped centre) = codes "stopped " ++ decimal centre
words_text (Dropped centre needed spare) = codes "dropped " ++ decimal centre ++ codes " needs " ++ decimal needed ++ codes " spare " ++ decimal spare
words_text (Chosen tx is_commit) = codes "chosen " ++ tx_text tx ++ codes " " ++ outcome_text is_commit
words_text (Heard centre tx is_commit) = codes "heard " ++ decimal centre ++ codes " " ++ tx_text tx ++ codes " " ++ outcome_text is_commit
words_text (End events messages commits aborts undecided) =
    codes "end events " ++ decimal events ++ codes " messages " ++ decimal messages ++ codes " commits " ++ decimal commits
    ++ codes " aborts " ++ decimal aborts ++ codes " open " ++ decimal undecided

abbrev pub line_text : Line → List ℕ
line_text line = words_text line ++ codes "\n"

abbrev pub lines_text : List Line → List ℕ
lines_text lines = flat_map line_text lines

-- ---- the header

-- the header of a report: that of the input, which ends before this place, but for its first line
abbrev pub header_text : ℕ → List ℕ → List ℕ
header_text end input = codes "mdcc-report 1\n" ++ drop (length (codes "mdcc-schedule 1\n")) (take end input)
