-- What the lines of a history that are written are made of: what the types of the code hold, and what a replay never lacks.
use Rattle.std.specs.List.{list_all}
use Rattle.std.specs.Prelude.{Bool, List, None, Ok, Option, Some, [], int_le, length, nat_lt, negsuc, pos, true, ℕ, ℤ, ◌&&◌, ◌+◌, ◌-◌, ◌<◌, ◌^◌, ◌∷◌, ◌≡◌, ◌≤◌}
use Rattle.mdcc_base.specs.declared.identifiers.TxId.{TxId}
use Rattle.mdcc_check.specs.Verdicts.{is_above}
use Rattle.mdcc_option.specs.Bounds.{IsSchema}
use Rattle.mdcc_option.specs.Parts.{AreParts}
use Rattle.mdcc_option.specs.Transaction.{transaction_of}
use Rattle.mdcc_option.specs.declared.items.Item.{Item}
use Rattle.mdcc_option.specs.declared.items.Part.{Part}
use Rattle.mdcc_option.specs.declared.items.Update.{Update}
use Rattle.mdcc_check.specs.declared.history.HistoryLine.{HistoryLine}
use Rattle.mdcc_def_language.specs.Words.{is_key}
use Rattle.mdcc_check_histories.specs.Grammar.{line_in}
use Rattle.mdcc_check_print.specs.Text.{history_line_text, history_text}
use Rattle.mdcc_check_histories.specs.Texts.{NumberedLine, history_of}

-- ---- identifiers

pub record IsTx (tx : TxId) : Type 0 where
  pub centre_some : 1 ≤ tx.centre
  pub centre_few : tx.centre ≤ 9
  pub epoch_some : 1 ≤ tx.epoch
  pub epoch_few : tx.epoch ≤ 2 ^ 32 - 1
  pub seq_some : 1 ≤ tx.seq
  pub seq_few : tx.seq ≤ 2 ^ 32 - 1

abbrev pub AreTxs : List TxId → Type 0
AreTxs [] = Unit {0}
AreTxs (tx ∷ txs) = IsTx tx × AreTxs txs

-- each behind the last one
abbrev pub ascend : Option TxId → List TxId → Bool
ascend last [] = true
ascend last (tx ∷ txs) = is_above last tx && ascend (Some tx) txs

-- what a reader saw
pub record IsSeen (txs : List TxId) : Type 0 where
  pub few : length txs ≤ 64
  pub each : AreTxs txs
  pub up : ascend None txs ≡ true

-- ---- items and amounts

-- what has 64 bits
abbrev pub Is64 : ℤ → Type 0
Is64 z = (int_le (negsuc (2 ^ 63 - 1)) z ≡ true) × (int_le z (pos (2 ^ 63 - 1)) ≡ true)

abbrev pub All64 : List ℤ → Type 0
All64 [] = Unit {0}
All64 (z ∷ zs) = Is64 z × All64 zs

pub record AreValues (values : List ℤ) : Type 0 where
  pub some : 1 ≤ length values
  pub few : length values ≤ 4
  pub each : All64 values

pub record IsBody (body : List ℕ) : Type 0 where
  pub few : length body ≤ 128
  pub each : list_all (λ b. nat_lt b 256) body ≡ true

pub record IsItem (item : Item) : Type 0 where
  pub body : IsBody item.body
  pub values : AreValues item.values

pub record IsAmount (amount : ℕ × ℤ) : Type 0 where
  pub some : 1 ≤ amount.0
  pub few : amount.0 ≤ 4
  pub value : Is64 amount.1

abbrev pub AllAmounts : List (ℕ × ℤ) → Type 0
AllAmounts [] = Unit {0}
AllAmounts (a ∷ as') = IsAmount a × AllAmounts as'

pub record AreAmounts (amounts : List (ℕ × ℤ)) : Type 0 where
  pub some : 1 ≤ length amounts
  pub few : length amounts ≤ 4
  pub each : AllAmounts amounts

-- ---- parts and lines

abbrev pub IsUpdate : Update → Type 0
IsUpdate (Update.Write item seen) = IsItem item × IsSeen seen
IsUpdate (Update.Add amounts) = AreAmounts amounts

pub record IsPart (part : Part) : Type 0 where
  pub key : is_key part.key ≡ true
  pub version : part.version < 2 ^ 64
  pub update : IsUpdate part.update

abbrev pub EachPart : List Part → Type 0
EachPart [] = Unit {0}
EachPart (p ∷ ps) = IsPart p × EachPart ps

abbrev pub IsShown : ℕ → List TxId → Option Item → Type 0
IsShown version seen None = (version ≡ 0) × (seen ≡ [])
IsShown version seen (Some item) = (1 ≤ version) × (version < 2 ^ 64) × IsSeen seen × IsItem item

-- a transaction of the schema, its parts in key order, or what a read showed
abbrev pub IsPrintable : List (ℤ × ℤ) → HistoryLine → Type 0
IsPrintable schema (HistoryLine.Commit tx parts) = IsTx tx × EachPart parts × AreParts parts × (transaction_of schema parts ≡ Ok parts)
IsPrintable schema (HistoryLine.Read known) = (is_key known.key ≡ true) × IsShown known.token.version known.token.seen known.item

abbrev pub ArePrintable : List (ℤ × ℤ) → List HistoryLine → Type 0
ArePrintable schema [] = Unit {0}
ArePrintable schema (line ∷ lines) = IsPrintable schema line × ArePrintable schema lines

-- the lines with their numbers, the first of which is this
abbrev pub numbered_from : ℕ → List HistoryLine → List NumberedLine
numbered_from number [] = []
numbered_from number (line ∷ lines) = (number, line) ∷ numbered_from (number + 1) lines

-- a history that is written is read as what was written: the header has two lines beside those of the bounds
abbrev pub PrintedHistoryIsRead : Type 0
PrintedHistoryIsRead =
    (schema : List (ℤ × ℤ)) (lines : List HistoryLine) → IsSchema schema → ArePrintable schema lines
    → history_of (history_text schema lines) ≡ Ok (schema, numbered_from (length schema + 3) lines)

-- a line that is written is read as what was written
abbrev pub PrintedIsRead : Type 0
PrintedIsRead = (schema : List (ℤ × ℤ)) (line : HistoryLine) → IsPrintable schema line → line_in schema (history_line_text line) ≡ Ok (Some line)
