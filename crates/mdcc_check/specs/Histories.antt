-- Which histories are right: the commits are a run of the one-copy store with identifiers of their own, and each read shows an item version of
-- the commits before it with some of the deltas that were committed on it.
use Rattle.std.specs.List.{list_any}
use Rattle.std.specs.Prelude.{Bool, IsTrue, List, [], not, true, ℤ, ⊤, ◌&&◌, ◌++◌, ◌<◌, ◌^◌, ◌∷◌}
use Rattle.mdcc_base.specs.TxId.{tx_eq}
use Rattle.mdcc_base.specs.declared.identifiers.TxId.{TxId}
use Rattle.mdcc_option.specs.OneCopy.{IsRun}
use Rattle.mdcc_option.specs.Parts.{AreParts}
use Rattle.mdcc_option.specs.Transaction.{choices_of}
use Rattle.mdcc_option.specs.declared.choices.Choice.{Choice}
use Rattle.mdcc_def_right_reads.specs.RightReads.{IsReadOf}
use Rattle.mdcc_check.specs.declared.history.HistoryLine.{HistoryLine}

-- the committed transactions, each as its choices
abbrev pub commits_of : List HistoryLine → List (List Choice)
commits_of [] = []
commits_of (HistoryLine.Commit tx parts ∷ lines) = choices_of tx parts ∷ commits_of lines
commits_of (HistoryLine.Read known ∷ lines) = commits_of lines

-- their identifiers
abbrev pub txs_committed : List HistoryLine → List TxId
txs_committed [] = []
txs_committed (HistoryLine.Commit tx parts ∷ lines) = tx ∷ txs_committed lines
txs_committed (HistoryLine.Read known ∷ lines) = txs_committed lines

-- no transaction stands twice
abbrev pub are_distinct : List TxId → Bool
are_distinct [] = true
are_distinct (tx ∷ txs) = not (list_any (λ other. tx_eq other tx) txs) && are_distinct txs

-- each read is right over the commits before it
abbrev pub AreRightReads : List (List Choice) → List HistoryLine → Type 0
AreRightReads before [] = ⊤
AreRightReads before (HistoryLine.Commit tx parts ∷ lines) = AreRightReads (before ++ choices_of tx parts ∷ []) lines
AreRightReads before (HistoryLine.Read known ∷ lines) = IsReadOf before known known.item × AreRightReads before lines

pub record IsRightHistory (schema : List (ℤ × ℤ)) (lines : List HistoryLine) : Type 0 where
  pub run : IsRun schema (commits_of lines)
  pub distinct : IsTrue (are_distinct (txs_committed lines))
  pub reads : AreRightReads [] lines

-- a line as code has it: a transaction's parts, of distinct keys, and a version of 64 bits
abbrev pub IsLine : HistoryLine → Type 0
IsLine (HistoryLine.Commit tx parts) = AreParts parts
IsLine (HistoryLine.Read known) = known.token.version < 2 ^ 64

abbrev pub AreLines : List HistoryLine → Type 0
AreLines [] = ⊤
AreLines (line ∷ lines) = IsLine line × AreLines lines
