-- What it is for the lines of a report to tell the truth of the committed transactions.
use Rattle.std.specs.Prelude.{Contains, IsTrue, List, [], false, filter, is_some, length, map, not, true, ⊤, ◌<◌, ◌∷◌, ◌≡◌}
use Rattle.mdcc_base.specs.declared.identifiers.TxId.{TxId}
use Rattle.mdcc_option.specs.Parts
use Rattle.mdcc_option.specs.declared.choices.Choice.{Choice}
use Rattle.mdcc_option.specs.declared.cluster.Cluster.{Cluster}
use Rattle.mdcc_option.specs.declared.items.Known.{Known}
use Rattle.mdcc_def_ledger.specs.AllowedLedgers.{part_in}
use Rattle.mdcc_def_ledger.specs.Ledger.{Entry, choices_begun, committed_of, outcome_of, txs_begun}
use Rattle.mdcc_def_protocol.specs.Marks.{is_abort}
use Rattle.mdcc_def_language.specs.declared.lines.Line.{Line}
use Rattle.mdcc_theorem_agreement.specs.Laws.{IsAbort, IsCommit}
use Rattle.mdcc_theorem_reports.specs.Order.{Decided}
use Rattle.mdcc_theorem_reports.specs.Origins.{BeginsAt, IsLater}
use Rattle.mdcc_def_right_reads.specs.RightReads.{IsReadOf}

-- the transactions are listed each as its choices: committed is such a list

-- ---- transactions

-- the choices are all those with which the transaction was begun: at least one, each its own, and of ascending keys
pub record IsWhole (ledger : List Entry) (tx : TxId) (choices : List Choice) : Type 0 where
  pub begun : choices_begun ledger tx ≡ choices
  pub some : 0 < length choices
  pub own : (choice : Choice) → Contains choices choice → choice.tx ≡ tx
  pub ascending : IsTrue (Parts.are_parts_ascending (map part_in choices))

-- ---- outcomes

-- the outcome is a commit with these choices, which are the whole transaction, and it is among the committed ones
pub record IsReportedCommit (cluster : Cluster) (ledger : List Entry) (tx : TxId) : Type 0 where
  pub choices : List Choice
  pub outcome : IsCommit cluster ledger tx choices
  pub whole : IsWhole ledger tx choices
  pub committed : Contains (committed_of cluster.quorums ledger) choices

-- the outcome is an abort, and no committed choice is the transaction's
pub record IsReportedAbort (cluster : Cluster) (ledger : List Entry) (tx : TxId) : Type 0 where
  pub outcome : IsAbort cluster ledger tx
  pub not_committed : (choices : List Choice) → Contains (committed_of cluster.quorums ledger) choices → (choice : Choice) → Contains choices choice
      → choice.tx ≡ tx → ⊥

-- ---- reads

-- what was read is right over the transactions that are committed by then
abbrev pub IsReportedRead : Cluster → List Entry → Known → Type 0
IsReportedRead cluster ledger known = IsReadOf (committed_of cluster.quorums ledger) known known.item

-- ---- lines

-- a line tells the truth of the ledger; lines on neither an outcome nor a read tell nothing of what is committed
abbrev pub IsTrueLine : Cluster → List Entry → Line → Type 0
IsTrueLine cluster ledger (Line.Chosen tx true) = IsReportedCommit cluster ledger tx
IsTrueLine cluster ledger (Line.Chosen tx false) = IsReportedAbort cluster ledger tx
IsTrueLine cluster ledger (Line.Heard a tx true) = IsReportedCommit cluster ledger tx
IsTrueLine cluster ledger (Line.Heard a tx false) = IsReportedAbort cluster ledger tx
IsTrueLine cluster ledger (Line.Read number a known) = IsReportedRead cluster ledger known
IsTrueLine cluster ledger line = ⊤

-- while the ledger grows from the first to the last of these, the lines come one after the other, each at the very entry by which it became
-- so, and true at once
abbrev pub AreTrueInTurn : Cluster → List Entry → List Entry → List Line → Type 0
AreTrueInTurn cluster first last [] = IsLater first last
AreTrueInTurn cluster first last (line ∷ lines) =
    (now : List Entry) × IsLater first now
    × BeginsAt cluster.quorums now line × IsTrueLine cluster now line × AreTrueInTurn cluster now last lines

-- those that committed
abbrev pub commits_in : List Decided → List TxId
commits_in [] = []
commits_in ((tx, true) ∷ rest) = tx ∷ commits_in rest
commits_in ((tx, false) ∷ rest) = commits_in rest

-- ---- the last line

-- the begun transactions that were aborted, and those that have no outcome yet
abbrev pub aborted_of : Cluster → List Entry → List TxId
aborted_of cluster ledger = filter (λ tx. is_abort (outcome_of cluster.quorums ledger tx)) (txs_begun ledger)

abbrev pub undecided_of : Cluster → List Entry → List TxId
undecided_of cluster ledger = filter (λ tx. not (is_some (outcome_of cluster.quorums ledger tx))) (txs_begun ledger)

-- it counts the committed transactions, the aborted and the undecided ones
abbrev pub IsTrueEnd : Cluster → List Entry → Line → Type 0
IsTrueEnd cluster ledger (Line.End events messages commits aborts undecided) =
    (commits ≡ length (committed_of cluster.quorums ledger))
    × (aborts ≡ length (aborted_of cluster ledger)) × (undecided ≡ length (undecided_of cluster ledger))
IsTrueEnd cluster ledger line = ⊥
