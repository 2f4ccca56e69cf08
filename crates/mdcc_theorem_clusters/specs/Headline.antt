-- The headline for a deployed cluster: what is committed is a run of the one-copy store, and what is printed and answered tells the truth of it.
use Rattle.std.specs.List.{AllByRecursion}
use Rattle.std.specs.Prelude.{Bool, Contains, List, Ok, [], false, length, true, ⊤, ℕ, ◌<◌, ◌≡◌}
use Rattle.mdcc_theorem_clusters.specs.Answers.{IsAskedUnder, IsBegunFor, IsNoDraft}
use Rattle.mdcc_theorem_clusters.specs.Asked.{AreAskedFor, CameAsked, WasReceived}
use Rattle.mdcc_theorem_agreement.specs.Laws.{IsLedger}
use Rattle.mdcc_base.specs.declared.identifiers.TxId.{TxId}
use Rattle.mdcc_config.specs.IsConfig.{IsConfig}
use Rattle.mdcc_config.specs.declared.config.Config.{Config}
use Rattle.mdcc_frag.specs.Datagrams.{count, datagram}
use Rattle.mdcc_frag.specs.Joining.{join}
use Rattle.mdcc_frag.specs.declared.datagrams.FragHead.{FragHead}
use Rattle.mdcc_frag.specs.declared.joined.Joined.TheVariants.{Whole}
use Rattle.mdcc_theorem_datagrams.specs.Laws.{table_after}
use Rattle.mdcc_theorem_headline.specs.Truth.{IsReportedAbort, IsReportedCommit, IsReportedRead, IsTrueLine, IsWhole}
use Rattle.mdcc_def_language.specs.declared.lines.Line.{Line}
use Rattle.mdcc_def_ledger.specs.Ledger.{Entry, committed_of}
use Rattle.mdcc_def_messages.specs.Reading.{view_of}
use Rattle.mdcc_def_messages.specs.Spelling.{message_bytes}
use Rattle.mdcc_def_messages.specs.declared.facts.Fact.{Fact}
use Rattle.mdcc_def_messages.specs.declared.messages.ClientAnswer.{ClientAnswer}
use Rattle.mdcc_def_messages.specs.declared.messages.Envelope.{Envelope}
use Rattle.mdcc_def_messages.specs.declared.messages.Message.{Message}
use Rattle.mdcc_option.specs.OneCopy.{IsRun}
use Rattle.mdcc_option.specs.declared.choices.Choice.{Choice}
use Rattle.mdcc_option.specs.declared.cluster.Cluster.{Cluster}
use Rattle.mdcc_theorem_reports.specs.Origins.{HasOrigin}
use Rattle.mdcc_def_server_runs.specs.Acts.{Act}
use Rattle.mdcc_def_server_runs.specs.declared.lines.ServerLine.{ServerLine}
use Rattle.mdcc_theorem_trace_states.specs.Words.{Each, In}
use Rattle.mdcc_theorem_clusters.specs.Clusters.{Move, after_moves, not_started}
use Rattle.mdcc_theorem_clusters.specs.Executions.{IsExecution, IsTrueExecution, Laws, WasSent}
use Rattle.mdcc_theorem_clusters.specs.Limits.{IsShortRun}

-- ---- what is proved of allowed ledgers (in `mdcc_theorem_one_copy` and `mdcc_theorem_headline`)

pub record LedgerLaws : Type 0 where
  pub run : (cluster : Cluster) (ledger : List Entry) → IsLedger cluster ledger → IsRun cluster.schema (committed_of cluster.quorums ledger)
  pub whole : (cluster : Cluster) (ledger : List Entry) → IsLedger cluster ledger → (choices : List Choice) → Contains (committed_of cluster.quorums ledger) choices → (tx : TxId) × IsWhole ledger tx choices
  pub told : (cluster : Cluster) (ledger : List Entry) → IsLedger cluster ledger → (lines : List Line) → AllByRecursion (HasOrigin cluster.quorums ledger) lines → AllByRecursion (IsTrueLine cluster ledger) lines

-- ---- what is said

-- an outcome that is told is the one of the run
abbrev pub IsReported : Cluster → List Entry → TxId → Bool → Type 0
IsReported cluster ledger tx true = IsReportedCommit cluster ledger tx
IsReported cluster ledger tx false = IsReportedAbort cluster ledger tx

-- An answer to a client tells the outcome of the transaction that a request under its serial began, an item version of the run with some of its
-- committed adds for the key that one asked for, or that transaction.
abbrev pub IsReportedAnswer : Config → List (ℕ × Act) → List Entry → ℕ → ℕ → ClientAnswer → Type 0
IsReportedAnswer config done ledger a serial (ClientAnswer.Heard tx is_commit) = IsReported config.cluster ledger tx is_commit × IsBegunFor config (WasReceived done) ledger a serial tx
IsReportedAnswer config done ledger a serial (ClientAnswer.Read key token item due) =
    IsReportedRead config.cluster ledger (record { key = key; token = token; item = item }) × CameAsked (WasReceived done) a (Message.ClientRead serial key)
IsReportedAnswer config done ledger a serial (ClientAnswer.Begun tx) = IsBegunFor config (WasReceived done) ledger a serial tx
IsReportedAnswer config done ledger a serial (ClientAnswer.Refused key fault) = IsAskedUnder config (WasReceived done) a serial
IsReportedAnswer config done ledger a serial (ClientAnswer.Draft fault) = IsNoDraft config (WasReceived done) a serial fault

abbrev pub IsReportedMessage : Config → List (ℕ × Act) → List Entry → Envelope → Message → Type 0
IsReportedMessage config done ledger envelope (Message.ClientAnswer serial answer) = IsReportedAnswer config done ledger envelope.from serial answer
IsReportedMessage config done ledger envelope message = ⊤

-- a datagram is a piece of a message that tells so
pub record IsReportedDatagram (config : Config) (done : List (ℕ × Act)) (ledger : List Entry) (bytes : List ℕ) : Type 0 where
  pub envelope : Envelope
  pub head : FragHead
  pub index : ℕ
  pub piece : index < count (length (message_bytes envelope))
  pub is : bytes ≡ datagram head index (message_bytes envelope)
  pub told : IsReportedMessage config done ledger envelope envelope.message

-- so is each that any centre sends, and each outcome that it prints, in any of its lives
abbrev pub IsReportedBy : Config → List (ℕ × Act) → List Entry → Act → Type 0
IsReportedBy config done ledger (Act.Print (ServerLine.Heard centre tx is_commit)) = IsReported config.cluster ledger tx is_commit
IsReportedBy config done ledger (Act.Send from to bytes answer) = IsReportedDatagram config done ledger bytes
IsReportedBy config done ledger act = ⊤

-- two centres, or one in two lives, print the same of a transaction
abbrev pub PrintAlike : List (ℕ × Act) → Type 0
PrintAlike done =
    (a b : ℕ) (c d : ℕ) (tx : TxId) (one other : Bool) → In (a, Act.Print (ServerLine.Heard c tx one)) done → In (b, Act.Print (ServerLine.Heard d tx other)) done → one ≡ other

-- these bytes are those of a message that tells so, and it is read back from them
pub record IsReportedWhole (config : Config) (done : List (ℕ × Act)) (ledger : List Entry) (bytes : List ℕ) : Type 0 where
  pub envelope : Envelope
  pub is : bytes ≡ message_bytes envelope
  pub read : view_of bytes ≡ Ok envelope
  pub told : IsReportedMessage config done ledger envelope envelope.message

-- whatever is joined of datagrams that centres sent, in whatever order and number and of whatever lives, is one message that tells so
abbrev pub JoinsTruth : Config → List (ℕ × Act) → List Entry → Type 0
JoinsTruth config done ledger =
    (before : List (List ℕ)) (last bytes : List ℕ) → AllByRecursion (WasSent done) before → WasSent done last
    → (join last (table_after before [])).answer ≡ Whole bytes → IsReportedWhole config done ledger bytes

pub record ActsTellTruth (config : Config) (done : List (ℕ × Act)) (ledger : List Entry) : Type 0 where
  pub committed_run : IsRun config.cluster.schema (committed_of config.cluster.quorums ledger)
  pub whole : (choices : List Choice) → Contains (committed_of config.cluster.quorums ledger) choices → (tx : TxId) × IsWhole ledger tx choices
  pub reported : Each (λ (one : ℕ × Act). IsReportedBy config done ledger one.1) done
  pub joined : JoinsTruth config done ledger
  pub alike : PrintAlike done

-- All acts that were done and all facts that are durable have a ledger of which they are true, and which tells the truth where they are not too many.
pub record IsToldTruly (config : Config) (done : List (ℕ × Act)) (durable : List (ℕ × Fact)) : Type 0 where
  pub ledger : List Entry
  pub true_of : IsTrueExecution config done durable ledger
  pub asked_for : AreAskedFor config done ledger
  pub headline : IsShortRun done → ActsTellTruth config done ledger

abbrev pub HeadlineFromLaws : Type 0
HeadlineFromLaws =
    Laws → LedgerLaws → (config : Config) → IsConfig config → (moves : List Move) → IsExecution config not_started moves
    → IsToldTruly config (after_moves config not_started moves).done (after_moves config not_started moves).durable
