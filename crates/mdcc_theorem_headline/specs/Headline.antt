-- What a replay promises.
use Rattle.std.specs.List.{AllByRecursion}
use Rattle.std.specs.Prelude.{Contains, List, [], map, ℕ, ◌++◌, ◌≡◌}
use Rattle.mdcc_option.specs.OneCopy.{IsRun}
use Rattle.mdcc_base.specs.declared.identifiers.TxId.{TxId}
use Rattle.mdcc_option.specs.declared.choices.Choice.{Choice}
use Rattle.mdcc_option.specs.declared.cluster.Cluster.{Cluster}
use Rattle.mdcc_def_language.specs.Header.{UnreadLines}
use Rattle.mdcc_def_protocol.specs.IsCluster.{IsCluster}
use Rattle.mdcc_def_ledger.specs.Ledger.{Entry, choices_begun, committed_of}
use Rattle.mdcc_def_simulation.specs.Runs.{Run, end_line, run_of}
use Rattle.mdcc_def_simulation.specs.State.{first_world}
use Rattle.mdcc_def_language.specs.declared.events.Event.{Event}
use Rattle.mdcc_def_language.specs.declared.lines.Line.{Line}
use Rattle.mdcc_theorem_agreement.specs.Laws.{IsLedger}
use Rattle.mdcc_theorem_reports.specs.Order.{decided_in, decided_in_lines}
use Rattle.mdcc_theorem_reports.specs.Replays.{IsHeaderAccepted, IsReplayed}
use Rattle.mdcc_theorem_headline.specs.Truth.{AreTrueInTurn, IsTrueEnd, IsTrueLine, IsWhole, commits_in}

-- the ledger is allowed; its committed transactions, in the order in which they became so, are a run of the one-copy store, and each is a whole
-- one. These lines tell the truth of them, each at the entry by which it became so and ever after: the `chosen` lines, from top to bottom, are
-- the outcomes in the order in which they came, and those of commits the committed transactions in theirs. And so does the last line
pub record TellsTruth (cluster : Cluster) (ledger : List Entry) (lines : List Line) (end : Line) : Type 0 where
  pub ledger_itself : IsLedger cluster ledger
  pub committed_run : IsRun cluster.schema (committed_of cluster.quorums ledger)
  pub whole : (choices : List Choice) → Contains (committed_of cluster.quorums ledger) choices → (tx : TxId) × IsWhole ledger tx choices
  pub lines_true : AllByRecursion (IsTrueLine cluster ledger) lines
  pub in_turn : AreTrueInTurn cluster [] ledger lines
  pub outcomes_in_order : decided_in_lines lines ≡ decided_in cluster.quorums ledger
  pub commits_in_order : map (choices_begun ledger) (commits_in (decided_in_lines lines)) ≡ committed_of cluster.quorums ledger
  pub end_true : IsTrueEnd cluster ledger end

abbrev pub RunTellsTruth : Cluster → Run → Type 0
RunTellsTruth cluster run = TellsTruth cluster run.world.ledger run.lines (end_line run.world)

-- so does every run of events from the first world on
abbrev pub EveryRunTellsTruth : Type 0
EveryRunTellsTruth =
    (cluster : Cluster) (events : List Event) → IsCluster cluster
    → RunTellsTruth cluster (run_of (first_world cluster) events)

-- the text of a replay is that of the run of these events, which tells the truth at the end and at every moment, after each of the events
pub record IsTextOfTruth (input : List ℕ) (header : Cluster × UnreadLines) (events : List Event) : Type 0 where
  pub of_cluster : IsCluster header.0
  pub replayed : IsReplayed input header events
  pub tells_truth : (first rest : List Event) → events ≡ first ++ rest → RunTellsTruth header.0 (run_of (first_world header.0) first)

-- where the input is not too long and its header is accepted, its replay is the text of such a run
abbrev pub ReplayTellsTruth : List ℕ → Type 0
ReplayTellsTruth input = (header : Cluster × UnreadLines) → IsHeaderAccepted input header → (events : List Event) × IsTextOfTruth input header events

abbrev pub EveryReplayTellsTruth : Type 0
EveryReplayTellsTruth = (input : List ℕ) → ReplayTellsTruth input
