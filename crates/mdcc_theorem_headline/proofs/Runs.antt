-- Every run tells the truth, and so does every replay.
use Rattle.std.proofs.Common.{List, [], ap, sym, ℕ, ◌++◌, ◌∙◌, ◌≡◌}
use Rattle.std.proofs.lemmas.List.{append-nil}
use Rattle.std.specs.Prelude.{map}
use Rattle.mdcc_option.specs.declared.cluster.Cluster.{Cluster}
use Rattle.mdcc_def_language.specs.Header.{all_of}
use Rattle.mdcc_def_protocol.specs.IsCluster.{IsCluster}
use Rattle.mdcc_def_ledger.specs.Ledger.{Entry, choices_begun}
use Rattle.mdcc_def_simulation.specs.State.{first_world}
use Rattle.mdcc_def_simulation.specs.Runs.{Run, run_of}
use Rattle.mdcc_def_language.specs.declared.events.Event.{Event}
use Rattle.mdcc_def_language.specs.declared.lines.Line.{Line}
use Rattle.mdcc_theorem_agreement.specs.Laws.{IsLedger}
use Rattle.mdcc_theorem_one_copy.proofs.CommitsRun.{commits_run}
use Rattle.mdcc_theorem_trace.proofs.Laws as trace
use Rattle.mdcc_theorem_trace_limits.proofs.Short as limits
use Rattle.mdcc_theorem_reports.proofs.Headers.{header-cluster}
use Rattle.mdcc_theorem_reports.proofs.Origins.{runs-tell}
use Rattle.mdcc_theorem_reports.proofs.Replays.{replayed}
use Rattle.mdcc_theorem_reports.specs.Order.{decided_in, decided_in_lines}
use Rattle.mdcc_theorem_reports.proofs.Order.{outcomes-in-order}
use Rattle.mdcc_theorem_reports.proofs.Turns.{runs-turn, turn-from}
use Rattle.mdcc_theorem_headline.specs.Headline.{ReplayTellsTruth, RunTellsTruth}
use Rattle.mdcc_theorem_headline.specs.Truth.{commits_in}
use Rattle.mdcc_theorem_headline.proofs.Commits.{commits-listed, none-first}
use Rattle.mdcc_theorem_headline.proofs.Ends.{end-true}
use Rattle.mdcc_theorem_headline.proofs.Lines.{lines-told, turn-true}
use Rattle.mdcc_theorem_headline.proofs.Reported.{all-whole}
use Rattle.mdcc_theorem_agreement.proofs.VersionsLow.{few-begun}

-- the premise of all laws of ledgers
run-ledger : (cluster : Cluster) (events : List Event) → IsCluster cluster → IsLedger cluster (run_of (first_world cluster) events).world.ledger
run-ledger cluster events is = record { of_cluster = is; allowed = trace.allowed cluster is events; few = few-begun (run_of (first_world cluster) events).world.ledger (limits.ledger-short cluster is events) }

-- the chosen lines of a run are its outcomes
run-order : (cluster : Cluster) (events : List Event) → (run_of (first_world cluster) events).world.cluster ≡ cluster →
    decided_in_lines (run_of (first_world cluster) events).lines ≡ decided_in cluster.quorums (run_of (first_world cluster) events).world.ledger
run-order cluster events same =
    let run : Run = run_of (first_world cluster) events in
    sym (
    ap (λ (c : Cluster). decided_in c.quorums run.world.ledger) (sym same)
    ∙ outcomes-in-order (first_world cluster) events
    ∙ ap (λ l. l ++ decided_in_lines run.lines) (none-first cluster.quorums cluster.quorums.centres)
    )

pub run-true : (cluster : Cluster) (events : List Event) → IsCluster cluster → RunTellsTruth cluster (run_of (first_world cluster) events)
run-true cluster events is =
    let h = run-ledger cluster events is in
    let told = runs-tell (first_world cluster) events in
    let ledger : List Entry = (run_of (first_world cluster) events).world.ledger in
    let lines : List Line = (run_of (first_world cluster) events).lines in
    let turns = runs-turn (first_world cluster) events in
    let order = run-order cluster events told.0.same in
    record {
      ledger_itself = h;
      committed_run = commits_run cluster ledger h;
      whole = all-whole cluster ledger h;
      lines_true = lines-told cluster ledger h lines told.1;
      in_turn = turn-true cluster [] ledger lines h (turn-from cluster.quorums [] (first_world cluster).ledger ledger lines ((first_world cluster).ledger, sym (append-nil (first_world cluster).ledger)) turns.1);
      outcomes_in_order = order;
      commits_in_order = ap (λ l. map (choices_begun ledger) (commits_in l)) order ∙ commits-listed cluster ledger h;
      end_true = end-true cluster (run_of (first_world cluster) events).world h told.0.same;
    }

pub replay-true : (input : List ℕ) → ReplayTellsTruth input
replay-true input header accepted =
    let is = header-cluster (all_of input) header accepted.header_itself in
    let run = replayed input header accepted in
    (run.0, record { of_cluster = is; replayed = run.1; tells_truth = λ first rest e. run-true header.0 first is })
