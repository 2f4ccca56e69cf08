-- What is proved of the runs of nodes that are served.
use Rattle.std.specs.List.{AllByRecursion}
use Rattle.std.specs.Prelude.{List, [], length, map, ℕ, ◌++◌, ◌∷◌, ◌≡◌, ◌≢◌}
use Rattle.mdcc_config.specs.declared.config.Config.{Config}
use Rattle.mdcc_frag.specs.Joining.{JoinEntry, join}
use Rattle.mdcc_frag.specs.declared.joined.Joined.TheVariants.{Dropped, Whole}
use Rattle.mdcc_frag.specs.declared.reading.DropCause.{DropCause}
use Rattle.mdcc_theorem_datagrams.specs.Laws.{table_after}
use Rattle.mdcc_theorem_server_runs.specs.Brought.{BringsMessage, BringsRequest, CameInPieces, HoldsBytes, asked_datagrams, own_datagrams}
use Rattle.mdcc_theorem_server_runs.specs.Centres.{DoesItsTurns}
use Rattle.mdcc_theorem_server_runs.specs.Inputs.{inputs_in, turns}
use Rattle.mdcc_theorem_server_runs.specs.Told.{TellsMade}
use Rattle.mdcc_theorem_server_runs.specs.Without.{AreAsGood, received_in, without_dropped}
use Rattle.mdcc_def_rules.specs.declared.node.Input.{Input}
use Rattle.mdcc_def_server_runs.specs.Runs.{after_run, inputs_taken, refusals, run_of_inputs}
use Rattle.mdcc_def_server_runs.specs.Servers.{Log, served}
use Rattle.mdcc_def_server_runs.specs.Sites.{Doing, Site}
use Rattle.mdcc_def_server_runs.specs.Turns.{Given}
use Rattle.mdcc_theorem_encoding.specs.Laws.{AreBytes}

-- ---- what datagrams bring

abbrev pub DatagramsBringMessages : Type 0
DatagramsBringMessages =
    (config : Config) (site : Site) (given : List Given) → HoldsBytes site.own → AllByRecursion AreBytes (own_datagrams given)
    → AllByRecursion (BringsMessage site.own (own_datagrams given)) (inputs_in config site given)

abbrev pub DatagramsBringRequests : Type 0
DatagramsBringRequests =
    (config : Config) (site : Site) (given : List Given) → HoldsBytes site.asked → AllByRecursion AreBytes (asked_datagrams given)
    → AllByRecursion (BringsRequest config.cluster.schema site.asked (asked_datagrams given)) (inputs_in config site given)

-- where no piece came before these datagrams
abbrev pub WholeCameInPieces : Type 0
WholeCameInPieces =
    (before : List (List ℕ)) (last bytes : List ℕ) → (join last (table_after before [])).answer ≡ Whole bytes → CameInPieces (before ++ last ∷ []) bytes

-- ---- what is dropped

abbrev pub DroppedLeavesTable : Type 0
DroppedLeavesTable =
    (datagram : List ℕ) (table : List JoinEntry) (cause : DropCause) → (join datagram table).answer ≡ Dropped cause → (join datagram table).entries ≡ table

abbrev pub DroppedPiecesAreAsNone : Type 0
DroppedPiecesAreAsNone = (config : Config) (site : Site) (given : List Given) → AreAsGood config site given (without_dropped config site given)

-- ---- what goes out together

-- How many inputs are taken before what is pending goes out, by whether datagrams wait, changes neither the inputs nor what is seen.
abbrev pub GroupingChangesNothing : Type 0
GroupingChangesNothing =
    (config : Config) (site : Site) (given other : List Given) → map received_in other ≡ map received_in given → AreAsGood config site given other

-- ---- runs

-- What was done is the run of the centre's node over these inputs.
pub record IsRunOver (config : Config) (site : Site) (inputs : List Input) (did : Doing) : Type 0 where
  pub tells : TellsMade config site (run_of_inputs config.cluster site.centre site.node inputs) did
  pub node : did.site.node ≡ after_run config.cluster site.centre site.node inputs

abbrev pub TurnsAreRuns : Type 0
TurnsAreRuns = (config : Config) (site : Site) (given : List Given) → IsRunOver config site (inputs_in config site given) (turns config site given)

-- And it is the run over those that are not refused, of which none is refused then.
pub record IsRunWithout (config : Config) (site : Site) (taken : List Input) (did : Doing) : Type 0 where
  pub run : IsRunOver config site taken did
  pub none : refusals (run_of_inputs config.cluster site.centre site.node taken) ≡ []

abbrev pub TurnsAreRunsWithoutRefused : Type 0
TurnsAreRunsWithoutRefused =
    (config : Config) (site : Site) (given : List Given)
    → IsRunWithout config site (inputs_taken config.cluster site.centre site.node (inputs_in config site given)) (turns config site given)

-- ---- servers

-- each turn has what the receives of each centre gave, and no other centre has its number
abbrev pub CentresDoTheirTurns : Type 0
CentresDoTheirTurns =
    (config : Config) (front : List Log) (log : Log) (back : List Log) (given : List (List Given))
    → AllByRecursion (λ turn. length turn ≡ length (front ++ log ∷ back)) given
    → AllByRecursion (λ other. other.centre ≢ log.centre) front → AllByRecursion (λ other. other.centre ≢ log.centre) back
    → DoesItsTurns config (length front) log given (served config (front ++ log ∷ back) given)
