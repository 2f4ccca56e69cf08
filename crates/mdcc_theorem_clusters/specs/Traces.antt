-- A cluster as the contracts of its servers show it: each process does the acts of a server of one centre, up to some act, whatever its receives give.
use Rattle.std.specs.List.{AllByRecursion}
use Rattle.std.specs.Prelude.{Bool, Err, List, None, Ok, Option, Result, Some, [], if◌then◌else◌, map, ⊤, ℕ, ◌++◌, ◌==◌, ◌∷◌, ◌≡◌}
use Rattle.mdcc_config.specs.IsConfig.{IsConfig}
use Rattle.mdcc_config.specs.declared.config.Config.{Config}
use Rattle.mdcc_def_messages.specs.declared.facts.Fact.{Fact}
use Rattle.mdcc_def_protocol.specs.Belongs.{is_centre}
use Rattle.mdcc_def_rules.specs.Boot.{booted_by}
use Rattle.mdcc_def_rules.specs.declared.node.BootFault.{BootFault}
use Rattle.mdcc_theorem_server_runs.specs.Inputs.{turns_alone}
use Rattle.mdcc_def_server_runs.specs.Acts.{Act}
use Rattle.mdcc_def_server_runs.specs.Runs.{listed}
use Rattle.mdcc_def_server_runs.specs.Sending.{persist_then_send}
use Rattle.mdcc_def_server_runs.specs.Servers.{Log, opened, served, site_of}
use Rattle.mdcc_def_server_runs.specs.Sites.{Doing, Site}
use Rattle.mdcc_def_server_runs.specs.Turns.{Given, turn_of}
use Rattle.mdcc_def_server_runs.specs.Acts.{appended_by}
use Rattle.mdcc_theorem_clusters.specs.Clusters.{Move, after_moves, cut_turn, facts_in_flight, log_of, not_started, process_of}
use Rattle.mdcc_theorem_clusters.specs.Executions.{IsExecution, IsWithinLimits, WasSent}
use Rattle.mdcc_theorem_commit_groups.specs.Groups.{facts_onto}
use Rattle.mdcc_theorem_clusters.specs.Headline.{IsToldTruly}
use Rattle.mdcc_theorem_encoding.specs.Laws.{AreBytes}

-- ---- traces

-- all acts and all durable facts, as of a deployed cluster; and of each process the acts that it has not done
pub record Traced : Type 0 where
  pub done : List (ℕ × Act)
  pub durable : List (ℕ × Fact)
  pub left : ℕ → Option (List Act)

abbrev pub nothing_yet : Traced
nothing_yet = record { done = []; durable = []; left = λ a. None }

-- how the turns of a server end: what is pending goes out after the last one; or it comes only to the first few messages of one more turn, or of what
-- is pending
pub data Ending : Type 0 where
  Whole : Ending
  Short : (given : Option Given) (few : ℕ) → Ending

pub data LifeEvent : Type 0 where
  -- a server of this centre starts, whose receives will give this, turn by turn, and whose turns end so
  Starts : (centre : ℕ) (given : List Given) (ending : Ending) → LifeEvent
  -- it does its next act
  Does : (centre : ℕ) → LifeEvent
  -- it ends before its next act; if that is an append, perhaps with all of its facts in the log
  Ends : (centre : ℕ) (logged : Bool) → LifeEvent

abbrev pub with_left : Traced → ℕ → Option (List Act) → Traced
with_left trace a left = record { done = trace.done; durable = trace.durable; left = λ b. if a == b then left else trace.left b }

-- the acts of a server of this centre alone
abbrev pub acts_of : Config → Log → List Given → List Act
acts_of config log given = (served config (log ∷ []) (map (λ turn. turn ∷ []) given)).acts

-- what it does at the end of its turns
abbrev pub ending_of : Config → Ending → Site → Doing
ending_of config Ending.Whole site = persist_then_send config site
ending_of config (Ending.Short given few) site = cut_turn config few given site

-- its acts up to such an end
abbrev pub acts_to : Config → Log → List Given → Ending → List Act
acts_to config log given Ending.Whole = acts_of config log given
acts_to config log given (Ending.Short last few) =
    let turns = turns_alone config (site_of log) given in
    (opened config (log ∷ [])).acts ++ (turns.acts ++ (cut_turn config few last turns.site).acts)

abbrev pub life_of : Config → ℕ → List Fact → List Given → Ending → Result (List Fact) BootFault → Option (List Act)
life_of config a log given ending (Err fault) = None
life_of config a log given ending (Ok facts) = Some (acts_to config (record { centre = a; facts = log }) given ending)

abbrev pub after_begin_at : Config → Traced → ℕ → List Given → Ending → Option (List Act) → Traced
after_begin_at config trace a given ending (Some left) = trace
after_begin_at config trace a given ending None =
    if is_centre config.cluster a
    then with_left trace a (life_of config a (log_of trace.durable a) given ending (booted_by config.cluster (Ok (log_of trace.durable a))))
    else trace

abbrev pub after_next_at : Traced → ℕ → Option (List Act) → Traced
after_next_at trace a None = trace
after_next_at trace a (Some []) = trace
after_next_at trace a (Some (act ∷ acts)) =
    with_left (record { done = (a, act) ∷ trace.done; durable = facts_onto a (appended_by a act) trace.durable; left = trace.left }) a (Some acts)

abbrev pub traced_after_end_at : Traced → ℕ → Bool → Option (List Act) → Traced
traced_after_end_at trace a logged None = trace
traced_after_end_at trace a logged (Some left) =
    with_left (record { done = trace.done; durable = if logged then facts_onto a (facts_in_flight a left) trace.durable else trace.durable; left = trace.left }) a None

abbrev pub traced_after_event : Config → Traced → LifeEvent → Traced
traced_after_event config trace (LifeEvent.Starts a given ending) = after_begin_at config trace a given ending (trace.left a)
traced_after_event config trace (LifeEvent.Does a) = after_next_at trace a (trace.left a)
traced_after_event config trace (LifeEvent.Ends a logged) = traced_after_end_at trace a logged (trace.left a)

abbrev pub traced_after_events : Config → Traced → List LifeEvent → Traced
traced_after_events config trace [] = trace
traced_after_events config trace (event ∷ events) = traced_after_events config (traced_after_event config trace event) events

-- ---- premises

-- receives give bytes
pub record GivesBytes (given : Given) : Type 0 where
  pub own : AllByRecursion AreBytes (listed given.own)
  pub asked : AllByRecursion AreBytes (listed given.asked)

abbrev pub last_given : Ending → List Given
last_given Ending.Whole = []
last_given (Ending.Short given few) = listed given

-- after each turn, and after their end, the centre is within the limits
abbrev pub IsWithinTurns : Config → Site → List Given → Ending → Type 0
IsWithinTurns config site [] ending = IsWithinLimits (process_of (ending_of config ending site))
IsWithinTurns config site (given ∷ more) ending = IsWithinLimits (process_of (turn_of config site given)) × IsWithinTurns config (turn_of config site given).site more ending

pub record IsLife (config : Config) (log : Log) (given : List Given) (ending : Ending) : Type 0 where
  pub bytes : AllByRecursion GivesBytes given
  pub last_bytes : AllByRecursion GivesBytes (last_given ending)
  pub booted : IsWithinLimits (record { left = []; site_then = site_of log })
  pub turns : IsWithinTurns config (site_of log) given ending

-- what a receive at a centre's own endpoint gives was sent before
abbrev pub MayReceive : List (ℕ × Act) → ℕ → Act → Type 0
MayReceive done a (Act.Receive at (Some bytes)) = at ≡ a → WasSent done bytes
MayReceive done a act = ⊤

abbrev pub MayDoNext : List (ℕ × Act) → ℕ → Option (List Act) → Type 0
MayDoNext done a (Some (act ∷ acts)) = MayReceive done a act
MayDoNext done a left = ⊤

abbrev pub MayOccur : Config → Traced → LifeEvent → Type 0
MayOccur config trace (LifeEvent.Starts a given ending) = IsLife config (record { centre = a; facts = log_of trace.durable a }) given ending
MayOccur config trace (LifeEvent.Does a) = MayDoNext trace.done a (trace.left a)
MayOccur config trace (LifeEvent.Ends a logged) = ⊤

abbrev pub IsTrace : Config → Traced → List LifeEvent → Type 0
IsTrace config trace [] = ⊤
IsTrace config trace (event ∷ events) = MayOccur config trace event × IsTrace config (traced_after_event config trace event) events

-- ---- what is proved of them

-- A trace has the acts and the durable facts of an execution.
pub record IsExecuted (config : Config) (trace : Traced) : Type 0 where
  pub moves : List Move
  pub executed : IsExecution config not_started moves
  pub done : trace.done ≡ (after_moves config not_started moves).done
  pub durable : trace.durable ≡ (after_moves config not_started moves).durable

abbrev pub TracesAreExecutions : Type 0
TracesAreExecutions = (config : Config) (events : List LifeEvent) → IsTrace config nothing_yet events → IsExecuted config (traced_after_events config nothing_yet events)

-- so they have the headline
abbrev pub HeadlineOfServers : Type 0
HeadlineOfServers =
    (config : Config) → IsConfig config → (events : List LifeEvent) → IsTrace config nothing_yet events
    → IsToldTruly config (traced_after_events config nothing_yet events).done (traced_after_events config nothing_yet events).durable
