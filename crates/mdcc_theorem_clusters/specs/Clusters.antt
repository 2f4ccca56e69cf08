-- A cluster as it is deployed, a machine of six moves: each centre is served by a process of its own, which may be killed at any act and started
-- again over its log.
use Rattle.std.specs.Prelude.{Bool, Err, List, None, Ok, Option, Result, Some, [], if◌then◌else◌, take, ℕ, ◌==◌, ◌∷◌}
use Rattle.mdcc_config.specs.declared.config.Config.{Config}
use Rattle.mdcc_def_messages.specs.declared.facts.Fact.{Fact}
use Rattle.mdcc_def_protocol.specs.Belongs.{is_centre}
use Rattle.mdcc_def_rules.specs.Boot.{booted_by}
use Rattle.mdcc_def_rules.specs.declared.node.BootFault.{BootFault}
use Rattle.mdcc_def_server_runs.specs.Acts.{Act, appended_by}
use Rattle.mdcc_def_server_runs.specs.Sending.{persist_then_send}
use Rattle.mdcc_def_server_runs.specs.Servers.{opened, site_of}
use Rattle.mdcc_def_server_runs.specs.Sites.{Doing, Site, and_then}
use Rattle.mdcc_def_server_runs.specs.Turns.{Given, turn_inputs_taken, turn_of}
use Rattle.mdcc_theorem_commit_groups.specs.Groups.{facts_onto}

-- ---- states

-- a process: the acts of its turn that are left, and the centre as it will be after them
pub record Process : Type 0 where
  pub left : List Act
  pub site_then : Site

-- all acts that were done, each with its centre, and all facts that are in logs, each with its centre, both the newest first; and the process of
-- each centre that has one
pub record Deployment : Type 0 where
  pub done : List (ℕ × Act)
  pub durable : List (ℕ × Fact)
  pub process : ℕ → Option Process

-- before any start: all logs are empty
abbrev pub not_started : Deployment
not_started = record { done = []; durable = []; process = λ a. None }

-- the facts in the log of a centre, the newest first
abbrev pub log_of : List (ℕ × Fact) → ℕ → List Fact
log_of [] a = []
log_of (e ∷ durable) a = if e.0 == a then e.1 ∷ log_of durable a else log_of durable a

abbrev pub with_process : Deployment → ℕ → Option Process → Deployment
with_process state a process = record { done = state.done; durable = state.durable; process = λ b. if a == b then process else state.process b }

-- ---- moves

pub data Move : Type 0 where
  -- a centre that has no process starts over its log
  Start : (centre : ℕ) → Move
  -- one whose turn is over begins another, in which its receives give this
  Turn : (centre : ℕ) (given : Given) → Move
  -- or what is pending goes out after its last turn
  Flush : (centre : ℕ) → Move
  -- or it begins its last turn, or lets out what is pending, and comes only to the first few of its messages
  Cut : (centre : ℕ) (given : Option Given) (few : ℕ) → Move
  -- it does its next act
  Do : (centre : ℕ) → Move
  -- it ends before its next act, killed or by itself; if that is an append, with all of its facts in the log or with none
  Stop : (centre : ℕ) (logged : Bool) → Move

-- ---- a turn that does not come to its end

-- only the first few of its messages are pending
abbrev pub with_few : ℕ → Site → Site
with_few few site =
    record site { pending = record { facts = site.pending.facts; envelopes = take few site.pending.envelopes; heard = site.pending.heard } }

-- a turn, or what is pending at its end, of which only the first few messages go out: so a centre ends that has no serial left for the next one
abbrev pub cut_turn : Config → ℕ → Option Given → Site → Doing
cut_turn config few None site = persist_then_send config (with_few few site)
cut_turn config few (Some given) site = and_then (turn_inputs_taken config site given) (λ next. persist_then_send config (with_few few next))

-- ---- what a move does

abbrev pub process_of : Doing → Process
process_of did = record { left = did.acts; site_then = did.site }

-- over these facts, where they can be booted
abbrev pub process_started : Config → ℕ → List Fact → Result (List Fact) BootFault → Option Process
process_started config a log (Err fault) = None
process_started config a log (Ok facts) =
    Some (record { left = (opened config (record { centre = a; facts = log } ∷ [])).acts; site_then = site_of (record { centre = a; facts = log }) })

abbrev pub after_start_at : Config → Deployment → ℕ → Option Process → Deployment
after_start_at config state a (Some process) = state
after_start_at config state a None =
    if is_centre config.cluster a
    then with_process state a (process_started config a (log_of state.durable a) (booted_by config.cluster (Ok (log_of state.durable a))))
    else state

-- where its turn is over
abbrev pub process_turned : (Site → Doing) → Process → List Act → Process
process_turned next process [] = process_of (next process.site_then)
process_turned next process (act ∷ acts) = process

abbrev pub after_turn_at : (Site → Doing) → Deployment → ℕ → Option Process → Deployment
after_turn_at next state a None = state
after_turn_at next state a (Some process) = with_process state a (Some (process_turned next process process.left))

abbrev pub after_process_act : Deployment → ℕ → Process → List Act → Deployment
after_process_act state a process [] = state
after_process_act state a process (act ∷ acts) =
    with_process
    (record { done = (a, act) ∷ state.done; durable = facts_onto a (appended_by a act) state.durable; process = state.process })
    a (Some (record { left = acts; site_then = process.site_then }))

abbrev pub after_do_at : Deployment → ℕ → Option Process → Deployment
after_do_at state a None = state
after_do_at state a (Some process) = after_process_act state a process process.left

-- the facts of an append that comes next
abbrev pub facts_in_flight : ℕ → List Act → List Fact
facts_in_flight a [] = []
facts_in_flight a (act ∷ acts) = appended_by a act

abbrev pub after_stop_at : Deployment → ℕ → Bool → Option Process → Deployment
after_stop_at state a logged None = state
after_stop_at state a logged (Some process) =
    with_process
    (record { done = state.done; durable = if logged then facts_onto a (facts_in_flight a process.left) state.durable else state.durable; process = state.process })
    a None

abbrev pub after_move : Config → Deployment → Move → Deployment
after_move config state (Move.Start a) = after_start_at config state a (state.process a)
after_move config state (Move.Turn a given) = after_turn_at (λ site. turn_of config site given) state a (state.process a)
after_move config state (Move.Flush a) = after_turn_at (persist_then_send config) state a (state.process a)
after_move config state (Move.Cut a given few) = after_turn_at (cut_turn config few given) state a (state.process a)
after_move config state (Move.Do a) = after_do_at state a (state.process a)
after_move config state (Move.Stop a logged) = after_stop_at state a logged (state.process a)

abbrev pub after_moves : Config → Deployment → List Move → Deployment
after_moves config state [] = state
after_moves config state (move ∷ moves) = after_moves config (after_move config state move) moves
