-- Schedules under the wider fast limit, and what a leader may make of the promises that it has.
use Rattle.std.specs.Prelude.{Bool, List, None, Option, Some, [], codes, is_some, length, not, ℕ, ◌++◌, ◌∷◌}
use Rattle.mdcc_base.specs.declared.identifiers.Ballot.{Ballot}
use Rattle.mdcc_base.specs.declared.identifiers.TxId.{TxId}
use Rattle.mdcc_base.specs.declared.key.Key.{Key}
use Rattle.mdcc_option.specs.declared.cluster.Cluster.{Cluster}
use Rattle.mdcc_option.specs.declared.cluster.FastLimit.{FastLimit}
use Rattle.mdcc_struct.specs.declared.options.Options.{Options}
use Rattle.mdcc_def_ledger.specs.AllowedStructures.{promisers_of}
use Rattle.mdcc_theorem_ledger.specs.LedgerTest.{is_entry_allowed, is_ledger_allowed, reports_now}
use Rattle.mdcc_def_language.specs.Errors.{ReplayFault}
use Rattle.mdcc_def_protocol.specs.Facts.{promise_of}
use Rattle.mdcc_def_ledger.specs.Ledger.{Entry, Valued, facts_of, outcome_of}
use Rattle.mdcc_def_protocol.specs.Marks.{accepts_in}
use Rattle.mdcc_def_simulation.specs.Replay.{replay_of}
use Rattle.mdcc_def_protocol.specs.Structures.{first_structure}
use Rattle.mdcc_def_simulation.specs.State.{World}

-- three promises force decreases by 12 of a value of 10, so the leader waits; with a fourth one nothing is forced
abbrev pub forced_past_the_room : List ℕ
forced_past_the_room =
    codes "mdcc-schedule 1\n"
    ++ codes "quorums 5 3 4\n"
    ++ codes "gamma 100\n"
    ++ codes "limit paper\n"
    ++ codes "bound 0 1000\n"
    ++ codes "start\n"
    ++ codes "begin 1 new:a:-:10\n"
    ++ codes "settle\n"
    ++ codes "read 4 a\n"
    ++ codes "begin 4 add:1:1=-4\n"
    ++ codes "begin 4 add:1:1=-4\n"
    ++ codes "begin 4 add:1:1=-4\n"
    ++ codes "begin 4 add:1:1=-1\n"
    ++ codes "deliver 15 17 20 21 26 27 30 41 42 43 44 45 48 49 50 46 51 52 53 54\n"

abbrev pub forced_past_the_room_report : List ℕ
forced_past_the_room_report =
    codes "mdcc-report 1\n"
    ++ codes "quorums 5 3 4\n"
    ++ codes "gamma 100\n"
    ++ codes "limit paper\n"
    ++ codes "bound 0 1000\n"
    ++ codes "start\n"
    ++ codes "begin 1.1.1 next 6\n"
    ++ codes "settle\n"
    ++ codes "chosen 1.1.1 commit\n"
    ++ codes "heard 1 1.1.1 commit\n"
    ++ codes "heard 2 1.1.1 commit\n"
    ++ codes "heard 3 1.1.1 commit\n"
    ++ codes "heard 4 1.1.1 commit\n"
    ++ codes "heard 5 1.1.1 commit\n"
    ++ codes "settled 14 next 15\n"
    ++ codes "read 1 at 4 a version 1 seen 0 values 10 body -\n"
    ++ codes "begin 4.1.1 next 20\n"
    ++ codes "begin 4.1.2 next 25\n"
    ++ codes "begin 4.1.3 next 30\n"
    ++ codes "begin 4.1.4 next 35\n"
    ++ codes "deliver 15 next 36\n"
    ++ codes "deliver 17 next 37\n"
    ++ codes "deliver 20 next 38\n"
    ++ codes "deliver 21 next 39\n"
    ++ codes "deliver 26 next 40\n"
    ++ codes "deliver 27 next 41\n"
    ++ codes "deliver 30 next 42\n"
    ++ codes "deliver 41 next 43\n"
    ++ codes "deliver 42 next 48\n"
    ++ codes "deliver 43 next 49\n"
    ++ codes "deliver 44 next 50\n"
    ++ codes "deliver 45 next 51\n"
    ++ codes "deliver 48 next 51\n"
    ++ codes "deliver 49 next 51\n"
    ++ codes "deliver 50 next 51\n"
    ++ codes "deliver 46 next 52\n"
    ++ codes "deliver 51 next 57\n"
    ++ codes "deliver 52 next 65\n"
    ++ codes "deliver 53 next 73\n"
    ++ codes "deliver 54 next 81\n"
    ++ codes "chosen 4.1.1 commit\n"
    ++ codes "chosen 4.1.2 commit\n"
    ++ codes "chosen 4.1.3 abort\n"
    ++ codes "chosen 4.1.4 commit\n"
    ++ codes "end events 41 messages 80 commits 4 aborts 1 open 0\n"

-- ---- a leader that does not wait

abbrev pub limited_key : Key
limited_key = 97 ∷ []

-- the same up to the third promise
abbrev pub three_promises : List ℕ
three_promises =
    codes "mdcc-schedule 1\n"
    ++ codes "quorums 5 3 4\n"
    ++ codes "gamma 100\n"
    ++ codes "limit paper\n"
    ++ codes "bound 0 1000\n"
    ++ codes "start\n"
    ++ codes "begin 1 new:a:-:10\n"
    ++ codes "settle\n"
    ++ codes "read 4 a\n"
    ++ codes "begin 4 add:1:1=-4\n"
    ++ codes "begin 4 add:1:1=-4\n"
    ++ codes "begin 4 add:1:1=-4\n"
    ++ codes "begin 4 add:1:1=-1\n"
    ++ codes "deliver 15 17 20 21 26 27 30 41 42 43 44 45 48 49 50\n"

-- the ballot that centre 1 promised on the version that all hold
abbrev pub ballot_in : World → Ballot
ballot_in world = promise_of (facts_of world.ledger 1) limited_key 1

-- the structure of all promises that there are
abbrev pub structure_in : World → Options
structure_in world =
    let leader = (ballot_in world).centre in
    let centres = promisers_of world.cluster.quorums world.ledger limited_key 1 (ballot_in world) in
    first_structure world.cluster (facts_of world.ledger leader) limited_key 1 [] (reports_now world.ledger limited_key 1 (ballot_in world) centres)

abbrev pub entry_in : World → Entry
entry_in world = Valued (ballot_in world).centre limited_key 1 (ballot_in world) (structure_in world)

abbrev pub with_limit : Cluster → FastLimit → Cluster
with_limit cluster limit = record cluster { limit = limit }

pub record Early : Type 0 where
  pub ledger_allowed : Bool
  pub promises : ℕ
  pub accepted : ℕ
  pub under_paper : Bool
  pub under_safe : Bool

abbrev pub early_in : Option World → Option Early
early_in None = None
early_in (Some world) = Some (record {
  ledger_allowed = is_ledger_allowed world.cluster world.ledger;
  promises = length (promisers_of world.cluster.quorums world.ledger limited_key 1 (ballot_in world));
  accepted = length (accepts_in (structure_in world));
  under_paper = is_entry_allowed world.cluster world.ledger (entry_in world);
  under_safe = is_entry_allowed (with_limit world.cluster FastLimit.Safe) world.ledger (entry_in world);
})

abbrev pub early : List ℕ → Option Early
early text = early_in (replay_of text).world

-- ---- a lead on a version that has passed

-- Centre 5 alone accepts an Add. Another Add of that version commits, and a Write that has seen it. With centre 4 down
-- the first Add is left to a leader, which holds the later version
abbrev pub passed_version : List ℕ → List ℕ → List ℕ
passed_version limit more =
    codes "mdcc-schedule 1\n"
    ++ codes "quorums 5 3 4\n"
    ++ codes "gamma 100\n"
    ++ limit
    ++ codes "bound 0 1000\n"
    ++ codes "start\n"
    ++ codes "begin 1 new:a:-:10\n"
    ++ codes "settle\n"
    ++ codes "read 5 a\n"
    ++ codes "begin 5 add:1:1=-1\n"
    ++ codes "deliver 19\n"
    ++ codes "read 1 a\n"
    ++ codes "begin 1 add:2:1=-1\n"
    ++ codes "deliver 21 22 23 24 25 26 27 28 29 31 32 33 34\n"
    ++ codes "read 1 a\n"
    ++ codes "begin 1 set:3:-:5\n"
    ++ codes "deliver 35 36 37 38 40 41 42 43 44 45 46 47\n"
    ++ codes "crash 4\n"
    ++ codes "settle\n"
    ++ codes "tick 5\n"
    ++ codes "settle\n"
    ++ codes "tick 5\n"
    ++ codes "settle\n"
    ++ codes "tick 5\n"
    ++ codes "settle\n"
    ++ codes "tick 5\n"
    ++ codes "settle\n"
    ++ more

abbrev pub left_open : TxId
left_open = record { centre = 5; epoch = 1; seq = 1 }

-- whether no line was refused, how many centres promised a ballot on the passed version, and whether the transaction is decided
pub record Decision : Type 0 where
  pub all_taken : Bool
  pub promises : ℕ
  pub is_decided : Bool

abbrev pub decision_in : Option ReplayFault → Option World → Option Decision
decision_in fault None = None
decision_in fault (Some world) = Some (record {
  all_taken = not (is_some fault);
  promises = length (promisers_of world.cluster.quorums world.ledger limited_key 1 (ballot_in world));
  is_decided = is_some (outcome_of world.cluster.quorums world.ledger left_open);
})

abbrev pub replay_decision : List ℕ → Option Decision
replay_decision text = let replay = replay_of text in decision_in replay.fault replay.world
