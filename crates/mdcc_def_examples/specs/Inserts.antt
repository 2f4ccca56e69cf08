-- Schedules of inserts.
use Rattle.std.specs.Prelude.{ℕ, List, ◌++◌, codes}

-- no event at all
abbrev pub no_events : List ℕ
no_events =
    codes "mdcc-schedule 1\n"
    ++ codes "quorums 5 3 4\n"
    ++ codes "gamma 100\n"
    ++ codes "bound 0 1000\n"
    ++ codes "start\n"

abbrev pub no_events_report : List ℕ
no_events_report =
    codes "mdcc-report 1\n"
    ++ codes "quorums 5 3 4\n"
    ++ codes "gamma 100\n"
    ++ codes "bound 0 1000\n"
    ++ codes "start\n"
    ++ codes "end events 0 messages 0 commits 0 aborts 0 open 0\n"

-- four votes, and their answers
abbrev pub one_insert : List ℕ
one_insert =
    codes "mdcc-schedule 1\n"
    ++ codes "quorums 5 3 4\n"
    ++ codes "gamma 100\n"
    ++ codes "bound 0 1000\n"
    ++ codes "start\n"
    ++ codes "begin 1 new:a:-:10\n"
    ++ codes "deliver 1 2 3 4\n"
    ++ codes "deliver 6 7 8 9\n"

abbrev pub one_insert_report : List ℕ
one_insert_report =
    codes "mdcc-report 1\n"
    ++ codes "quorums 5 3 4\n"
    ++ codes "gamma 100\n"
    ++ codes "bound 0 1000\n"
    ++ codes "start\n"
    ++ codes "begin 1.1.1 next 6\n"
    ++ codes "deliver 1 next 7\n"
    ++ codes "deliver 2 next 8\n"
    ++ codes "deliver 3 next 9\n"
    ++ codes "deliver 4 next 10\n"
    ++ codes "chosen 1.1.1 commit\n"
    ++ codes "deliver 6 next 10\n"
    ++ codes "deliver 7 next 10\n"
    ++ codes "deliver 8 next 10\n"
    ++ codes "deliver 9 next 14\n"
    ++ codes "heard 1 1.1.1 commit\n"
    ++ codes "end events 9 messages 13 commits 1 aborts 0 open 0\n"

-- one insert, and every message delivered
abbrev pub settled_insert : List ℕ
settled_insert =
    codes "mdcc-schedule 1\n"
    ++ codes "quorums 5 3 4\n"
    ++ codes "gamma 100\n"
    ++ codes "bound 0 1000\n"
    ++ codes "start\n"
    ++ codes "begin 1 new:a:-:10\n"
    ++ codes "settle\n"

abbrev pub settled_insert_report : List ℕ
settled_insert_report =
    codes "mdcc-report 1\n"
    ++ codes "quorums 5 3 4\n"
    ++ codes "gamma 100\n"
    ++ codes "bound 0 1000\n"
    ++ codes "start\n"
    ++ codes "begin 1.1.1 next 6\n"
    ++ codes "settle\n"
    ++ codes "chosen 1.1.1 commit\n"
    ++ codes "heard 1 1.1.1 commit\n"
    ++ codes "heard 2 1.1.1 commit\n"
    ++ codes "heard 3 1.1.1 commit\n"
    ++ codes "heard 4 1.1.1 commit\n"
    ++ codes "heard 5 1.1.1 commit\n"
    ++ codes "settled 14 next 15\n"
    ++ codes "end events 16 messages 14 commits 1 aborts 0 open 0\n"

-- messages delivered again, and in reverse
abbrev pub repeated_deliveries : List ℕ
repeated_deliveries =
    codes "mdcc-schedule 1\n"
    ++ codes "quorums 5 3 4\n"
    ++ codes "gamma 100\n"
    ++ codes "bound 0 1000\n"
    ++ codes "start\n"
    ++ codes "begin 1 new:a:-:10\n"
    ++ codes "deliver 1 1 2 3 4 10 9 8 8 7 6\n"

abbrev pub repeated_deliveries_report : List ℕ
repeated_deliveries_report =
    codes "mdcc-report 1\n"
    ++ codes "quorums 5 3 4\n"
    ++ codes "gamma 100\n"
    ++ codes "bound 0 1000\n"
    ++ codes "start\n"
    ++ codes "begin 1.1.1 next 6\n"
    ++ codes "deliver 1 next 7\n"
    ++ codes "deliver 1 next 8\n"
    ++ codes "deliver 2 next 9\n"
    ++ codes "deliver 3 next 10\n"
    ++ codes "deliver 4 next 11\n"
    ++ codes "chosen 1.1.1 commit\n"
    ++ codes "deliver 10 next 11\n"
    ++ codes "deliver 9 next 11\n"
    ++ codes "deliver 8 next 11\n"
    ++ codes "deliver 8 next 11\n"
    ++ codes "deliver 7 next 15\n"
    ++ codes "heard 1 1.1.1 commit\n"
    ++ codes "deliver 6 next 15\n"
    ++ codes "end events 12 messages 14 commits 1 aborts 0 open 0\n"

-- a second insert under the same key, then a crash of a centre that heard its outcome
abbrev pub second_insert : List ℕ
second_insert =
    codes "mdcc-schedule 1\n"
    ++ codes "quorums 5 3 4\n"
    ++ codes "gamma 100\n"
    ++ codes "bound 0 1000\n"
    ++ codes "start\n"
    ++ codes "begin 1 new:a:-:1\n"
    ++ codes "deliver 1 2 3 4\n"
    ++ codes "begin 2 new:a:-:2\n"
    ++ codes "deliver 10 11 12 13 15 16 17 18 22 14\n"
    ++ codes "crash 5\n"
    ++ codes "restart 5\n"
    ++ codes "deliver 14\n"

abbrev pub second_insert_report : List ℕ
second_insert_report =
    codes "mdcc-report 1\n"
    ++ codes "quorums 5 3 4\n"
    ++ codes "gamma 100\n"
    ++ codes "bound 0 1000\n"
    ++ codes "start\n"
    ++ codes "begin 1.1.1 next 6\n"
    ++ codes "deliver 1 next 7\n"
    ++ codes "deliver 2 next 8\n"
    ++ codes "deliver 3 next 9\n"
    ++ codes "deliver 4 next 10\n"
    ++ codes "chosen 1.1.1 commit\n"
    ++ codes "begin 2.1.1 next 15\n"
    ++ codes "deliver 10 next 16\n"
    ++ codes "deliver 11 next 17\n"
    ++ codes "deliver 12 next 18\n"
    ++ codes "deliver 13 next 19\n"
    ++ codes "chosen 2.1.1 abort\n"
    ++ codes "deliver 15 next 19\n"
    ++ codes "deliver 16 next 19\n"
    ++ codes "deliver 17 next 19\n"
    ++ codes "deliver 18 next 23\n"
    ++ codes "heard 2 2.1.1 abort\n"
    ++ codes "deliver 22 next 23\n"
    ++ codes "heard 5 2.1.1 abort\n"
    ++ codes "deliver 14 next 24\n"
    ++ codes "crash 5\n"
    ++ codes "restart 5 epoch 2\n"
    ++ codes "deliver 14 next 25\n"
    ++ codes "end events 19 messages 24 commits 1 aborts 1 open 0\n"

-- as many updates as a transaction may have
abbrev pub eight_inserts : List ℕ
eight_inserts =
    codes "mdcc-schedule 1\n"
    ++ codes "quorums 5 3 4\n"
    ++ codes "gamma 100\n"
    ++ codes "bound 0 1000\n"
    ++ codes "start\n"
    ++ codes "begin 1 new:a:-:1 new:b:-:1 new:c:-:1 new:d:-:1 new:e:-:1 new:f:-:1 new:g:-:1 new:h:-:1\n"

abbrev pub eight_inserts_report : List ℕ
eight_inserts_report =
    codes "mdcc-report 1\n"
    ++ codes "quorums 5 3 4\n"
    ++ codes "gamma 100\n"
    ++ codes "bound 0 1000\n"
    ++ codes "start\n"
    ++ codes "begin 1.1.1 next 41\n"
    ++ codes "end events 1 messages 40 commits 0 aborts 0 open 1\n"
