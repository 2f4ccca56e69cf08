-- Schedules that are refused.
use Rattle.std.specs.Prelude.{ℕ, List, ◌++◌, codes}

-- one update too many
abbrev pub nine_inserts : List ℕ
nine_inserts =
    codes "mdcc-schedule 1\n"
    ++ codes "quorums 5 3 4\n"
    ++ codes "gamma 100\n"
    ++ codes "bound 0 1000\n"
    ++ codes "start\n"
    ++ codes "begin 1 new:a:-:1 new:b:-:1 new:c:-:1 new:d:-:1 new:e:-:1 new:f:-:1 new:g:-:1 new:h:-:1 new:i:-:1\n"

-- what is written where the first line is refused
abbrev pub header_report : List ℕ
header_report =
    codes "mdcc-report 1\n"
    ++ codes "quorums 5 3 4\n"
    ++ codes "gamma 100\n"
    ++ codes "bound 0 1000\n"
    ++ codes "start\n"

-- two inserts of one key in one transaction
abbrev pub repeated_key : List ℕ
repeated_key =
    codes "mdcc-schedule 1\n"
    ++ codes "quorums 5 3 4\n"
    ++ codes "gamma 100\n"
    ++ codes "bound 0 1000\n"
    ++ codes "start\n"
    ++ codes "begin 1 new:a:-:1 new:a:-:2\n"

-- a value above its bound
abbrev pub value_past_bound : List ℕ
value_past_bound =
    codes "mdcc-schedule 1\n"
    ++ codes "quorums 5 3 4\n"
    ++ codes "gamma 100\n"
    ++ codes "bound 0 1000\n"
    ++ codes "start\n"
    ++ codes "begin 1 new:a:-:1001\n"

-- a message that was not sent
abbrev pub unsent_message : List ℕ
unsent_message =
    codes "mdcc-schedule 1\n"
    ++ codes "quorums 5 3 4\n"
    ++ codes "gamma 100\n"
    ++ codes "bound 0 1000\n"
    ++ codes "start\n"
    ++ codes "deliver 99\n"

-- no line end behind the last line
abbrev pub missing_line_end : List ℕ
missing_line_end =
    codes "mdcc-schedule 1\n"
    ++ codes "quorums 5 3 4\n"
    ++ codes "gamma 100\n"
    ++ codes "bound 0 1000\n"
    ++ codes "start\n"
    ++ codes "begin 1 new:a:-:1"

-- a restart without a crash
abbrev pub restart_of_an_up_centre : List ℕ
restart_of_an_up_centre =
    codes "mdcc-schedule 1\n"
    ++ codes "quorums 5 3 4\n"
    ++ codes "gamma 100\n"
    ++ codes "bound 0 1000\n"
    ++ codes "start\n"
    ++ codes "restart 1\n"

-- a header with this line of quorums, and no event
abbrev pub quorums_alone : List ℕ → List ℕ
quorums_alone line =
    codes "mdcc-schedule 1\n"
    ++ line
    ++ codes "gamma 100\n"
    ++ codes "bound 0 1000\n"
    ++ codes "start\n"

abbrev pub quorums_report : List ℕ → List ℕ
quorums_report line =
    codes "mdcc-report 1\n"
    ++ line
    ++ codes "gamma 100\n"
    ++ codes "bound 0 1000\n"
    ++ codes "start\n"
    ++ codes "end events 0 messages 0 commits 0 aborts 0 open 0\n"
