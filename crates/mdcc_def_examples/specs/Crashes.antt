-- Schedules of crashes and stops.
use Rattle.std.specs.Prelude.{ℕ, List, ◌++◌, codes}

-- the leader crashes with promises on their way to it
abbrev pub restarted_leader : List ℕ
restarted_leader =
    codes "mdcc-schedule 1\n"
    ++ codes "quorums 5 3 4\n"
    ++ codes "gamma 100\n"
    ++ codes "bound 0 12\n"
    ++ codes "start\n"
    ++ codes "begin 1 new:a:-:10\n"
    ++ codes "settle\n"
    ++ codes "read 1 a\n"
    ++ codes "begin 1 add:1:1=2\n"
    ++ codes "deliver 15 20 21 22 23 24\n"
    ++ codes "crash 3\n"
    ++ codes "restart 3\n"
    ++ codes "deliver 27 28 29 21 30 31 32 27 35 36 37 38 39 40 43 45 47\n"

abbrev pub restarted_leader_report : List ℕ
restarted_leader_report =
    codes "mdcc-report 1\n"
    ++ codes "quorums 5 3 4\n"
    ++ codes "gamma 100\n"
    ++ codes "bound 0 12\n"
    ++ codes "start\n"
    ++ codes "begin 1.1.1 next 6\n"
    ++ codes "settle\n"
    ++ codes "chosen 1.1.1 commit\n"
    ++ codes "heard 1 1.1.1 commit\n"
    ++ codes "heard 2 1.1.1 commit\n"
    ++ codes "heard 3 1.1.1 commit\n"
    ++ codes "heard 4 1.1.1 commit\n"
    ++ codes "heard 5 1.1.1 commit\n"
    ++ codes "settled 14 next 15\n"
    ++ codes "read 1 at 1 a version 1 seen 0 values 10 body -\n"
    ++ codes "begin 1.1.2 next 20\n"
    ++ codes "deliver 15 next 21\n"
    ++ codes "deliver 20 next 22\n"
    ++ codes "deliver 21 next 27\n"
    ++ codes "deliver 22 next 28\n"
    ++ codes "deliver 23 next 29\n"
    ++ codes "deliver 24 next 30\n"
    ++ codes "crash 3\n"
    ++ codes "restart 3 epoch 2\n"
    ++ codes "deliver 27 next 30\n"
    ++ codes "deliver 28 next 30\n"
    ++ codes "deliver 29 next 30\n"
    ++ codes "deliver 21 next 35\n"
    ++ codes "deliver 30 next 36\n"
    ++ codes "deliver 31 next 37\n"
    ++ codes "deliver 32 next 38\n"
    ++ codes "deliver 27 next 38\n"
    ++ codes "deliver 35 next 38\n"
    ++ codes "deliver 36 next 38\n"
    ++ codes "deliver 37 next 43\n"
    ++ codes "deliver 38 next 45\n"
    ++ codes "deliver 39 next 47\n"
    ++ codes "deliver 40 next 49\n"
    ++ codes "chosen 1.1.2 commit\n"
    ++ codes "deliver 43 next 49\n"
    ++ codes "deliver 45 next 49\n"
    ++ codes "deliver 47 next 53\n"
    ++ codes "heard 1 1.1.2 commit\n"
    ++ codes "end events 43 messages 52 commits 2 aborts 0 open 0\n"

-- centre 2 stops in the append of its vote, by this line, and starts again. An append writes the frame, syncs, opens its gate, and syncs
abbrev pub insert_with_stop : List ℕ → List ℕ
insert_with_stop line =
    codes "mdcc-schedule 1\n"
    ++ codes "quorums 5 3 4\n"
    ++ codes "gamma 100\n"
    ++ codes "bound 0 1000\n"
    ++ codes "start\n"
    ++ codes "begin 1 new:a:-:10\n"
    ++ codes "deliver 1 3 4\n"
    ++ line
    ++ codes "deliver 2\n"
    ++ codes "restart 2\n"
    ++ codes "deliver 2\n"

-- the vote was not in the log
abbrev pub vote_lost_report : List ℕ → List ℕ
vote_lost_report line =
    codes "mdcc-report 1\n"
    ++ codes "quorums 5 3 4\n"
    ++ codes "gamma 100\n"
    ++ codes "bound 0 1000\n"
    ++ codes "start\n"
    ++ codes "begin 1.1.1 next 6\n"
    ++ codes "deliver 1 next 7\n"
    ++ codes "deliver 3 next 8\n"
    ++ codes "deliver 4 next 9\n"
    ++ line
    ++ codes "deliver 2 next 9\n"
    ++ codes "stopped 2\n"
    ++ codes "restart 2 epoch 2\n"
    ++ codes "deliver 2 next 10\n"
    ++ codes "chosen 1.1.1 commit\n"
    ++ codes "end events 8 messages 9 commits 1 aborts 0 open 0\n"

-- the vote was in the log
abbrev pub vote_kept_report : List ℕ → List ℕ
vote_kept_report line =
    codes "mdcc-report 1\n"
    ++ codes "quorums 5 3 4\n"
    ++ codes "gamma 100\n"
    ++ codes "bound 0 1000\n"
    ++ codes "start\n"
    ++ codes "begin 1.1.1 next 6\n"
    ++ codes "deliver 1 next 7\n"
    ++ codes "deliver 3 next 8\n"
    ++ codes "deliver 4 next 9\n"
    ++ line
    ++ codes "deliver 2 next 9\n"
    ++ codes "stopped 2\n"
    ++ codes "chosen 1.1.1 commit\n"
    ++ codes "restart 2 epoch 2\n"
    ++ codes "deliver 2 next 10\n"
    ++ codes "end events 8 messages 9 commits 1 aborts 0 open 0\n"
