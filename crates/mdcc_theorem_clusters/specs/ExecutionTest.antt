-- A test whether moves are an execution of a cluster.
use Rattle.std.specs.List.{list_all}
use Rattle.std.specs.Prelude.{Bool, List, None, Option, Some, [], false, nat_eq, nat_lt, true, ℕ, ◌&&◌, ◌^◌, ◌||◌, ◌∷◌}
use Rattle.mdcc_base.specs.Counts.{sum_over}
use Rattle.mdcc_config.specs.declared.config.Config.{Config}
use Rattle.mdcc_def_messages.specs.Lengths.{fact_length}
use Rattle.mdcc_def_server_runs.specs.Acts.{Act}
use Rattle.mdcc_def_server_runs.specs.Turns.{Given}
use Rattle.mdcc_theorem_clusters.specs.Clusters.{Deployment, Move, Process, after_move}

-- ---- what receives give

abbrev pub same_bytes : List ℕ → List ℕ → Bool
same_bytes [] [] = true
same_bytes (b ∷ bytes) (c ∷ others) = nat_eq b c && same_bytes bytes others
same_bytes bytes others = false

abbrev pub sends_these : List ℕ → Act → Bool
sends_these bytes (Act.Send from to sent answer) = same_bytes bytes sent
sends_these bytes act = false

-- whether a centre sent these bytes
abbrev pub was_sent : List (ℕ × Act) → List ℕ → Bool
was_sent [] bytes = false
was_sent (one ∷ done) bytes = sends_these bytes one.1 || was_sent done bytes

abbrev pub are_bytes : List ℕ → Bool
are_bytes bytes = list_all (λ b. nat_lt b (2 ^ 8)) bytes

abbrev pub may_receive_own : List (ℕ × Act) → Option (List ℕ) → Bool
may_receive_own done None = true
may_receive_own done (Some bytes) = was_sent done bytes && are_bytes bytes

abbrev pub may_receive_asked : Option (List ℕ) → Bool
may_receive_asked None = true
may_receive_asked (Some bytes) = are_bytes bytes

abbrev pub may_deliver : List (ℕ × Act) → Given → Bool
may_deliver done given = may_receive_own done given.own && may_receive_asked given.asked

abbrev pub may_cut : List (ℕ × Act) → Option Given → Bool
may_cut done None = true
may_cut done (Some given) = may_deliver done given

abbrev pub may_move : Deployment → Move → Bool
may_move state (Move.Turn a given) = may_deliver state.done given
may_move state (Move.Cut a given few) = may_cut state.done given
may_move state move = true

-- ---- limits

abbrev pub is_within_limits : Option Process → Bool
is_within_limits None = true
is_within_limits (Some process) = nat_lt process.site_then.sent (2 ^ 32) && nat_lt (sum_over fact_length process.site_then.node.facts) (2 ^ 32)

-- whose move it is
abbrev pub centre_of : Move → ℕ
centre_of (Move.Start a) = a
centre_of (Move.Turn a given) = a
centre_of (Move.Flush a) = a
centre_of (Move.Cut a given few) = a
centre_of (Move.Do a) = a
centre_of (Move.Stop a logged) = a

-- ---- both, move by move

abbrev pub is_execution : Config → Deployment → List Move → Bool
is_execution config state [] = true
is_execution config state (move ∷ moves) =
    let next = after_move config state move in
    may_move state move && (is_within_limits (next.process (centre_of move)) && is_execution config next moves)
