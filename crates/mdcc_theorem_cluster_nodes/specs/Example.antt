-- Processes of a cluster of three centres that commit what a client began: centre 2 is killed while its vote is on the way to its log, is started again
-- over what it left, and the proposal comes to it once more; before, the client sent what is no message.
use Rattle.std.specs.Prelude.{List, None, Option, Some, [], false, if◌then◌else◌, length, map, nat_le, suc, take, true, zero, ℕ, ◌++◌, ◌∷◌, ◌≡◌}
use Rattle.mdcc_def_messages.specs.Spelling.{encodings_of}
use Rattle.mdcc_def_messages.specs.declared.facts.Fact.{Fact}
use Rattle.mdcc_def_server_runs.specs.Acts.{Act}
use Rattle.mdcc_def_server_runs.specs.Servers.{Log}
use Rattle.mdcc_def_server_runs.specs.Turns.{Given}
use Rattle.mdcc_def_server_runs.specs.declared.lines.ServerLine.{ServerLine}
use Rattle.mdcc_disks.specs.Disks.{Disk}
use Rattle.mdcc_log_file.specs.Area.{area_bytes}
use Rattle.mdcc_log_file.specs.Area.Head.{Version1}
use Rattle.mdcc_option.specs.declared.choices.Outcome.{Outcome}
use Rattle.mdcc_theorem_clusters.specs.Crash.{garbage, proposal_to, request, three_centres, vote_datagram_of, voted}
use Rattle.mdcc_theorem_clusters.specs.Example.{asked_tx, inserting_choice}
use Rattle.mdcc_theorem_clusters.specs.Traces.{acts_of}
use Rattle.mdcc_theorem_server_runs.specs.Told.{server_lines_in}
use Rattle.mdcc_theorem_cluster_nodes.specs.Areas.{Areas}
use Rattle.mdcc_theorem_cluster_nodes.specs.Clusters.{Cluster, ClusterStep, no_calls}

-- ---- disks, links and outputs

-- the disks of a process have the areas of its centre, and what stands there is what a later process finds
abbrev pub disk_of_areas : Areas → ℕ → Disk
disk_of_areas areas p = record { told = true; bytes = if nat_le p 16 then areas.first else areas.second; calls = None; faults = 0 }

abbrev pub just_these : Areas → ℕ → List ℕ → Type 0
just_these areas p bytes = bytes ≡ (disk_of_areas areas p).bytes

abbrev pub no_byte : ℕ → Type 0
no_byte byte = ⊥

-- of its link and its output nothing is recorded
abbrev pub none_recorded_of : {L C : Type 0} → L → Option C
none_recorded_of link = None

abbrev pub none_lost : {L : Type 0} → L → ℕ
none_lost link = 0

-- ---- what receives gave

abbrev pub gave_own : List ℕ → Given
gave_own bytes = record { own = Some bytes; asked = None; waits = false }

abbrev pub gave_asked : List ℕ → Given
gave_asked bytes = record { own = None; asked = Some bytes; waits = false }

-- centre 1: what its client sent; its own proposal; and the votes
abbrev pub asked_first : List Given
asked_first = gave_asked garbage ∷ gave_asked request ∷ []

abbrev pub given_first : List Given
given_first = asked_first ++ (gave_own (proposal_to 1) ∷ gave_own (vote_datagram_of 1 1 5) ∷ gave_own (vote_datagram_of 2 2 1) ∷ gave_own (vote_datagram_of 3 1 1) ∷ [])

-- centre 2, in both of its lives, and centre 3
abbrev pub given_proposal : ℕ → List Given
given_proposal a = gave_own (proposal_to a) ∷ []

-- ---- logs

-- the areas with a log of these facts
abbrev pub areas_with : List Fact → Areas
areas_with facts = record { first = area_bytes (record { head = Version1; tail = encodings_of facts }); second = [] }

abbrev pub log_with : ℕ → List Fact → Log
log_with a facts = record { centre = a; facts = facts }

abbrev pub voted_once : List Fact
voted_once = voted ∷ Fact.Booted 1 ∷ []

abbrev pub voted_twice : List Fact
voted_twice = Fact.Booted 2 ∷ voted_once

abbrev pub heard_and_voted : List Fact
heard_and_voted = Fact.Heard asked_tx (Outcome.Commit (inserting_choice ∷ [])) ∷ voted_once

-- ---- processes

-- the acts of one that comes to its end
abbrev pub whole_acts : ℕ → List Fact → List Given → List Act
whole_acts a facts given = acts_of three_centres (log_with a facts) given

-- before its vote is appended centre 2 opened, with four acts, and did three of its turn
abbrev pub acts_until_killed : List Act
acts_until_killed = take 7 (whole_acts 2 [] (given_proposal 2))

-- ---- steps

-- so many acts of a centre
abbrev pub acts_done_by : ℕ → ℕ → List ClusterStep
acts_done_by a zero = []
acts_done_by a (suc n) = ClusterStep.Acts a ∷ acts_done_by a n

abbrev pub begins_whole : ℕ → List Fact → List Given → List Fact → ClusterStep
begins_whole a facts given kept = ClusterStep.Calls a (whole_acts a facts given) (areas_with kept)

-- centre 1 counts the votes
abbrev pub last_steps : List ClusterStep
last_steps = ClusterStep.Returns 3 ∷ (acts_done_by 1 (length (whole_acts 1 [] given_first)) ++ ClusterStep.Returns 1 ∷ [])

-- centre 3 votes
abbrev pub third_steps : List ClusterStep
third_steps = ClusterStep.Returns 2 ∷ begins_whole 3 [] (given_proposal 3) voted_once ∷ (acts_done_by 3 (length (whole_acts 3 [] (given_proposal 3))) ++ last_steps)

-- centre 2 lives once more
abbrev pub again_steps : List ClusterStep
again_steps = ClusterStep.Returns 2 ∷ begins_whole 2 voted_once (given_proposal 2) voted_twice ∷ (acts_done_by 2 (length (whole_acts 2 voted_once (given_proposal 2))) ++ third_steps)

-- it is killed with its vote in its log
abbrev pub killed_steps : List ClusterStep
killed_steps = ClusterStep.Calls 2 acts_until_killed (areas_with voted_once) ∷ (acts_done_by 2 7 ++ again_steps)

-- centre 1 does its first turns
abbrev pub kill_steps : List ClusterStep
kill_steps = begins_whole 1 [] given_first heard_and_voted ∷ (acts_done_by 1 (length (whole_acts 1 [] asked_first)) ++ killed_steps)

abbrev pub at_first_empty : Cluster
at_first_empty = no_calls (λ a. record { first = []; second = [] })

-- the lines that were printed, the newest first
abbrev pub lines_printed_in : Cluster → List ServerLine
lines_printed_in cluster = server_lines_in (map (λ one. one.1) cluster.done)
