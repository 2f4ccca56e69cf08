-- The fast path: from every state of a trace a transaction commits at the last vote of a fast quorum that accepts each of its choices.
use Rattle.std.specs.List.{AllByRecursion}
use Rattle.std.specs.List.Sorted.{IsPermutation}
use Rattle.std.specs.Prelude.{List, None, Ok, [], false, map, true, ℕ, ◌++◌, ◌∷◌, ◌≡◌}
use Rattle.mdcc_option.specs.declared.choices.Choice.{Choice}
use Rattle.mdcc_option.specs.declared.cluster.Cluster.{Cluster}
use Rattle.mdcc_def_language.specs.declared.events.Event.{Event}
use Rattle.mdcc_def_ledger.specs.Ledger.{facts_of}
use Rattle.mdcc_def_protocol.specs.IsCluster.{IsCluster}
use Rattle.mdcc_def_protocol.specs.Volatile.{Undecided}
use Rattle.mdcc_def_simulation.specs.Events.{after_event}
use Rattle.mdcc_def_simulation.specs.Runs.{run_of}
use Rattle.mdcc_def_simulation.specs.State.{Happened, World, centre_at, first_world, is_up_at}
use Rattle.mdcc_theorem_round_trip.specs.Accepting.{IsAccepted}
use Rattle.mdcc_theorem_round_trip.specs.Cells.{HaveCells}
use Rattle.mdcc_theorem_round_trip.specs.Deciding.{IsFastQuorum, IsUncounted}
use Rattle.mdcc_theorem_round_trip.specs.Messages.{each_with, proposal_of, vote_of_member}
use Rattle.mdcc_theorem_round_trip.specs.RoundTrips.{AreDelivered, AreNumbersOf, EndsWithCommit, IsRoundTrip, is_dropped}
use Rattle.mdcc_theorem_fast_path.specs.States.{state_after}

-- the centre is up and has no armed stop; the transaction is open there, and no vote on it was taken
pub record IsUntaken (w : World) (a : ℕ) (t : Undecided) : Type 0 where
  pub up : is_up_at w a ≡ true
  pub unstopped : (centre_at w a).stop ≡ None
  pub uncounted : IsUncounted (centre_at w a).volatile.manager t

-- the member is up and has no armed stop, and would accept each choice
pub record AcceptsAll (w : World) (t : Undecided) (member : ℕ) : Type 0 where
  pub up : is_up_at w member ≡ true
  pub unstopped : (centre_at w member).stop ≡ None
  pub accepts : AllByRecursion (IsAccepted w.cluster (facts_of w.ledger member)) t.choices

-- the proposals are delivered to all members in some order. No limit is reached: the line is not refused, and none of its deliveries is
-- dropped
pub record IsAsked (w : World) (a : ℕ) (t : Undecided) (members : List ℕ) (first : Happened) : Type 0 where
  pub asked : List (Choice × ℕ)
  pub proposals : List ℕ
  pub asks_each : IsPermutation (each_with t.choices members) asked
  pub proposals_are : AreNumbersOf w proposals (map (proposal_of a) asked)
  pub proposed : after_event w (Event.Deliver proposals) ≡ Ok first
  pub undropped : AllByRecursion (λ line. is_dropped line ≡ false) first.lines

-- then each member has given its vote on each choice, so that such votes have numbers, in whatever order they are wanted
abbrev pub VotesAreGiven : Type 0
VotesAreGiven =
    (cluster : Cluster) → IsCluster cluster
    → (events : List Event) (a : ℕ) (t : Undecided) (members : List ℕ) (first : Happened) (order : List (Choice × ℕ))
    → IsUntaken (state_after cluster events) a t → IsFastQuorum cluster.quorums members
    → AllByRecursion (AcceptsAll (state_after cluster events) t) members
    → IsAsked (state_after cluster events) a t members first → IsPermutation (each_with t.choices members) order
    → (votes : List ℕ) × AreNumbersOf first.world votes (map (vote_of_member a) order)

-- the deliveries of its proposals to these members in any order, and then of the votes that they gave in any order, report the commit
-- at the last of these votes
abbrev pub FastPathsCommit : Type 0
FastPathsCommit =
    (cluster : Cluster) → IsCluster cluster
    → (events : List Event) (a : ℕ) (t : Undecided) (members : List ℕ) (first second : Happened)
    → IsUntaken (state_after cluster events) a t → IsFastQuorum cluster.quorums members
    → AllByRecursion (AcceptsAll (state_after cluster events) t) members
    → IsRoundTrip (state_after cluster events) a t members first second
    → EndsWithCommit a t.tx first.lines second.lines

-- so they do where each member has cells spare for its votes, and the centre for as many and for the commit
abbrev pub RoomyFastPathsCommit : Type 0
RoomyFastPathsCommit =
    (cluster : Cluster) → IsCluster cluster
    → (events : List Event) (a : ℕ) (t : Undecided) (members : List ℕ) (first second : Happened)
    → IsUntaken (state_after cluster events) a t → IsFastQuorum cluster.quorums members
    → AllByRecursion (AcceptsAll (state_after cluster events) t) members → HaveCells (state_after cluster events) a t members
    → AreDelivered (state_after cluster events) a t members first second
    → EndsWithCommit a t.tx first.lines second.lines

-- the run of the schedule that has these two lines after the events, of which none is refused, prints what they report after the rest
abbrev pub RunsReportThem : Type 0
RunsReportThem =
    (cluster : Cluster) (events : List Event) (a : ℕ) (t : Undecided) (members : List ℕ) (first second : Happened)
    → (run_of (first_world cluster) events).fault ≡ None
    → (trip : IsRoundTrip (state_after cluster events) a t members first second)
    → (run_of (first_world cluster) (events ++ Event.Deliver trip.deliveries.proposals ∷ Event.Deliver trip.deliveries.votes ∷ [])).lines
    ≡ (run_of (first_world cluster) events).lines ++ (first.lines ++ second.lines)
