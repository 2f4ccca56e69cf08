-- What a trace shows of a transaction that is open at the centre that began it.
use Rattle.std.specs.List.{AllByRecursion}
use Rattle.std.specs.Prelude.{List, None, Some, map, true, ℕ, ◌≡◌}
use Rattle.mdcc_option.specs.declared.choices.Choice.{Choice}
use Rattle.mdcc_option.specs.declared.cluster.Cluster.{Cluster}
use Rattle.mdcc_def_language.specs.declared.events.Event.{Event}
use Rattle.mdcc_def_ledger.specs.Ledger.{facts_of}
use Rattle.mdcc_def_protocol.specs.Belongs.{is_centre}
use Rattle.mdcc_def_protocol.specs.Facts.{heard_of}
use Rattle.mdcc_def_protocol.specs.IsCluster.{IsCluster}
use Rattle.mdcc_def_protocol.specs.Volatile.{Undecided, opened_of}
use Rattle.mdcc_def_simulation.specs.State.{World, centre_at}
use Rattle.mdcc_theorem_trace_states.specs.Words.{In}
use Rattle.mdcc_theorem_round_trip.specs.Messages.{proposal_of}
use Rattle.mdcc_theorem_round_trip.specs.RoundTrips.{AreNumbersOf}
use Rattle.mdcc_theorem_fast_path.specs.States.{state_after}

-- the transaction is open at the centre
pub record IsOpen (w : World) (a : ℕ) (t : Undecided) : Type 0 where
  pub centre : is_centre w.cluster a ≡ true
  pub opened : opened_of (centre_at w a).volatile.manager t.tx ≡ Some t

-- the centre has not heard its outcome
abbrev pub OpenIsUnheard : Type 0
OpenIsUnheard =
    (cluster : Cluster) → IsCluster cluster → (events : List Event) (a : ℕ) (t : Undecided) → IsOpen (state_after cluster events) a t
    → heard_of (facts_of (state_after cluster events).ledger a) t.tx ≡ None

-- a choice of the transaction, and a centre of the cluster
pub record IsProposal (cluster : Cluster) (t : Undecided) (pair : Choice × ℕ) : Type 0 where
  pub own : In pair.0 t.choices
  pub centre : is_centre cluster pair.1 ≡ true

-- each of its choices was proposed to each centre, so that such proposals have numbers, in whatever order they are wanted
abbrev pub OpenWereProposed : Type 0
OpenWereProposed =
    (cluster : Cluster) → IsCluster cluster → (events : List Event) (a : ℕ) (t : Undecided) (order : List (Choice × ℕ))
    → IsOpen (state_after cluster events) a t → AllByRecursion (IsProposal cluster t) order
    → (numbers : List ℕ) × AreNumbersOf (state_after cluster events) numbers (map (proposal_of a) order)
