-- What is left to ask of a transaction and of the members in a world that has its invariant.
use Rattle.std.specs.List.{AllByRecursion}
use Rattle.std.specs.Prelude.{List, None, false, true, ℕ, ◌≡◌}
use Rattle.mdcc_option.specs.declared.choices.Choice.{Choice}
use Rattle.mdcc_option.specs.declared.choices.Outcome.{Outcome}
use Rattle.mdcc_def_ledger.specs.Ledger.{facts_of}
use Rattle.mdcc_def_messages.specs.declared.facts.Fact.{Fact}
use Rattle.mdcc_def_protocol.specs.Belongs.{choice_belongs, is_centre}
use Rattle.mdcc_def_protocol.specs.Facts.{heard_of, is_finished}
use Rattle.mdcc_def_protocol.specs.News.{is_crowding}
use Rattle.mdcc_def_protocol.specs.Volatile.{Undecided}
use Rattle.mdcc_def_simulation.specs.State.{World, centre_at}
use Rattle.mdcc_theorem_worlds.specs.WorldInvariant.{IsWorld}
use Rattle.mdcc_theorem_round_trip.specs.Deciding.{IsFastQuorum, IsUncounted}
use Rattle.mdcc_theorem_round_trip.specs.RoundTrips.{AcceptsEach, IsReady}

-- the transaction is open at the centre, where no stop is armed, and which has neither counted a vote on it nor heard of it, nor finished it; its choices
-- are of the cluster, and the deltas of a commit would crowd no version there
pub record MayCommit (w : World) (a : ℕ) (t : Undecided) : Type 0 where
  pub centre : is_centre w.cluster a ≡ true
  pub unstopped : (centre_at w a).stop ≡ None
  pub uncounted : IsUncounted (centre_at w a).volatile.manager t
  pub unheard : heard_of (facts_of w.ledger a) t.tx ≡ None
  pub unfinished : is_finished (facts_of w.ledger a) t.tx ≡ false
  pub belong : AllByRecursion (λ (choice : Choice). choice_belongs w.cluster choice ≡ true) t.choices
  pub uncrowded : is_crowding (facts_of w.ledger a) (Fact.Heard t.tx (Outcome.Commit t.choices)) ≡ false

-- then it may commit in one round trip: the choices are of different keys
abbrev pub WorldsAreReady : Type 0
WorldsAreReady =
    (w : World) (a : ℕ) (t : Undecided) (members : List ℕ) → IsWorld w
    → MayCommit w a t → IsFastQuorum w.cluster.quorums members → AllByRecursion (AcceptsEach w t.choices) members
    → IsReady w a t members
