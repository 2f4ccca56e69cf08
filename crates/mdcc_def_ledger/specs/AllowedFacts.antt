-- Which fact a centre may add after its others. Each kind of fact has one row, its condition over the facts before it (MayAddKind);
-- what holds of every kind stands in MayAdd.
use Rattle.std.specs.Prelude.{Bool, IsTrue, List, MatchBool, None, Option, Some, [], false, is_some, length, nat_lt, not, true, ℕ, ◌&&◌, ◌+◌, ◌<◌, ◌||◌, ◌∷◌, ◌≡◌, ◌≤◌, ◌⊎◌}
use Rattle.mdcc_base.specs.Ballot.{ballot_lt, fast_ballot, is_fast}
use Rattle.mdcc_base.specs.Counts.{number_of}
use Rattle.mdcc_base.specs.declared.identifiers.Ballot.{Ballot}
use Rattle.mdcc_base.specs.declared.identifiers.TxId.{TxId}
use Rattle.mdcc_base.specs.declared.key.Key.{Key}
use Rattle.mdcc_option.specs.declared.choices.Choice.{Choice}
use Rattle.mdcc_option.specs.declared.choices.Mark.{Mark}
use Rattle.mdcc_option.specs.declared.choices.Outcome.{Outcome}
use Rattle.mdcc_option.specs.declared.cluster.Cluster.{Cluster}
use Rattle.mdcc_option.specs.declared.items.Delta.{Delta}
use Rattle.mdcc_option.specs.declared.items.Item.{Item}
use Rattle.mdcc_struct.specs.Maps.{value_of}
use Rattle.mdcc_struct.specs.declared.options.Options.{Options}
use Rattle.mdcc_def_protocol.specs.Acceptor.{new_marks, vote_on}
use Rattle.mdcc_def_protocol.specs.Belongs.{fact_belongs}
use Rattle.mdcc_def_protocol.specs.Facts.{are_heard, current_of, epoch_of, floor_of, heard_of, is_finished, promise_of, promised_through, vote_of}
use Rattle.mdcc_def_protocol.specs.News.{is_crowding, is_news}
use Rattle.mdcc_def_protocol.specs.declared.acceptor.ProposeAnswer.{ProposeAnswer}
use Rattle.mdcc_def_messages.specs.declared.facts.Fact.{Fact}

-- a promise of an instance alone, or of a range from a version that is not below the one held. (Fast Paxos.)
pub record MayPromise (facts : List Fact) (key : Key) (low high : ℕ) (ballot : Ballot) : Type 0 where
  pub classic : is_fast ballot ≡ false
  pub not_below : ballot_lt ballot (promise_of facts key low) ≡ false
  pub is_new : promised_through facts key low ballot ≡ None
  pub range : (high ≡ low) ⊎ ((low ≤ high) × (current_of facts key ≤ low))

-- a vote at the fast ballot: the mark is the acceptor's own of this choice. (Fast Paxos; MDCC.)
pub record MayVoteFast (cluster : Cluster) (facts : List Fact) (key : Key) (version : ℕ) (tx : TxId) (mark : Mark) (choice : Choice) : Type 0 where
  pub of_tx : choice.tx ≡ tx
  pub of_key : choice.key ≡ key
  pub of_version : choice.version ≡ version
  pub held : version ≤ current_of facts key
  pub unpromised : promise_of facts key version ≡ fast_ballot
  pub unvoted : vote_of facts key version tx ≡ None
  pub unheard : heard_of facts tx ≡ None
  pub unfinished : is_finished facts tx ≡ false
  pub answer : vote_on cluster facts choice ≡ ProposeAnswer.Vote mark

-- it has one mark, with the choice offered exactly where it is a rejection
abbrev pub IsFastVote : Cluster → List Fact → Key → ℕ → Options → Option Choice → Type 0
IsFastVote cluster facts key version ((tx, Mark.Accept choice) ∷ []) None = MayVoteFast cluster facts key version tx (Mark.Accept choice) choice
IsFastVote cluster facts key version ((tx, Mark.Reject) ∷ []) (Some choice) = MayVoteFast cluster facts key version tx Mark.Reject choice
IsFastVote cluster facts key version _ _ = ⊥

-- no transaction stands twice
abbrev pub are_apart : Options → Bool
are_apart [] = true
are_apart (e ∷ es) = not (is_some (value_of es e.0)) && are_apart es

-- a vote at a classic ballot: at least one mark, each of a transaction that is not finished and has none at this ballot yet. (Generalized Paxos.)
pub record MayVoteClassic (facts : List Fact) (key : Key) (version : ℕ) (ballot : Ballot) (options : Options) (offered : Option Choice) : Type 0 where
  pub not_below : ballot_lt ballot (promise_of facts key version) ≡ false
  pub held : version ≤ current_of facts key
  pub some_mark : 0 < length options
  pub apart : IsTrue (are_apart options)
  pub each_new : new_marks facts key version ballot options ≡ options
  pub no_offer : offered ≡ None

-- what is heard is new, and leaves at most 64 deltas on a version
pub record MayHear (facts : List Fact) (tx : TxId) (outcome : Outcome) : Type 0 where
  pub unheard : heard_of facts tx ≡ None
  pub unfinished : is_finished facts tx ≡ false
  pub room : is_crowding facts (Fact.Heard tx outcome) ≡ false

-- what is adopted brings a higher version or a new delta, and leaves at most 64 deltas on a version
pub record MayAdopt (facts : List Fact) (key : Key) (version : ℕ) (item : Item) (adds : List Delta) : Type 0 where
  pub news : IsTrue (is_news facts key version adds)
  pub room : is_crowding facts (Fact.Adopted key version item adds) ≡ false

-- a floor rises, over transactions that were all heard here. (Our own rule.)
pub record MaySetFloor (facts : List Fact) (centre epoch seq : ℕ) : Type 0 where
  pub above : floor_of facts centre epoch < seq
  pub heard : IsTrue (are_heard facts centre epoch seq)

abbrev pub is_booted : Fact → Bool
is_booted (Fact.Booted epoch) = true
is_booted _ = false

-- the condition of each kind of fact over the facts before it; epochs are counted from 1
abbrev pub MayAddKind : Cluster → List Fact → Fact → Type 0
MayAddKind cluster facts (Fact.Booted epoch) = epoch ≡ number_of is_booted facts + 1
MayAddKind cluster facts (Fact.Promised key low high ballot) = MayPromise facts key low high ballot
MayAddKind cluster facts (Fact.Voted key version ballot options offered) =
    MatchBool (is_fast ballot) (IsFastVote cluster facts key version options offered) (MayVoteClassic facts key version ballot options offered)
MayAddKind cluster facts (Fact.Heard tx outcome) = MayHear facts tx outcome
MayAddKind cluster facts (Fact.Adopted key version item adds) = MayAdopt facts key version item adds
MayAddKind cluster facts (Fact.Floor centre epoch seq) = MaySetFloor facts centre epoch seq

-- the first fact of a centre is Booted, and each is of this cluster
pub record MayAdd (cluster : Cluster) (facts : List Fact) (fact : Fact) : Type 0 where
  pub belongs : IsTrue (fact_belongs cluster fact)
  pub booted_first : IsTrue (is_booted fact || nat_lt 0 (epoch_of facts))
  pub kind : MayAddKind cluster facts fact
