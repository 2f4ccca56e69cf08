-- What the ledger shows of all that the centres keep and lose in a crash.
use Rattle.std.specs.Prelude.{List, None, Option, Some, [], false, length, map, true, ℕ, ⊤, ◌&&◌, ◌<◌, ◌==◌, ◌∷◌, ◌≡◌, ◌≤◌}
use Rattle.mdcc_base.specs.declared.identifiers.Ballot.{Ballot}
use Rattle.mdcc_base.specs.declared.key.Key.{Key}
use Rattle.mdcc_base.specs.declared.identifiers.TxId.{TxId}
use Rattle.mdcc_base.specs.Ballot.{ballot_eq}
use Rattle.mdcc_base.specs.Key.{key_eq}
use Rattle.mdcc_base.specs.TxId.{tx_eq}
use Rattle.mdcc_option.specs.declared.choices.Choice.{Choice}
use Rattle.mdcc_option.specs.declared.cluster.Cluster.{Cluster}
use Rattle.mdcc_option.specs.declared.choices.Mark.{Mark}
use Rattle.mdcc_def_protocol.specs.Facts.{are_heard, current_of, epoch_of, promised_through, report_of}
use Rattle.mdcc_def_protocol.specs.Fit.{parts_of}
use Rattle.mdcc_def_protocol.specs.Leader.{has_proposed}
use Rattle.mdcc_def_ledger.specs.Ledger.{Entry, choices_begun, facts_of, mark_given, structure_valued}
use Rattle.mdcc_def_ledger.specs.AllowedLedgers.{seqs_begun}
use Rattle.mdcc_def_ledger.specs.AllowedStructures.{are_distinct_centres}
use Rattle.mdcc_def_protocol.specs.Belongs.{is_centre, mark_belongs, tx_belongs}
use Rattle.mdcc_def_protocol.specs.Volatile.{Marked, CountedPromise, Lead, Leading, Managing, Undecided, Volatile, number_kept_at, structure_found}
use Rattle.mdcc_def_protocol.specs.declared.votes.Vote.{Vote}
use Rattle.mdcc_def_simulation.specs.State.{SimulatedSite}
use Rattle.mdcc_theorem_trace_states.specs.Words.{Each, In, IsTail}

-- ---- the manager

-- an open transaction was begun with the choices that the manager has of it, which are some
pub record IsOpened (es : List Entry) (t : Undecided) : Type 0 where
  pub choices : choices_begun es t.tx ≡ t.choices
  pub some_choice : 0 < length t.choices

-- a counted vote: its centre gives just this mark; and its centre, transaction and mark are of the cluster
pub record IsGiven (cluster : Cluster) (es : List Entry) (v : Vote) : Type 0 where
  pub given : mark_given es v.key v.version v.ballot v.tx v.from ≡ Some v.mark
  pub centre : is_centre cluster v.from ≡ true
  pub tx : tx_belongs cluster v.tx ≡ true
  pub mark : mark_belongs cluster v.mark ≡ true

-- two counted votes on one choice have one version, and not both one ballot and one centre
abbrev pub AreApart : Vote → Vote → Type 0
AreApart u v =
    (tx_eq u.tx v.tx && key_eq u.key v.key) ≡ true → ((u.version == v.version) ≡ true) × ((ballot_eq u.ballot v.ballot && u.from == v.from) ≡ false)

abbrev pub AllApart : List Vote → Type 0
AllApart [] = ⊤
AllApart (v ∷ vs) = Each (AreApart v) vs × AllApart vs

-- all counted votes of a role
pub record AreVotes (cluster : Cluster) (es : List Entry) (votes : List Vote) : Type 0 where
  pub each : Each (IsGiven cluster es) votes
  pub apart : AllApart votes

-- the manager of a centre: its sequence number counts the transactions that its epoch began, each open one is a begun one,
-- and its votes were given
pub record Manages (cluster : Cluster) (es : List Entry) (a : ℕ) (manager : Managing) : Type 0 where
  pub seq : manager.seq ≡ seqs_begun es a (epoch_of (facts_of es a))
  pub opened : Each (IsOpened es) manager.opened
  pub votes : AreVotes cluster es manager.votes

-- ---- the ledger

-- the transaction was begun with a choice on the key at the version
pub record IsPlaced (es : List Entry) (key : Key) (version : ℕ) (tx : TxId) : Type 0 where
  pub choice : Choice
  pub begun : In choice (choices_begun es tx)
  pub key_is : choice.key ≡ key
  pub version_is : choice.version ≡ version

-- each vote is on a transaction that was begun with a choice in the instance
abbrev pub ArePlaced : List Entry → Type 0
ArePlaced es =
    (key : Key) (version : ℕ) (ballot : Ballot) (tx : TxId) (a : ℕ) (mark : Mark) → mark_given es key version ballot tx a ≡ Some mark → IsPlaced es key version tx

-- ---- the leader

-- the choice is one with which the transaction was begun, and of the instance
pub record IsOwn (es : List Entry) (key : Key) (version : ℕ) (tx : TxId) (choice : Choice) : Type 0 where
  pub begun : In choice (choices_begun es tx)
  pub key_is : choice.key ≡ key
  pub version_is : choice.version ≡ version

-- a pending claim is of a transaction with a choice in the instance, and has that choice or none
pub record IsClaim (es : List Entry) (key : Key) (version : ℕ) (claim : TxId × Option Choice) : Type 0 where
  pub placed : IsPlaced es key version claim.0
  pub own : (choice : Choice) → claim.1 ≡ Some choice → IsOwn es key version claim.0 choice

-- a counted promise: when the ledger was as far as the old one, the centre promised this range and reported these votes
pub record IsPromise (cluster : Cluster) (es : List Entry) (key : Key) (version : ℕ) (ballot : Ballot) (promise : CountedPromise) : Type 0 where
  pub centre : is_centre cluster promise.from ≡ true
  pub old : List Entry
  pub tail : IsTail old es
  pub promised : promised_through (facts_of old promise.from) key version ballot ≡ Some promise.through
  pub reach : version ≤ promise.through
  pub report : report_of 0 (facts_of old promise.from) key version ballot ≡ record { centre = 0; ballot = promise.reported; votes = promise.votes }

-- a lead of a centre. Its ballot is the centre's own, of its present epoch, with a round that is above 0 and not above the last one
-- that the leader has for the key. The centre holds the version, and the range is not empty. Its claims and promises are as above, one
-- promise for each centre. Before it has proposed it has fewer promises than an acceptor's room has parts. For each version it has just
-- the structure that was sent last at its ballot
pub record IsLead (cluster : Cluster) (es : List Entry) (a : ℕ) (last_rounds : List (Key × ℕ)) (lead : Lead) : Type 0 where
  pub centre : lead.ballot.centre ≡ a
  pub epoch : lead.ballot.epoch ≡ epoch_of (facts_of es a)
  pub above : 0 < lead.ballot.round
  pub within : lead.ballot.round ≤ number_kept_at last_rounds lead.key
  pub held : lead.version ≤ current_of (facts_of es a) lead.key
  pub range : lead.version ≤ lead.through
  pub claims : Each (IsClaim es lead.key lead.version) lead.claims
  pub promises : Each (IsPromise cluster es lead.key lead.version lead.ballot) lead.promises
  pub apart : are_distinct_centres (map (λ promise. promise.from) lead.promises) ≡ true
  pub waits : has_proposed lead ≡ false → length lead.promises < parts_of cluster.limit cluster.quorums
  pub found : (version : ℕ) → structure_valued es lead.key version lead.ballot ≡ structure_found lead.structures version

-- the leader of a centre: no structure was sent at a ballot of this epoch above the last round of the key; and each lead is as above
pub record Leads (cluster : Cluster) (es : List Entry) (a : ℕ) (leader : Leading) : Type 0 where
  pub fresh : (key : Key) (version round : ℕ) → number_kept_at leader.last_rounds key < round →
      structure_valued es key version (record { round = round; epoch = epoch_of (facts_of es a); centre = a }) ≡ None
  pub leads : Each (IsLead cluster es a leader.last_rounds) leader.leads

-- a mark that is remembered: a centre of the cluster has heard so far
pub record IsTold (cluster : Cluster) (es : List Entry) (mark : Marked) : Type 0 where
  pub centre : is_centre cluster mark.from ≡ true
  pub heard : are_heard (facts_of es mark.from) mark.centre mark.epoch mark.seq ≡ true

-- all that a centre keeps: its manager, the votes of its recovery, its leader, and what it was told of floors
pub record Keeps (cluster : Cluster) (es : List Entry) (a : ℕ) (volatile : Volatile) : Type 0 where
  pub manager : Manages cluster es a volatile.manager
  pub recovery : AreVotes cluster es volatile.recovery.votes
  pub leader : Leads cluster es a volatile.leader
  pub told : Each (IsTold cluster es) volatile.told

-- a centre has booted, and where it is up, what it keeps is as above
pub record IsCentre (cluster : Cluster) (es : List Entry) (a : ℕ) (centre : SimulatedSite) : Type 0 where
  pub booted : 0 < epoch_of (facts_of es a)
  pub keeps : centre.is_up ≡ true → Keeps cluster es a centre.volatile
