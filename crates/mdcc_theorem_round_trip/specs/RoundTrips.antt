-- One round trip in a world: the proposals to a fast quorum are delivered, and then the votes that they gave.
use Rattle.std.specs.List.{AllByRecursion}
use Rattle.std.specs.List.Sorted.{IsPermutation}
use Rattle.std.specs.Prelude.{Bool, List, None, Ok, Option, Some, [], false, length, map, option_map, true, ℕ, ◌&&◌, ◌++◌, ◌==◌, ◌∷◌, ◌≡◌}
use Rattle.mdcc_base.specs.AreQuorums.{AreQuorums}
use Rattle.mdcc_base.specs.TxId.{tx_eq}
use Rattle.mdcc_base.specs.declared.identifiers.TxId.{TxId}
use Rattle.mdcc_option.specs.declared.choices.Choice.{Choice}
use Rattle.mdcc_option.specs.declared.choices.Outcome.{Outcome}
use Rattle.mdcc_def_ledger.specs.Ledger.{facts_of}
use Rattle.mdcc_def_messages.specs.Mailbox.{Sent, numbered}
use Rattle.mdcc_def_messages.specs.declared.facts.Fact.{Fact}
use Rattle.mdcc_def_messages.specs.declared.messages.Envelope.{Envelope}
use Rattle.mdcc_def_protocol.specs.Belongs.{choice_belongs, is_centre}
use Rattle.mdcc_def_protocol.specs.Facts.{heard_of, is_finished}
use Rattle.mdcc_def_protocol.specs.News.{is_crowding}
use Rattle.mdcc_def_protocol.specs.Volatile.{Undecided}
use Rattle.mdcc_def_language.specs.declared.events.Event.{Event}
use Rattle.mdcc_def_language.specs.declared.lines.Line.{Line}
use Rattle.mdcc_def_simulation.specs.Events.{after_event}
use Rattle.mdcc_def_simulation.specs.State.{Happened, World, centre_at}
use Rattle.mdcc_theorem_round_trip.specs.Accepting.{IsAccepted}
use Rattle.mdcc_theorem_round_trip.specs.Deciding.{AreChoicesOf, IsFastQuorum, IsUncounted}
use Rattle.mdcc_theorem_round_trip.specs.Messages.{each_with, proposal_of, vote_of_member}

-- the message of a number
abbrev pub message_at : World → ℕ → Option Envelope
message_at w number = option_map (λ (s : Sent). s.envelope) (numbered w.sent number)

-- the numbers are those of these messages, in this order
abbrev pub AreNumbersOf : World → List ℕ → List Envelope → Type 0
AreNumbersOf w numbers messages = map (message_at w) numbers ≡ map Some messages

-- the transaction is open at the centre, which is one of the cluster and has no armed stop; the centre has neither heard of its outcome
-- nor counted a vote on it, it is not finished there, and the deltas of a commit would crowd no version there
pub record IsUndecidedAt (w : World) (a : ℕ) (t : Undecided) : Type 0 where
  pub centre : is_centre w.cluster a ≡ true
  pub unstopped : (centre_at w a).stop ≡ None
  pub uncounted : IsUncounted (centre_at w a).volatile.manager t
  pub unheard : heard_of (facts_of w.ledger a) t.tx ≡ None
  pub unfinished : is_finished (facts_of w.ledger a) t.tx ≡ false
  pub uncrowded : is_crowding (facts_of w.ledger a) (Fact.Heard t.tx (Outcome.Commit t.choices)) ≡ false

-- the member is one of the cluster, has no armed stop, and would accept each choice
pub record AcceptsEach (w : World) (choices : List Choice) (member : ℕ) : Type 0 where
  pub centre : is_centre w.cluster member ≡ true
  pub unstopped : (centre_at w member).stop ≡ None
  pub accepts : AllByRecursion (IsAccepted w.cluster (facts_of w.ledger member)) choices

-- a transaction that may commit in one round trip from a centre over the members of a fast quorum
pub record IsReady (w : World) (a : ℕ) (t : Undecided) (members : List ℕ) : Type 0 where
  pub quorums : AreQuorums w.cluster.quorums
  pub sites : length w.centres ≡ w.cluster.quorums.centres
  pub undecided : IsUndecidedAt w a t
  pub choices : AreChoicesOf t.tx t.choices
  pub belong : AllByRecursion (λ (choice : Choice). choice_belongs w.cluster choice ≡ true) t.choices
  pub quorum : IsFastQuorum w.cluster.quorums members
  pub accept : AllByRecursion (AcceptsEach w t.choices) members

-- a delivery that is dropped for want of cells
abbrev pub is_dropped : Line → Bool
is_dropped (Line.Dropped a needed spare) = true
is_dropped line = false

-- a centre hears an outcome of the transaction
abbrev pub is_hearing : ℕ → TxId → Line → Bool
is_hearing a tx (Line.Heard b tx' is_commit) = b == a && tx_eq tx' tx
is_hearing a tx line = false

-- the proposals are delivered to all members in some order, and then the votes that they gave to the centre, in some other order; neither
-- line is refused
pub record AreDelivered (w : World) (a : ℕ) (t : Undecided) (members : List ℕ) (first second : Happened) : Type 0 where
  pub asked : List (Choice × ℕ)
  pub proposals : List ℕ
  pub asks_each : IsPermutation (each_with t.choices members) asked
  pub proposals_are : AreNumbersOf w proposals (map (proposal_of a) asked)
  pub proposed : after_event w (Event.Deliver proposals) ≡ Ok first
  pub answered : List (Choice × ℕ)
  pub votes : List ℕ
  pub answers_each : IsPermutation (each_with t.choices members) answered
  pub votes_are : AreNumbersOf first.world votes (map (vote_of_member a) answered)
  pub voted : after_event first.world (Event.Deliver votes) ≡ Ok second

-- no delivery is dropped
abbrev pub AreUndropped : List Line → Type 0
AreUndropped lines = AllByRecursion (λ line. is_dropped line ≡ false) lines

-- no limit is reached: neither line is refused, and none of their deliveries is dropped
pub record IsRoundTrip (w : World) (a : ℕ) (t : Undecided) (members : List ℕ) (first second : Happened) : Type 0 where
  pub deliveries : AreDelivered w a t members first second
  pub undropped : AreUndropped (first.lines ++ second.lines)

-- the last line of all is that the centre hears the commit, and no earlier one says that it hears of an outcome
pub record EndsWithCommit (a : ℕ) (tx : TxId) (first second : List Line) : Type 0 where
  pub earlier : List Line
  pub last : second ≡ earlier ++ Line.Heard a tx true ∷ []
  pub unheard : AllByRecursion (λ line. is_hearing a tx line ≡ false) (first ++ earlier)

abbrev pub OneRoundTripCommits : Type 0
OneRoundTripCommits =
    (w : World) (a : ℕ) (t : Undecided) (members : List ℕ) (first second : Happened)
    → IsReady w a t members → IsRoundTrip w a t members first second
    → EndsWithCommit a t.tx first.lines second.lines

-- the messages that were sent
abbrev pub messages_of : World → List Envelope
messages_of w = map (λ (s : Sent). s.envelope) w.sent

-- the deliveries of the proposals send just the votes, in their order
abbrev pub ProposalsSendVotes : Type 0
ProposalsSendVotes =
    (w : World) (a : ℕ) (t : Undecided) (members : List ℕ) (first second : Happened)
    → IsReady w a t members → (trip : IsRoundTrip w a t members first second)
    → messages_of first.world ≡ messages_of w ++ map (vote_of_member a) trip.deliveries.asked
