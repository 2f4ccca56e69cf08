-- The votes on a transaction and a key, after a vote is taken or a transaction is let go.
use Rattle.std.proofs.Common.{◌≡◌, Bool, true, ◌&&◌, List, [], ◌∷◌, ◌++◌, sym, arith, inl, inr, if◌then◌else◌, append-nil, not, ◌==◌, ◌||◌, Option, Some, None}
use Rattle.std.specs.Prelude.{MatchOption, is_some}
use Rattle.std.proofs.lemmas.Bool.{cases_Bool}
use Rattle.std.proofs.lemmas.List.Elements.{filter-append}
use Rattle.mdcc_base.specs.Ballot.{ballot_eq}
use Rattle.mdcc_base.specs.Key.{key_eq}
use Rattle.mdcc_base.specs.Sizes.{Sizes}
use Rattle.mdcc_base.specs.TxId.{tx_eq}
use Rattle.mdcc_base.specs.declared.identifiers.TxId.{TxId}
use Rattle.mdcc_base.specs.declared.key.Key.{Key}
use Rattle.mdcc_learner.proofs.Lists.{list_any-filter}
use Rattle.mdcc_def_protocol.specs.Learner.{is_counted, votes_on, with_counted_vote}
use Rattle.mdcc_def_protocol.specs.Volatile.{without_tx}
use Rattle.mdcc_def_protocol.specs.declared.votes.Vote.{Vote}
use Rattle.mdcc_struct.proofs.Order.{tx_eq-same}

-- only votes on its transaction and key bar a vote
pub is_counted-votes_on : (quorums : Sizes) (votes : List Vote) (vote : Vote)
    → is_counted quorums (votes_on votes vote.tx vote.key) vote ≡ is_counted quorums votes vote
is_counted-votes_on quorums votes vote =
    let is_there : Vote → Bool = λ other. tx_eq other.tx vote.tx && key_eq other.key vote.key in
    let bars : Vote → Bool = λ other. not (other.version == vote.version) || (ballot_eq other.ballot vote.ballot && other.from == vote.from) in
    rw (list_any-filter is_there bars votes)

pub votes_on-with_vote : (quorums : Sizes) (votes : List Vote) (vote : Vote) (tx : TxId) (key : Key)
    → votes_on (with_counted_vote quorums votes vote) tx key
    ≡ votes_on votes tx key ++ (if is_counted quorums (votes_on votes vote.tx vote.key) vote then votes_on (vote ∷ []) tx key else [])
votes_on-with_vote quorums votes vote tx key =
    rw (is_counted-votes_on quorums votes vote) (
    elim (cases_Bool (is_counted quorums votes vote)) [
      | inl e ↦ rw e (filter-append _ votes (vote ∷ []))
      | inr e ↦ rw e (sym (append-nil _))
    ])

pub votes_on-without_tx : (votes : List Vote) (tx other : TxId) (key : Key)
    → votes_on (without_tx votes tx) other key ≡ (if tx_eq tx other then [] else votes_on votes other key)
votes_on-without_tx [] tx other key = grind arith
votes_on-without_tx (v ∷ vs) tx other key = let ih = votes_on-without_tx vs tx other key in grind (arith, ih, tx_eq-same)

-- what is known of the quorums stays where votes are let go
pub knows-without_tx : (known : Option Sizes) (quorums : Sizes) (votes : List Vote) (tx : TxId)
    → MatchOption known (votes ≡ []) (λ sizes. sizes ≡ quorums)
    → MatchOption known (without_tx votes tx ≡ []) (λ sizes. sizes ≡ quorums)
knows-without_tx None quorums votes tx none = rw none
knows-without_tx (Some sizes) quorums votes tx known = known

-- and where they are known already
pub knows-still : (known : Option Sizes) (quorums : Sizes) (votes more : List Vote) → is_some known ≡ true
    → MatchOption known (votes ≡ []) (λ sizes. sizes ≡ quorums)
    → MatchOption known (more ≡ []) (λ sizes. sizes ≡ quorums)
knows-still None quorums votes more some knows = absurd (cc)
knows-still (Some sizes) quorums votes more some knows = knows
