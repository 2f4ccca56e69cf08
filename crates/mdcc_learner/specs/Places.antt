-- The votes that are kept, by transaction and key.
use Rattle.std.specs.Prelude.{List, [], filter, if◌then◌else◌, option_and_then, unwrap_or, ◌∷◌}
use Rattle.std.specs.declared.hash.BuildHasherDefault.{BuildHasherDefault}
use Rattle.std.specs.declared.hash.FoldHasher.{FoldHasher}
use Rattle.indexmap.specs.IndexMap.{IndexMap, get}
use Rattle.mdcc_base.specs.Key.{key_eq}
use Rattle.mdcc_base.specs.Sizes.{Sizes}
use Rattle.mdcc_base.specs.TxId.{tx_eq}
use Rattle.mdcc_base.specs.declared.identifiers.TxId.{TxId}
use Rattle.mdcc_base.specs.declared.key.Key.{Key}
use Rattle.mdcc_def_protocol.specs.Learner.{is_counted, votes_on}
use Rattle.mdcc_def_protocol.specs.declared.votes.Vote.{Vote}

abbrev pub VotesByKey : Type 0
VotesByKey = IndexMap Key (List Vote) (BuildHasherDefault FoldHasher)

abbrev pub VotesByTx : Type 0
VotesByTx = IndexMap TxId VotesByKey (BuildHasherDefault FoldHasher)

-- the votes on a key
abbrev pub votes_in : VotesByKey → Key → List Vote
votes_in keys key = unwrap_or (get key_eq keys key) []

-- the votes on a transaction and a key
abbrev pub votes_at : VotesByTx → TxId → Key → List Vote
votes_at txs tx key = unwrap_or (option_and_then (λ keys. get key_eq keys key) (get tx_eq txs tx)) []

-- those of the votes that are on a key
abbrev pub votes_with : Key → List Vote → List Vote
votes_with key votes = filter (λ vote. key_eq vote.key key) votes

-- the vote, if it is on this transaction and key and counts behind those that are kept
abbrev pub counted_on : Sizes → VotesByTx → Vote → TxId → Key → List Vote
counted_on quorums txs vote tx key =
    if is_counted quorums (votes_at txs vote.tx vote.key) vote then votes_on (vote ∷ []) tx key else []
