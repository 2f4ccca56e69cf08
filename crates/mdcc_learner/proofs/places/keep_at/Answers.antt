use Rattle.std.proofs.Common.{◌≡◌, List, [], ◌∷◌, Option, Some, refl}
use Rattle.std.proofs.lemmas.Result.{err_from_is_err_and}
use Rattle.std.specs.Prelude.{unwrap_or, option_and_then, is_some, true}
use Rattle.indexmap.specs.IndexMap.{get}
use Rattle.mdcc_base.specs.Key.{key_eq}
use Rattle.mdcc_base.specs.TxId.{tx_eq}
use Rattle.mdcc_base.specs.declared.key.Key.{Key}
use Rattle.mdcc_def_protocol.specs.declared.votes.Vote.{Vote}
use Rattle.mdcc_struct.proofs.Order.{tx_eq-same}
use Rattle.mdcc_learner.specs.Places.{VotesByKey, votes_with}
use Rattle.mdcc_learner.proofs.Kept.{cond-and, put-new, put-same}
use Rattle.mdcc_learner.proofs.places.keep_at.Goals as goal

abbrev read : Key → Option VotesByKey → List Vote
read key keys = unwrap_or (option_and_then (λ keys. get key_eq keys key) keys) []

pub returns-in_err-keep_in-in-Some-clause-err : goal.returns-in_err-keep_in-in-Some-clause-err
returns-in_err-keep_in-in-Some-clause-err c tx key =
    let there : Some c.in-Some.keys.now ≡ get tx_eq c.args.txs.now c.args.vote.now.tx = c.in-Some.ensures.value in
    let some : is_some (get tx_eq c.args.txs.now c.args.vote.now.tx) ≡ true = rw (← there) in
    let updates = (c.get_mut.follows.holds c.keep_in.new.keys).3 some in
    let error = err_from_is_err_and c.from_residual.result c.from_residual.ensures.1 in
    rw error.1 (put-same tx_eq tx_eq-same (get tx_eq) (read key) c.args.txs.now (c.get_mut.follows.lender c.keep_in.new.keys)
    c.args.vote.now.tx tx c.in-Some.keys.now c.keep_in.new.keys there (c.in_err-keep_in-in-Some.ensures.err key) (updates.0 tx))

pub returns-in_ok-insert-in-None-clause-ok : goal.returns-in_ok-insert-in-None-clause-ok
returns-in_ok-insert-in-None-clause-ok c tx key =
    rw (cond-and (tx_eq c.args.vote.now.tx tx) (key_eq c.args.vote.now.key key) (c.args.vote.now ∷ []))
    (put-new tx_eq tx_eq-same (get tx_eq) (read key) c.args.txs.now c.get_mut.follows.lender-at-none c.insert.new.self
    c.args.vote.now.tx tx c.in_ok-keys-in-None.keys (votes_with key (c.args.vote.now ∷ [])) c.get_mut.follows.holds-at-none c.in-None.ensures.value refl
    (c.in_ok-keys-in-None.ensures key)
    (c.in_ok-insert-in-None.ensures.updates.0 tx))
