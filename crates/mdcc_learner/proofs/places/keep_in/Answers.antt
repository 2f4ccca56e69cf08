use Rattle.std.proofs.Common.{◌≡◌, List, [], ◌∷◌, Option, Some, refl}
use Rattle.std.proofs.lemmas.Result.{err_from_is_err_and}
use Rattle.std.specs.Prelude.{unwrap_or, is_some, true}
use Rattle.indexmap.specs.IndexMap.{get}
use Rattle.mdcc_base.specs.Key.{key_eq}
use Rattle.mdcc_def_protocol.specs.declared.votes.Vote.{Vote}
use Rattle.mdcc_learner.proofs.Kept.{key_eq-same, put-new, put-same}
use Rattle.mdcc_learner.proofs.places.keep_in.Goals as goal

abbrev read : Option (List Vote) → List Vote
read votes = unwrap_or votes []

pub returns-in_err-push-in-Some-clause-err : goal.returns-in_err-push-in-Some-clause-err
returns-in_err-push-in-Some-clause-err c key =
    let there : Some c.in-Some.votes.now ≡ get key_eq c.args.keys.now c.args.vote.now.key = c.in-Some.ensures.value in
    let some : is_some (get key_eq c.args.keys.now c.args.vote.now.key) ≡ true = rw (← there) in
    let updates = (c.get_mut.follows.holds c.push.new.self).3 some in
    let error = err_from_is_err_and c.from_residual.result c.from_residual.ensures.1 in
    rw error.1 (put-same key_eq key_eq-same (get key_eq) read c.args.keys.now (c.get_mut.follows.lender c.push.new.self)
    c.args.vote.now.key key c.in-Some.votes.now c.push.new.self there c.in_err-push-in-Some.ensures.err (updates.0 key))

pub returns-in_ok-insert-in-None-clause-ok : goal.returns-in_ok-insert-in-None-clause-ok
returns-in_ok-insert-in-None-clause-ok c key =
    put-new key_eq key_eq-same (get key_eq) read c.args.keys.now c.get_mut.follows.lender-at-none c.insert.new.self c.args.vote.now.key key
    c.in_ok-votes-in-None.votes (c.args.vote.now ∷ []) c.get_mut.follows.holds-at-none c.in-None.ensures.value refl c.in_ok-votes-in-None.ensures
    (c.in_ok-insert-in-None.ensures.updates.0 key)
