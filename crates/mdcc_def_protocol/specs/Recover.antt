-- The recovery of dangling transactions: those with a vote here whose outcome was not heard and that are not open here. (After MDCC; at which ticks what is done is our own rule.)
use Rattle.std.specs.List.{reduce}
use Rattle.std.specs.Option.{option_or}
use Rattle.std.specs.Prelude.{List, None, Option, Some, [], filter, filter_map, flat_map, fold, if◌then◌else◌, map, nat_le, not, option_map, unwrap_or, ℕ, ◌%◌, ◌&&◌, ◌==◌}
use Rattle.mdcc_base.specs.Sizes.{Sizes}
use Rattle.mdcc_base.specs.declared.identifiers.TxId.{TxId}
use Rattle.mdcc_base.specs.declared.key.Key.{Key}
use Rattle.mdcc_option.specs.declared.choices.Choice.{Choice}
use Rattle.mdcc_option.specs.declared.choices.Claim.{Claim}
use Rattle.mdcc_option.specs.declared.choices.Outcome.{Outcome}
use Rattle.mdcc_struct.specs.Maps.{TxMap, value_of}
use Rattle.mdcc_def_protocol.specs.Facts.{choice_known, unresolved_of}
use Rattle.mdcc_def_protocol.specs.Fit.{has_tx}
use Rattle.mdcc_def_protocol.specs.Learner.{decision_of, is_learned, votes_on, with_counted_vote}
use Rattle.mdcc_def_protocol.specs.Marks.{choice_in}
use Rattle.mdcc_def_protocol.specs.Volatile.{Recovering, counter_of, is_watched, next_count, with_counter}
use Rattle.mdcc_def_messages.specs.declared.facts.Fact.{Fact}
use Rattle.mdcc_def_protocol.specs.declared.recover.RecoverAct.{RecoverAct}
use Rattle.mdcc_def_protocol.specs.declared.votes.Vote.{Vote}

-- ---- votes

-- the keys of a watched transaction
abbrev pub keys_watched : List Fact → Recovering → TxId → Option (List Key)
keys_watched facts recovery tx =
    if is_watched recovery tx then option_map (λ write_set. map (λ e. e.0) write_set) (value_of (unresolved_of facts) tx) else None

-- a vote is taken
abbrev pub watched_vote : Sizes → Recovering → Vote → Recovering
watched_vote quorums recovery vote = record recovery { votes = with_counted_vote quorums recovery.votes vote }

-- by the keys of the vote's transaction, where it is watched
abbrev pub on_voted_by : Sizes → Recovering → Vote → Option (List Key) → Option (TxId × Outcome) × Recovering
on_voted_by quorums recovery vote None = (None, recovery)
on_voted_by quorums recovery vote (Some keys) =
    let taken = watched_vote quorums recovery vote in
    (option_map (λ outcome. (vote.tx, outcome)) (decision_of quorums taken.votes vote.tx keys), taken)

-- the outcome that a vote on a watched transaction decides, and what is left
abbrev pub on_voted : Sizes → List Fact → Recovering → Vote → Option (TxId × Outcome) × Recovering
on_voted quorums facts recovery vote = on_voted_by quorums recovery vote (keys_watched facts recovery vote.tx)

-- what a vote would decide
abbrev pub would_decide : Sizes → List Fact → Recovering → Vote → Option (TxId × Outcome)
would_decide quorums facts recovery vote = (on_voted quorums facts recovery vote).0

-- ---- the tick

-- the choice that a vote accepts at a version
abbrev pub choice_accepted : ℕ → Vote → Option Choice
choice_accepted version vote = if vote.version == version then choice_in vote.mark else None

-- the choice of an instance that a counted vote accepts
abbrev pub choice_received : List Vote → TxId → Key → ℕ → Option Choice
choice_received votes tx key version = reduce (λ a b. a) (filter_map (choice_accepted version) (votes_on votes tx key))

-- the claim of a transaction at a key, with the choice where a counted vote or an own vote has it
abbrev pub claim_of_key : List Fact → Recovering → TxId → Key × ℕ → Claim
claim_of_key facts recovery tx (key, version) = record {
  tx = tx;
  key = key;
  version = version;
  choice = option_or (choice_received recovery.votes tx key version) (choice_known facts key version tx);
}

abbrev pub ask_of : TxId → Key × ℕ → RecoverAct
ask_of tx (key, version) = RecoverAct.Ask tx key version

-- the keys of a write set that are not learned are led here
abbrev pub keys_led : Sizes → List Fact → Recovering → TxId → List (Key × ℕ) → List RecoverAct
keys_led quorums facts recovery tx write_set =
    map (λ e. RecoverAct.LeadHere (claim_of_key facts recovery tx e)) (filter (λ e. not (is_learned quorums recovery.votes tx e.0)) write_set)

-- the second tick asks all centres, the fourth and each later even one leads
abbrev pub acts_on : Sizes → List Fact → Recovering → TxId × List (Key × ℕ) → List RecoverAct
acts_on quorums facts recovery (tx, write_set) =
    let n = next_count (counter_of recovery tx) in
    if n == 2 then map (ask_of tx) write_set
    else (if nat_le 4 n && n % 2 == 0 then keys_led quorums facts recovery tx write_set else [])

-- the unresolved transactions that are not open here, ascending
abbrev pub dangling : List Fact → List TxId → TxMap (List (Key × ℕ))
dangling facts opened = filter (λ e. not (has_tx opened e.0)) (unresolved_of facts)

-- the counter of a transaction rises
abbrev pub counted_tick : TxMap ℕ → TxId × List (Key × ℕ) → TxMap ℕ
counted_tick counters e = with_counter counters (e.0, next_count (unwrap_or (value_of counters e.0) 0))

-- what the recovery does at a tick for each of them in order, and leaves
abbrev pub tick : Sizes → List Fact → Recovering → List TxId → List RecoverAct × Recovering
tick quorums facts recovery opened =
    let txs = dangling facts opened in
    (flat_map (acts_on quorums facts recovery) txs, record recovery { counters = fold counted_tick recovery.counters txs })
