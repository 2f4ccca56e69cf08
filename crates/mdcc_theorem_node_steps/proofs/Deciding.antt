-- What a vote decides, of an open transaction or of a watched one.
use Rattle.std.proofs.Common.{◌≡◌, true, List, refl, ap, sym, ◌∙◌, Option, Some, None}
use Rattle.std.specs.List.{AllByRecursion}
use Rattle.std.specs.Prelude.{option_and_then, option_map}
use Rattle.mdcc_base.specs.Sizes.{Sizes}
use Rattle.mdcc_base.specs.declared.identifiers.TxId.{TxId}
use Rattle.mdcc_base.specs.declared.key.Key.{Key}
use Rattle.mdcc_option.specs.declared.choices.Choice.{Choice}
use Rattle.mdcc_option.specs.declared.choices.Mark.{Mark}
use Rattle.mdcc_option.specs.declared.choices.Outcome.{Outcome}
use Rattle.mdcc_option.specs.declared.cluster.Cluster.{Cluster}
use Rattle.mdcc_def_protocol.specs.Belongs.{choice_belongs, outcome_belongs}
use Rattle.mdcc_def_protocol.specs.Learner.{decision_of, with_counted_vote}
use Rattle.mdcc_def_protocol.specs.Manager
use Rattle.mdcc_def_protocol.specs.Manager.{keys_of_choices}
use Rattle.mdcc_def_protocol.specs.Recover
use Rattle.mdcc_def_protocol.specs.Recover.{keys_watched, on_voted_by}
use Rattle.mdcc_def_protocol.specs.Volatile.{Managing, Recovering, Undecided, is_opened, opened_of}
use Rattle.mdcc_def_messages.specs.declared.facts.Fact.{Fact}
use Rattle.mdcc_def_protocol.specs.declared.votes.Vote.{Vote}
use Rattle.mdcc_theorem_node_steps.specs.AddedFacts.{IsVoteOf}
use Rattle.mdcc_theorem_node_steps.proofs.Decided.{IsCounted, decided-choices, each-with_vote, matched-each}
use Rattle.mdcc_theorem_node_steps.proofs.Each.{each-all}

-- votes that are all such decide this of a transaction with these keys
pub record IsDecidedBy (P : Vote → Type 0) (quorums : Sizes) (tx : TxId) (keys : List Key) (outcome : Outcome) : Type 0 where
  pub votes : List Vote
  pub each : AllByRecursion P votes
  pub decided : decision_of quorums votes tx keys ≡ Some outcome

-- an open transaction that is decided
pub record IsOpenDecided (P : Vote → Type 0) (quorums : Sizes) (manager : Managing) (tx : TxId) (outcome : Outcome) : Type 0 where
  pub opened : Undecided
  pub is : opened_of manager tx ≡ Some opened
  pub by : IsDecidedBy P quorums tx (keys_of_choices opened.choices) outcome

pub open-decided : (P : Vote → Type 0) (quorums : Sizes) (manager : Managing) (vote : Vote) (outcome : Outcome)
    → AllByRecursion P manager.votes → P vote → is_opened manager vote.tx ≡ true
    → Manager.would_decide quorums manager vote ≡ Some outcome → IsOpenDecided P quorums manager vote.tx outcome
open-decided P quorums manager vote outcome h k open_here e =
    let taken : Manager.decision quorums (record manager { votes = with_counted_vote quorums manager.votes vote }) vote.tx ≡ Some outcome = rw open_here at e in
    by_opened (opened_of manager vote.tx) refl taken
  where
    by_opened : (o : Option Undecided) → opened_of manager vote.tx ≡ o
        → option_and_then (λ (t : Undecided). decision_of quorums (with_counted_vote quorums manager.votes vote) vote.tx (keys_of_choices t.choices)) o ≡ Some outcome
        → IsOpenDecided P quorums manager vote.tx outcome
    by_opened None f g = absurd (cc)
    by_opened (Some t) f g = record {
      opened = t;
      is = f;
      by = record { votes = with_counted_vote quorums manager.votes vote; each = each-with_vote P quorums manager.votes vote h k; decided = g };
    }

-- a watched transaction that is decided
pub record IsWatchedDecided (P : Vote → Type 0) (quorums : Sizes) (facts : List Fact) (recovery : Recovering) (tx : TxId) (decided : TxId × Outcome) : Type 0 where
  pub keys : List Key
  pub is : keys_watched facts recovery tx ≡ Some keys
  pub same : decided.0 ≡ tx
  pub by : IsDecidedBy P quorums tx keys decided.1

pub watched-decided : (P : Vote → Type 0) (quorums : Sizes) (facts : List Fact) (recovery : Recovering) (vote : Vote) (decided : TxId × Outcome)
    → AllByRecursion P recovery.votes → P vote
    → Recover.would_decide quorums facts recovery vote ≡ Some decided → IsWatchedDecided P quorums facts recovery vote.tx decided
watched-decided P quorums facts recovery vote decided h k e = by_keys (keys_watched facts recovery vote.tx) refl e
  where
    by_outcome : (keys : List Key) → keys_watched facts recovery vote.tx ≡ Some keys
        → (o : Option Outcome) → decision_of quorums (with_counted_vote quorums recovery.votes vote) vote.tx keys ≡ o
        → option_map (λ (outcome : Outcome). (vote.tx, outcome)) o ≡ Some decided
        → IsWatchedDecided P quorums facts recovery vote.tx decided
    by_outcome keys f None g i = absurd (cc)
    by_outcome keys f (Some outcome) g i =
        let pair : (vote.tx, outcome) ≡ decided = cc in
        record {
          keys = keys;
          is = f;
          same = sym (ap (λ (d : TxId × Outcome). d.0) pair);
          by = record {
            votes = with_counted_vote quorums recovery.votes vote;
            each = each-with_vote P quorums recovery.votes vote h k;
            decided = g ∙ ap Some (ap (λ (d : TxId × Outcome). d.1) pair);
          };
        }

    by_keys : (o : Option (List Key)) → keys_watched facts recovery vote.tx ≡ o → (on_voted_by quorums recovery vote o).0 ≡ Some decided
        → IsWatchedDecided P quorums facts recovery vote.tx decided
    by_keys None f g = absurd (cc)
    by_keys (Some keys) f g = by_outcome keys f (decision_of quorums (with_counted_vote quorums recovery.votes vote) vote.tx keys) refl g

-- ---- what is decided is of the cluster

own-belongs : (cluster : Cluster) (tx : TxId) (key : Key) (choice : Choice) → IsCounted (IsVoteOf cluster) tx key (Mark.Accept choice) → choice_belongs cluster choice ≡ true
own-belongs cluster tx key choice h = rw h.is at h.holds

pub decided-belongs : (cluster : Cluster) (quorums : Sizes) (tx : TxId) (keys : List Key) (outcome : Outcome) → IsDecidedBy (IsVoteOf cluster) quorums tx keys outcome
    → outcome_belongs cluster outcome ≡ true
decided-belongs cluster quorums tx keys Outcome.Abort h = refl
decided-belongs cluster quorums tx keys (Outcome.Commit choices) h =
    each-all (choice_belongs cluster) choices (matched-each (λ key choice. choice_belongs cluster choice ≡ true) (λ choice. choice_belongs cluster choice ≡ true) keys choices (λ key choice k. k)
    (decided-choices (IsVoteOf cluster) (λ key choice. choice_belongs cluster choice ≡ true) quorums h.votes tx keys choices (own-belongs cluster tx) h.each h.decided))
