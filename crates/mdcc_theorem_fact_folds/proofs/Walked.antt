-- Each question of outcomes, promises and votes is gathered from facts.
use Rattle.std.proofs.Common.{◌≡◌, ℕ, Bool, true, List, [], ◌∷◌, Option, Some, None, is_some, refl, sym, ap, ◌∙◌, inl, inr, fold, false}
use Rattle.std.specs.List.{list_any}
use Rattle.std.specs.Option.{option_map, option_or}
use Rattle.std.specs.Prelude.{filter, not}
use Rattle.std.proofs.lemmas.Bool.{and_parts, cases_Bool}
use Rattle.mdcc_base.specs.Ballot.{ballot_max, fast_ballot}
use Rattle.mdcc_base.specs.declared.identifiers.Ballot.{Ballot}
use Rattle.mdcc_base.specs.declared.identifiers.TxId.{TxId}
use Rattle.mdcc_base.specs.declared.key.Key.{Key}
use Rattle.mdcc_option.specs.declared.choices.Outcome.{Outcome}
use Rattle.mdcc_def_protocol.specs.Facts.{ballot_promised, ballot_voted, choice_voted, first_choice_voted, heard_of, is_heard, last_ballot, last_vote, later_vote, mark_voted, outcome_in, promise_of, promised_through, range_promised}
use Rattle.mdcc_def_protocol.specs.Marks.{is_abort, is_commit}
use Rattle.mdcc_struct.proofs.Order.{tx_eq-same}
use Rattle.mdcc_base.specs.TxId.{tx_eq}
use Rattle.mdcc_facts.specs.Adding.{is_heard_before}
use Rattle.mdcc_def_protocol.specs.Plain.{plain_ended_of}
use Rattle.mdcc_def_messages.specs.declared.facts.Fact.{Fact}
use Rattle.mdcc_theorem_fact_folds.specs.Chains.{Covers, is_heard_of, is_promise_of, is_vote_in}
use Rattle.mdcc_theorem_fact_folds.specs.Outcomes.{EndedByWalk, HeardAtFirst, HeardByWalk, HeardInChain, IsHeardByWalk, IsVoidByWalk, are_heard_once, first_outcome}
use Rattle.mdcc_theorem_fact_folds.specs.Promises.{EpochUpdates, PromiseByWalks, PromisedByWalk, PromisedInChain, with_promised_ballot}
use Rattle.mdcc_theorem_fact_folds.specs.Votes.{ChoiceByWalk, ChoiceInChain, VoteByWalk, VoteInChain, VotedBelowByWalk, VotedBelowInChain}
use Rattle.mdcc_theorem_fact_folds.proofs.Chosen.{later_assoc, later_left, later_right, max_assoc, max_both, max_first, max_left, max_right, or_assoc, or_left, or_right}
use Rattle.mdcc_theorem_fact_folds.proofs.Folded.{folded, folded-from, gathered, gathered-chain, gathered-walk}
use Rattle.mdcc_theorem_fact_folds.proofs.Ignored.{left_out, no_ballot, no_choice, no_mark, no_outcome, no_promise, no_range}

-- ---- outcomes

heard-gathered : (tx : TxId) (facts : List Fact) → heard_of facts tx ≡ gathered option_or None (outcome_in tx) facts
heard-gathered tx [] = refl
heard-gathered tx (fact ∷ facts) = ap (λ o. option_or o (outcome_in tx fact)) (heard-gathered tx facts)

pub heard-walk : HeardByWalk
heard-walk keep tx covers facts =
    heard-gathered tx facts
    ∙ gathered-walk option_or None (outcome_in tx) or_left or_right or_assoc keep (λ fact left. no_outcome tx fact (left_out keep (is_heard_of tx) covers fact left)) facts

pub heard-chain : HeardInChain
heard-chain keep tx covers facts =
    heard-gathered tx facts
    ∙ gathered-chain option_or None (outcome_in tx) or_left or_right or_assoc keep (λ fact left. no_outcome tx fact (left_out keep (is_heard_of tx) covers fact left)) facts
    ∙ sym (heard-gathered tx (filter keep facts))

ended-or : (a b : Option Outcome) → option_map is_commit (option_or a b) ≡ option_or (option_map is_commit a) (option_map is_commit b)
ended-or None b = refl
ended-or (Some a) b = refl

ended-gathered : (tx : TxId) (facts : List Fact) → plain_ended_of facts tx ≡ gathered option_or None (λ fact. option_map is_commit (outcome_in tx fact)) facts
ended-gathered tx [] = refl
ended-gathered tx (fact ∷ facts) =
    ended-or (heard_of facts tx) (outcome_in tx fact)
    ∙ ap (λ o. option_or o (option_map is_commit (outcome_in tx fact))) (ended-gathered tx facts)

pub ended-walk : EndedByWalk
ended-walk keep tx covers facts =
    ended-gathered tx facts
    ∙ gathered-walk option_or None (λ fact. option_map is_commit (outcome_in tx fact)) or_left or_right or_assoc keep
    (λ fact left. ap (λ o. option_map is_commit o) (no_outcome tx fact (left_out keep (is_heard_of tx) covers fact left))) facts

some-or : {X : Type 0} (a b : Option X) → is_some b ≡ true → is_some (option_or a b) ≡ true
some-or None b h = h
some-or (Some a) b h = refl

says_outcome : (tx : TxId) (fact : Fact) → is_heard_of tx fact ≡ true → is_some (outcome_in tx fact) ≡ true
says_outcome tx (Fact.Booted epoch) h = absurd (cc)
says_outcome tx (Fact.Floor origin era upto) h = absurd (cc)
says_outcome tx (Fact.Promised k low high b) h = absurd (cc)
says_outcome tx (Fact.Voted k v b options offered) h = absurd (cc)
says_outcome tx (Fact.Heard t outcome) h = rw h refl
says_outcome tx (Fact.Adopted k v item adds) h = absurd (cc)

heard-any : (tx : TxId) (facts : List Fact) → is_heard facts tx ≡ list_any (is_heard_of tx) facts
heard-any tx [] = refl
heard-any tx (fact ∷ facts) =
    elim (cases_Bool (is_heard_of tx fact)) [
      | inl does ↦ rw does (some-or (heard_of facts tx) (outcome_in tx fact) (says_outcome tx fact does))
      | inr not ↦ rw (not, no_outcome tx fact not, or_right (heard_of facts tx)) (heard-any tx facts)
    ]

pub is_heard-walk : IsHeardByWalk
is_heard-walk keep tx covers facts = ap (λ o. is_some o) (heard-chain keep tx covers facts) ∙ heard-any tx (filter keep facts)

pub is_void-walk : IsVoidByWalk
is_void-walk keep tx covers facts = ap is_abort (heard-walk keep tx covers facts)

-- ---- heard at most once

or-none : {X : Type 0} (a b : Option X) → is_some a ≡ false → option_or a b ≡ option_or b a
or-none None b h = sym (or_right b)
or-none (Some x) b h = absurd (cc)

heard-apart : (tx : TxId) (facts : List Fact) (fact : Fact) → is_heard_before facts fact ≡ false
    → option_or (heard_of facts tx) (outcome_in tx fact) ≡ option_or (outcome_in tx fact) (heard_of facts tx)
heard-apart tx facts (Fact.Booted epoch) h = or_right (heard_of facts tx)
heard-apart tx facts (Fact.Floor origin era upto) h = or_right (heard_of facts tx)
heard-apart tx facts (Fact.Promised k low high b) h = or_right (heard_of facts tx)
heard-apart tx facts (Fact.Voted k v b options offered) h = or_right (heard_of facts tx)
heard-apart tx facts (Fact.Heard t outcome) h =
    elim (cases_Bool (tx_eq t tx)) [
      | inl same ↦
          let none : is_heard facts tx ≡ false = ap (is_heard facts) (sym (tx_eq-same t tx same)) ∙ h in
          or-none (heard_of facts tx) (outcome_in tx (Fact.Heard t outcome)) none
      | inr other ↦ rw other (or_right (heard_of facts tx))
    ]
heard-apart tx facts (Fact.Adopted k v item adds) h = or_right (heard_of facts tx)

not_true : (b : Bool) → not b ≡ true → b ≡ false
not_true false h = refl
not_true true h = absurd (cc)

heard-first : (tx : TxId) (facts : List Fact) → are_heard_once facts ≡ true → heard_of facts tx ≡ first_outcome tx facts
heard-first tx [] once = refl
heard-first tx (fact ∷ facts) once =
    let parts = and_parts (not (is_heard_before facts fact)) (are_heard_once facts) once in
    heard-apart tx facts fact (not_true (is_heard_before facts fact) parts.0)
    ∙ ap (λ o. option_or (outcome_in tx fact) o) (heard-first tx facts parts.1)

first-chain : (keep : Fact → Bool) (tx : TxId) → Covers keep (is_heard_of tx) → (facts : List Fact) → first_outcome tx facts ≡ first_outcome tx (filter keep facts)
first-chain keep tx covers [] = refl
first-chain keep tx covers (fact ∷ facts) =
    let ih = first-chain keep tx covers facts in
    elim (cases_Bool (keep fact)) [
      | inl kept ↦ rw kept (ap (λ o. option_or (outcome_in tx fact) o) ih)
      | inr left ↦ rw (left, no_outcome tx fact (left_out keep (is_heard_of tx) covers fact left)) ih
    ]

pub heard-at_first : HeardAtFirst
heard-at_first keep tx covers facts once = heard-first tx facts once ∙ first-chain keep tx covers facts

-- ---- promises and epochs

promised-gathered : (key : Key) (version : ℕ) (ballot : Ballot) (facts : List Fact)
    → promised_through facts key version ballot ≡ gathered option_or None (range_promised key version ballot) facts
promised-gathered key version ballot [] = refl
promised-gathered key version ballot (fact ∷ facts) = ap (λ o. option_or o (range_promised key version ballot fact)) (promised-gathered key version ballot facts)

pub promised-walk : PromisedByWalk
promised-walk keep key version ballot covers facts =
    promised-gathered key version ballot facts
    ∙ gathered-walk option_or None (range_promised key version ballot) or_left or_right or_assoc keep
    (λ fact left. no_range key version ballot fact (left_out keep (is_promise_of key) covers fact left)) facts

pub promised-chain : PromisedInChain
promised-chain keep key version ballot covers facts =
    promised-gathered key version ballot facts
    ∙ gathered-chain option_or None (range_promised key version ballot) or_left or_right or_assoc keep
    (λ fact left. no_range key version ballot fact (left_out keep (is_promise_of key) covers fact left)) facts
    ∙ sym (promised-gathered key version ballot (filter keep facts))

promise-gathered : (key : Key) (version : ℕ) (facts : List Fact) → promise_of facts key version ≡ gathered ballot_max fast_ballot (ballot_promised key version) facts
promise-gathered key version [] = refl
promise-gathered key version (fact ∷ facts) = ap (λ b. ballot_max b (ballot_promised key version fact)) (promise-gathered key version facts)

-- a fact counts once, though it stands in both chains
module _ (of_key of_instance : Fact → Bool) (key : Key) (version : ℕ) (covers_key : Covers of_key (is_promise_of key)) (covers_instance : Covers of_instance (is_vote_in key version)) where
  abbrev promised_in : List Fact → Ballot
  promised_in facts = gathered ballot_max fast_ballot (ballot_promised key version) facts

  promise-parts : (facts : List Fact) → promised_in facts ≡ ballot_max (promised_in (filter of_instance facts)) (promised_in (filter of_key facts))
  promise-parts [] = sym (max_left fast_ballot)
  promise-parts (fact ∷ facts) =
      let ih = promise-parts facts in
      let here = ballot_promised key version fact in
      let a = promised_in (filter of_instance facts) in
      let b = promised_in (filter of_key facts) in
      ap (λ m. ballot_max m here) ih
      ∙ elim (cases_Bool (of_instance fact)) [
        | inl i ↦ elim (cases_Bool (of_key fact)) [
          | inl k ↦ rw (i, k) (sym (max_both a b here))
          | inr k ↦ rw (i, k) (sym (max_first a b here))
        ]
        | inr i ↦ elim (cases_Bool (of_key fact)) [
          | inl k ↦ rw (i, k) (max_assoc a b here)
          | inr k ↦
              let none = no_promise key version fact (left_out of_key (is_promise_of key) covers_key fact k) (left_out of_instance (is_vote_in key version) covers_instance fact i) in
              rw (i, k) (ap (λ m. ballot_max (ballot_max a b) m) none ∙ max_right (ballot_max a b))
        ]
      ]

pub promise-walks : PromiseByWalks
promise-walks of_key of_instance key version covers_key covers_instance facts =
    promise-gathered key version facts
    ∙ promise-parts of_key of_instance key version covers_key covers_instance facts
    ∙ ap (λ b. ballot_max (gathered ballot_max fast_ballot (ballot_promised key version) (filter of_instance facts)) b)
    (folded ballot_max fast_ballot (ballot_promised key version) max_left max_right max_assoc (filter of_key facts))
    ∙ sym (folded-from ballot_max fast_ballot (ballot_promised key version) max_left max_right max_assoc
    (fold (with_promised_ballot key version) fast_ballot (filter of_key facts)) (filter of_instance facts))

pub epoch-updates : EpochUpdates
epoch-updates facts (Fact.Booted epoch) = refl
epoch-updates facts (Fact.Floor origin era upto) = refl
epoch-updates facts (Fact.Promised k low high b) = refl
epoch-updates facts (Fact.Voted k v b options offered) = refl
epoch-updates facts (Fact.Heard t outcome) = refl
epoch-updates facts (Fact.Adopted k v item adds) = refl

-- ---- votes

vote-gathered : (key : Key) (version : ℕ) (tx : TxId) (facts : List Fact) → last_vote facts key version tx ≡ gathered later_vote None (mark_voted key version tx) facts
vote-gathered key version tx [] = refl
vote-gathered key version tx (fact ∷ facts) = ap (λ v. later_vote v (mark_voted key version tx fact)) (vote-gathered key version tx facts)

pub vote-walk : VoteByWalk
vote-walk keep key version tx covers facts =
    vote-gathered key version tx facts
    ∙ gathered-walk later_vote None (mark_voted key version tx) later_left later_right later_assoc keep
    (λ fact left. no_mark key version tx fact (left_out keep (is_vote_in key version) covers fact left)) facts

pub vote-chain : VoteInChain
vote-chain keep key version tx covers facts =
    vote-gathered key version tx facts
    ∙ gathered-chain later_vote None (mark_voted key version tx) later_left later_right later_assoc keep
    (λ fact left. no_mark key version tx fact (left_out keep (is_vote_in key version) covers fact left)) facts
    ∙ sym (vote-gathered key version tx (filter keep facts))

below-gathered : (key : Key) (version : ℕ) (below : Ballot) (facts : List Fact) → last_ballot facts key version below ≡ gathered ballot_max fast_ballot (ballot_voted key version below) facts
below-gathered key version below [] = refl
below-gathered key version below (fact ∷ facts) = ap (λ b. ballot_max b (ballot_voted key version below fact)) (below-gathered key version below facts)

pub below-walk : VotedBelowByWalk
below-walk keep key version below covers facts =
    below-gathered key version below facts
    ∙ gathered-walk ballot_max fast_ballot (ballot_voted key version below) max_left max_right max_assoc keep
    (λ fact left. no_ballot key version below fact (left_out keep (is_vote_in key version) covers fact left)) facts

pub below-chain : VotedBelowInChain
below-chain keep key version below covers facts =
    below-gathered key version below facts
    ∙ gathered-chain ballot_max fast_ballot (ballot_voted key version below) max_left max_right max_assoc keep
    (λ fact left. no_ballot key version below fact (left_out keep (is_vote_in key version) covers fact left)) facts
    ∙ sym (below-gathered key version below (filter keep facts))

choice-gathered : (key : Key) (version : ℕ) (tx : TxId) (facts : List Fact) → first_choice_voted facts key version tx ≡ gathered option_or None (choice_voted key version tx) facts
choice-gathered key version tx [] = refl
choice-gathered key version tx (fact ∷ facts) = ap (λ o. option_or o (choice_voted key version tx fact)) (choice-gathered key version tx facts)

pub choice-walk : ChoiceByWalk
choice-walk keep key version tx covers facts =
    choice-gathered key version tx facts
    ∙ gathered-walk option_or None (choice_voted key version tx) or_left or_right or_assoc keep
    (λ fact left. no_choice key version tx fact (left_out keep (is_vote_in key version) covers fact left)) facts

pub choice-chain : ChoiceInChain
choice-chain keep key version tx covers facts =
    choice-gathered key version tx facts
    ∙ gathered-chain option_or None (choice_voted key version tx) or_left or_right or_assoc keep
    (λ fact left. no_choice key version tx fact (left_out keep (is_vote_in key version) covers fact left)) facts
    ∙ sym (choice-gathered key version tx (filter keep facts))
