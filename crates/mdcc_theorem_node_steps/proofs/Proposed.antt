-- What an acceptor answers to a well-formed proposal is well-formed.
use Rattle.std.proofs.Common.{◌≡◌, ℕ, ℤ, ◌≤◌, Bool, false, List, [], ◌∷◌, refl, inl, inr, Option, Some, None, find, nat_lt, arith}
use Rattle.std.specs.Int.{IsInRange}
use Rattle.std.specs.List.{AllByRecursion}
use Rattle.std.specs.Prelude.{negsuc, pos}
use Rattle.std.proofs.lemmas.Bool.{cond_both, true≢false}
use Rattle.mdcc_base.specs.Ballot.{fast_ballot, is_fast}
use Rattle.mdcc_base.specs.declared.identifiers.Ballot.{Ballot}
use Rattle.mdcc_option.specs.declared.choices.Cause.{Cause}
use Rattle.mdcc_option.specs.declared.choices.Choice.{Choice}
use Rattle.mdcc_option.specs.declared.choices.Mark.{Mark}
use Rattle.mdcc_option.specs.declared.choices.Outcome.{Outcome}
use Rattle.mdcc_option.specs.declared.cluster.Cluster.{Cluster}
use Rattle.mdcc_option.specs.declared.items.Item.{Item}
use Rattle.mdcc_option.specs.declared.items.Update.{Update}
use Rattle.mdcc_option.specs.declared.schema.Schema.{Schema}
use Rattle.mdcc_def_protocol.specs.Acceptor.{answer_after, answer_by_promise, answer_to_new, fit_of, on_propose, vote_by_fit, vote_on, vote_to_accept, vote_to_reject, answer_by_vote}
use Rattle.mdcc_def_rules.specs.AcceptorRules.{proposed_step}
use Rattle.mdcc_def_protocol.specs.Facts.{base_of, current_of, entries_of, live_of, promise_of, vote_of, is_finished, outcome_kept}
use Rattle.mdcc_def_protocol.specs.Fit.{Quantity, exact_fit, first_number, fit_in_room, fit_in_share, is_past_limit, is_past_room, limit_of, load_of, quantities_of, quantity_at}
use Rattle.mdcc_def_protocol.specs.Marks.{Amounts, seen_in}
use Rattle.mdcc_def_protocol.specs.Structures.{accept_room, reject_room}
use Rattle.mdcc_def_protocol.specs.Volatile.{Volatile}
use Rattle.mdcc_def_messages.specs.WellFormed.{IsWellFormedFact}
use Rattle.mdcc_def_messages.specs.WellFormedParts.{IsWellFormedAmount, IsWellFormedBallot, IsWellFormedCause, IsWellFormedChoice, IsWellFormedClassic, IsWellFormedEntry, IsWellFormedHeard, IsWellFormedInstance, IsWellFormedUpdate}
use Rattle.mdcc_def_protocol.specs.declared.acceptor.ProposeAnswer.{ProposeAnswer}
use Rattle.mdcc_def_messages.specs.declared.facts.Fact.{Fact}
use Rattle.mdcc_def_protocol.specs.declared.fit.Fit.{Fit}
use Rattle.mdcc_def_protocol.specs.declared.fit.Load.{Load}
use Rattle.mdcc_def_messages.specs.declared.messages.Message.{Message}
use Rattle.mdcc_theorem_node_steps.proofs.Each.{each-map, each-weaker}
use Rattle.mdcc_theorem_node_steps.proofs.Held.{HoldsIn, holds-map}
use Rattle.mdcc_theorem_node_steps.proofs.Sending.{IsGoodSent, sent-one}
use Rattle.mdcc_theorem_node_steps.proofs.Told.{IsWellFormedVoteAt, promise-told, vote-told, kept-told}

-- ---- the quantity of a limit is one of five

pub holds-find : {X : Type 0} (P : X → Type 0) (test : X → Bool) (xs : List X) → AllByRecursion P xs → HoldsIn P (find test xs)
holds-find P test [] h = tt
holds-find P test (x ∷ xs) h = cond_both (test x) (Some x) (find test xs) (HoldsIn P) (λ e. h.0) (λ e. holds-find P test xs h.1)

abbrev pub IsSmallFit : Fit → Type 0
IsSmallFit (Fit.Limit quantity) = quantity ≤ 4
IsSmallFit _ = Unit {0}

small-in_room : (o : Option ℕ) → IsSmallFit (fit_in_room o)
small-in_room None = tt
small-in_room (Some number) = tt

small-exact : (cluster : Cluster) (base : Option Item) (load : Load) (update : Update) → IsSmallFit (exact_fit cluster base load update)
small-exact cluster None load (Update.Write item seen) = cond_both (nat_lt 0 load.unseen) Fit.Conflict Fit.Fits IsSmallFit (λ e. tt) (λ e. tt)
small-exact cluster (Some base) load (Update.Write item seen) = cond_both (nat_lt 0 load.unseen) Fit.Conflict Fit.Fits IsSmallFit (λ e. tt) (λ e. tt)
small-exact cluster None load (Update.Add amounts) = tt
small-exact cluster (Some base) load (Update.Add amounts) =
    cond_both (nat_lt 0 load.writes) Fit.Conflict (fit_in_room (first_number is_past_room (quantities_of cluster.schema base load amounts))) IsSmallFit
    (λ e. tt) (λ e. small-in_room (first_number is_past_room (quantities_of cluster.schema base load amounts)))

small-quantity : (schema : Schema) (base : Item) (load : Load) (attribute : ℕ) (amount : ℤ) → attribute ≤ 4 → (quantity_at schema base load (attribute, amount)).number ≤ 4
small-quantity schema base load attribute (pos n) h = h
small-quantity schema base load attribute (negsuc n) h = h

small-quantities : (schema : Schema) (base : Item) (load : Load) (amounts : Amounts) → AllByRecursion IsWellFormedAmount amounts
    → AllByRecursion (λ (q : Quantity). q.number ≤ 4) (quantities_of schema base load amounts)
small-quantities schema base load amounts w = (
  omega arith,
  each-map (λ (q : Quantity). q.number ≤ 4) (quantity_at schema base load) amounts
      (each-weaker IsWellFormedAmount (λ (a : ℕ × ℤ). (quantity_at schema base load a).number ≤ 4) amounts (λ a h. small-quantity schema base load a.0 a.1 h.attribute.1) w),
)

small-limit : (cluster : Cluster) (base : Option Item) (load : Load) (update : Update) → IsWellFormedUpdate update → HoldsIn (λ n. n ≤ 4) (limit_of cluster base load update)
small-limit cluster None load (Update.Write item seen) w = tt
small-limit cluster None load (Update.Add amounts) w = tt
small-limit cluster (Some base) load (Update.Write item seen) w = tt
small-limit cluster (Some base) load (Update.Add amounts) w =
    holds-map (λ n. n ≤ 4) (λ (q : Quantity). q.number) (find (is_past_limit cluster.limit cluster.quorums) (quantities_of cluster.schema base load amounts))
    (holds-find (λ (q : Quantity). q.number ≤ 4) (is_past_limit cluster.limit cluster.quorums) (quantities_of cluster.schema base load amounts) (small-quantities cluster.schema base load amounts w.each))

small-in_share : (fit : Fit) (limit : Option ℕ) → IsSmallFit fit → HoldsIn (λ n. n ≤ 4) limit → IsSmallFit (fit_in_share fit limit)
small-in_share Fit.Fits None h k = tt
small-in_share Fit.Fits (Some number) h k = k
small-in_share Fit.Conflict limit h k = tt
small-in_share (Fit.Limit quantity) limit h k = h
small-in_share (Fit.Breaks quantity) limit h k = tt

small-fit : (cluster : Cluster) (facts : List Fact) (choice : Choice) → IsWellFormedUpdate choice.update → IsSmallFit (fit_of cluster facts choice)
small-fit cluster facts choice w =
    let base = base_of facts choice.key in
    let load = load_of (live_of facts choice.key choice.version) (seen_in choice.update) in
    small-in_share (exact_fit cluster base load choice.update) (limit_of cluster base load choice.update) (small-exact cluster base load choice.update) (small-limit cluster base load choice.update w)

-- ---- the answer

abbrev pub IsFormedAnswer : Choice → ProposeAnswer → Type 0
IsFormedAnswer choice (ProposeAnswer.Known outcome) = IsWellFormedHeard choice.tx outcome
IsFormedAnswer choice ProposeAnswer.Finished = Unit {0}
IsFormedAnswer choice (ProposeAnswer.Again ballot mark) = IsWellFormedVoteAt choice.key choice.version choice.tx (ballot, mark)
IsFormedAnswer choice (ProposeAnswer.Escalate cause) = IsWellFormedCause cause
IsFormedAnswer choice (ProposeAnswer.Vote mark) = IsWellFormedEntry choice.key choice.version choice.tx mark

-- a ballot that is not the fast one is a leader's
pub not_fast-classic : (ballot : Ballot) → IsWellFormedBallot ballot → is_fast ballot ≡ false → IsWellFormedClassic ballot
not_fast-classic ballot (inl e) h = let bad : is_fast fast_ballot ≡ false = rw e at h in absurd (true≢false bad)
not_fast-classic ballot (inr w) h = w

formed-accept : (facts : List Fact) (choice : Choice) → IsWellFormedChoice choice → IsFormedAnswer choice (vote_to_accept facts choice)
formed-accept facts choice w =
    cond_both (nat_lt (entries_of facts choice.key choice.version).0 (accept_room choice.update)) (ProposeAnswer.Vote (Mark.Accept choice)) (ProposeAnswer.Escalate Cause.Full) (IsFormedAnswer choice)
    (λ e. record { choice_itself = w; same_tx = refl; same_key = refl; same_version = refl }) (λ e. tt)

formed-reject : (facts : List Fact) (choice : Choice) → IsWellFormedChoice choice → IsFormedAnswer choice (vote_to_reject facts choice)
formed-reject facts choice w =
    cond_both (nat_lt (entries_of facts choice.key choice.version).1 reject_room) (ProposeAnswer.Vote Mark.Reject) (ProposeAnswer.Escalate Cause.Full) (IsFormedAnswer choice) (λ e. w.tx) (λ e. tt)

formed-by_fit : (facts : List Fact) (choice : Choice) (fit : Fit) → IsWellFormedChoice choice → IsSmallFit fit → IsFormedAnswer choice (vote_by_fit facts choice fit)
formed-by_fit facts choice Fit.Fits w h = formed-accept facts choice w
formed-by_fit facts choice Fit.Conflict w h = formed-reject facts choice w
formed-by_fit facts choice (Fit.Limit quantity) w h = h
formed-by_fit facts choice (Fit.Breaks quantity) w h = formed-reject facts choice w

formed-vote_on : (cluster : Cluster) (facts : List Fact) (choice : Choice) → IsWellFormedChoice choice → IsFormedAnswer choice (vote_on cluster facts choice)
formed-vote_on cluster facts choice w =
    cond_both (nat_lt choice.version (current_of facts choice.key)) (vote_to_reject facts choice) (vote_by_fit facts choice (fit_of cluster facts choice)) (IsFormedAnswer choice)
    (λ e. formed-reject facts choice w) (λ e. formed-by_fit facts choice (fit_of cluster facts choice) w (small-fit cluster facts choice w.update))

formed-by_promise : (cluster : Cluster) (facts : List Fact) (choice : Choice) (promise : Ballot) → IsWellFormedChoice choice → IsWellFormedBallot promise
    → IsFormedAnswer choice (answer_by_promise cluster facts choice promise)
formed-by_promise cluster facts choice promise w h =
    cond_both (is_fast promise) (vote_on cluster facts choice) (ProposeAnswer.Escalate (Cause.Classic promise)) (IsFormedAnswer choice)
    (λ e. formed-vote_on cluster facts choice w) (λ e. not_fast-classic promise h e)

formed-new : (cluster : Cluster) (facts : List Fact) (choice : Choice) → IsWellFormedChoice choice → AllByRecursion IsWellFormedFact facts → IsFormedAnswer choice (answer_to_new cluster facts choice)
formed-new cluster facts choice w known =
    cond_both (nat_lt (current_of facts choice.key) choice.version) (ProposeAnswer.Escalate Cause.Behind)
    (answer_by_promise cluster facts choice (promise_of facts choice.key choice.version)) (IsFormedAnswer choice) (λ e. tt)
    (λ e. formed-by_promise cluster facts choice (promise_of facts choice.key choice.version) w (promise-told facts choice.key choice.version known))

pub formed-answer : (cluster : Cluster) (facts : List Fact) (choice : Choice) → IsWellFormedChoice choice → AllByRecursion IsWellFormedFact facts → IsFormedAnswer choice (on_propose cluster facts choice)
formed-answer cluster facts choice w known =
    by_answer (outcome_kept facts choice.tx) (kept-told facts choice.tx known)
  where
    by_vote : (vote : Option (Ballot × Mark)) → HoldsIn (IsWellFormedVoteAt choice.key choice.version choice.tx) vote → IsFormedAnswer choice (answer_by_vote cluster facts choice vote)
    by_vote (Some vote) k = k
    by_vote None k = formed-new cluster facts choice w known

    by_answer : (o : Option Outcome) → HoldsIn (IsWellFormedHeard choice.tx) o → IsFormedAnswer choice (answer_after cluster facts choice o)
    by_answer (Some outcome) h = h
    by_answer None h =
        cond_both (is_finished facts choice.tx) ProposeAnswer.Finished (answer_by_vote cluster facts choice (vote_of facts choice.key choice.version choice.tx)) (IsFormedAnswer choice) (λ e. tt)
        (λ e. by_vote (vote_of facts choice.key choice.version choice.tx) (vote-told facts choice.key choice.version choice.tx known))

-- ---- what it sends and adds

pub instance-of : (choice : Choice) → IsWellFormedChoice choice → IsWellFormedInstance choice.key choice.version
instance-of choice w = record { key_itself = w.key; version_fits = w.version }

pub proposed-sent : (me : ℕ) (volatile : Volatile) (s : ℕ) (choice : Choice) (answer : ProposeAnswer) → IsInRange 1 9 me → IsInRange 1 9 s → IsWellFormedChoice choice
    → IsFormedAnswer choice answer → AllByRecursion IsGoodSent (proposed_step me volatile s choice answer).sends
proposed-sent me volatile s choice (ProposeAnswer.Known outcome) h k w a = sent-one me s (Message.Outcome choice.tx outcome) tt h k a
proposed-sent me volatile s choice ProposeAnswer.Finished h k w a = sent-one me s (Message.Finished choice.tx) tt h k w.tx
proposed-sent me volatile s choice (ProposeAnswer.Again ballot mark) h k w a =
    sent-one me s (Message.Voted choice.key choice.version ballot choice.tx mark) tt h k (record { instance = instance-of choice w; ballot_itself = a.0; entry = a.1 })
proposed-sent me volatile s choice (ProposeAnswer.Escalate cause) h k w a =
    sent-one me s (Message.Escalate choice.key choice.version choice.tx cause) tt h k (record { instance = instance-of choice w; tx_itself = w.tx; cause_itself = a })
proposed-sent me volatile s choice (ProposeAnswer.Vote mark) h k w a =
    sent-one me s (Message.Voted choice.key choice.version fast_ballot choice.tx mark) tt h k (record { instance = instance-of choice w; ballot_itself = inl refl; entry = a })

pub proposed-fact : (me : ℕ) (volatile : Volatile) (s : ℕ) (choice : Choice) (answer : ProposeAnswer) → IsWellFormedChoice choice
    → IsFormedAnswer choice answer → HoldsIn IsWellFormedFact (proposed_step me volatile s choice answer).fact
proposed-fact me volatile s choice (ProposeAnswer.Known outcome) w a = tt
proposed-fact me volatile s choice ProposeAnswer.Finished w a = tt
proposed-fact me volatile s choice (ProposeAnswer.Again ballot mark) w a = tt
proposed-fact me volatile s choice (ProposeAnswer.Escalate cause) w a = tt
proposed-fact me volatile s choice (ProposeAnswer.Vote (Mark.Accept other)) w a = record {
  instance = instance-of choice w;
  ballot_itself = inl refl;
  options_itself = record { count = omega arith; each = (a, tt); ascending = refl };
  offered_itself = tt;
}
proposed-fact me volatile s choice (ProposeAnswer.Vote Mark.Reject) w a = record {
  instance = instance-of choice w;
  ballot_itself = inl refl;
  options_itself = record { count = omega arith; each = (a, tt); ascending = refl };
  offered_itself = record { choice_itself = w; same_key = refl; same_version = refl };
}
