-- What counted votes decide: each choice of a commit is that of a counted vote.
use Rattle.std.proofs.Common.{◌≡◌, ◌&&◌, Bool, true, false, cond, List, [], ◌∷◌, refl, inl, inr, Option, Some, None, is_some, filter, filter_map, map}
use Rattle.std.specs.List.{AllByRecursion, list_all, list_any, reduce}
use Rattle.std.specs.Prelude.{option_and_then, option_map}
use Rattle.std.proofs.lemmas.Bool.{and_parts, cases_Bool, or_parts}
use Rattle.mdcc_base.specs.Ballot.{ballot_lt}
use Rattle.mdcc_base.specs.Key.{key_eq}
use Rattle.mdcc_base.specs.Sizes.{Sizes}
use Rattle.mdcc_base.specs.TxId.{tx_eq}
use Rattle.mdcc_base.specs.declared.identifiers.TxId.{TxId}
use Rattle.mdcc_base.specs.declared.key.Key.{Key}
use Rattle.mdcc_option.specs.declared.choices.Choice.{Choice}
use Rattle.mdcc_option.specs.declared.choices.Mark.{Mark}
use Rattle.mdcc_option.specs.declared.choices.Outcome.{Outcome}
use Rattle.mdcc_def_protocol.specs.Learner.{decision_of, has_quorum, is_counted, learned, lower_vote, votes_on, with_counted_vote}
use Rattle.mdcc_def_protocol.specs.Marks.{choice_in, is_reject_found}
use Rattle.mdcc_def_protocol.specs.declared.votes.Vote.{Vote}
use Rattle.mdcc_theorem_node_steps.proofs.Each.{each-append, each-filter, each-kept, each-reduced}

-- a vote of the transaction on the key with this mark
pub record IsCounted (P : Vote → Type 0) (tx : TxId) (key : Key) (mark : Mark) : Type 0 where
  pub vote : Vote
  pub holds : P vote
  pub on : (tx_eq vote.tx tx && key_eq vote.key key) ≡ true
  pub is : vote.mark ≡ mark

lower : (P : Vote → Type 0) (a b : Vote) → P a → P b → P (lower_vote a b)
lower P a b h k = elim (cases_Bool (ballot_lt b.ballot a.ballot)) [ inl e ↦ rw e k | inr e ↦ rw e h ]

-- what is learned is the mark of a counted vote
pub learned-counted : (P : Vote → Type 0) (quorums : Sizes) (votes : List Vote) (tx : TxId) (key : Key) (mark : Mark)
    → AllByRecursion P votes → learned quorums votes tx key ≡ Some mark → IsCounted P tx key mark
learned-counted P quorums votes tx key mark h e = by_vote (reduce lower_vote (filter (has_quorum quorums on) on)) refl e
  where
    on : List Vote
    on = votes_on votes tx key

    Q : Vote → Type 0
    Q vote = P vote × ((tx_eq vote.tx tx && key_eq vote.key key) ≡ true)

    by_vote : (o : Option Vote) → reduce lower_vote (filter (has_quorum quorums on) on) ≡ o → option_map (λ vote. vote.mark) o ≡ Some mark → IsCounted P tx key mark
    by_vote None f g = absurd (cc)
    by_vote (Some vote) f g =
        let found = each-reduced Q lower_vote (filter (has_quorum quorums on) on) vote (λ a b. lower Q a b)
        (each-kept Q (has_quorum quorums on) on (each-filter P (λ vote. tx_eq vote.tx tx && key_eq vote.key key) votes h)) f in
        let same : vote.mark ≡ mark = cc in
        record { vote = vote; holds = found.0; on = found.1; is = same }

-- choices for keys, one for each in their order
abbrev pub AreMatched : {K C : Type 0} → (K → C → Type 0) → List K → List C → Type 0
AreMatched Q [] [] = Unit {0}
AreMatched Q (k ∷ ks) (c ∷ cs) = Q k c × AreMatched Q ks cs
AreMatched Q _ _ = ⊥

pub committed : (f : Key → Option Mark) (Q : Key → Choice → Type 0) → ((key : Key) (choice : Choice) → f key ≡ Some (Mark.Accept choice) → Q key choice)
    → (keys : List Key) → list_any is_reject_found (map f keys) ≡ false → list_all is_some (map f keys) ≡ true
    → AreMatched Q keys (filter_map (λ mark. option_and_then choice_in mark) (map f keys))
committed f Q own [] some all = tt
committed f Q own (key ∷ keys) some all =
    let none = or_parts (is_reject_found (f key)) (list_any is_reject_found (map f keys)) some in
    let each = and_parts (is_some (f key)) (list_all is_some (map f keys)) all in
    by_mark (f key) refl none.0 each.0 (committed f Q own keys none.1 each.1)
  where
    by_mark : (o : Option Mark) → f key ≡ o → is_reject_found (f key) ≡ false → is_some (f key) ≡ true
        → AreMatched Q keys (filter_map (λ mark. option_and_then choice_in mark) (map f keys))
        → AreMatched Q (key ∷ keys) (filter_map (λ mark. option_and_then choice_in mark) (map f (key ∷ keys)))
    by_mark None e r s rest = let bad : false ≡ true = rw e at s in absurd (cc)
    by_mark (Some Mark.Reject) e r s rest = let bad : true ≡ false = rw e at r in absurd (cc)
    by_mark (Some (Mark.Accept choice)) e r s rest = rw e (own key choice e, rest)

-- a transaction that is decided to commit has a choice of a counted vote for each key
pub decided-choices : (P : Vote → Type 0) (Q : Key → Choice → Type 0) (quorums : Sizes) (votes : List Vote) (tx : TxId) (keys : List Key) (choices : List Choice)
    → ((key : Key) (choice : Choice) → IsCounted P tx key (Mark.Accept choice) → Q key choice)
    → AllByRecursion P votes → decision_of quorums votes tx keys ≡ Some (Outcome.Commit choices) → AreMatched Q keys choices
decided-choices P Q quorums votes tx keys choices own h e =
    by_reject (list_any is_reject_found marks) refl (list_all is_some marks) refl e
  where
    f : Key → Option Mark
    f = learned quorums votes tx

    marks : List (Option Mark)
    marks = map f keys

    by_reject : (a : Bool) → list_any is_reject_found marks ≡ a → (b : Bool) → list_all is_some marks ≡ b
        → cond a (Some Outcome.Abort) (cond b (Some (Outcome.Commit (filter_map (λ mark. option_and_then choice_in mark) marks))) None) ≡ Some (Outcome.Commit choices)
        → AreMatched Q keys choices
    by_reject true p b q g = absurd (cc)
    by_reject false p false q g = absurd (cc)
    by_reject false p true q g =
        let same : filter_map (λ mark. option_and_then choice_in mark) marks ≡ choices = cc in
        rw (← same) (committed f Q (λ key choice k. own key choice (learned-counted P quorums votes tx key (Mark.Accept choice) h k)) keys p q)

pub matched-each : {K C : Type 0} (Q : K → C → Type 0) (P : C → Type 0) (ks : List K) (cs : List C) → ((k : K) (c : C) → Q k c → P c) → AreMatched Q ks cs → AllByRecursion P cs
matched-each Q P [] [] f h = tt
matched-each Q P [] (c ∷ cs) f h = absurd h
matched-each Q P (k ∷ ks) [] f h = absurd h
matched-each Q P (k ∷ ks) (c ∷ cs) f h = (f k c h.0, matched-each Q P ks cs f h.1)

-- one more vote
pub each-with_vote : (P : Vote → Type 0) (quorums : Sizes) (votes : List Vote) (vote : Vote) → AllByRecursion P votes → P vote → AllByRecursion P (with_counted_vote quorums votes vote)
each-with_vote P quorums votes vote h k =
    elim (cases_Bool (is_counted quorums votes vote)) [ inl e ↦ rw e (each-append P votes (vote ∷ []) h (k, tt)) | inr e ↦ rw e h ]
