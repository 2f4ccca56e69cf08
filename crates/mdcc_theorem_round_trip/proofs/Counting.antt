-- Votes of one choice that are counted: what is learned of them, and that they do not collide.
use Rattle.std.proofs.Common.{◌≡◌, ℕ, ◌+◌, ◌-◌, ◌≤◌, ◌&&◌, Bool, true, false, cond, not, List, [], ◌∷◌, ◌++◌, refl, sym, ap, ◌∙◌, subst, inl, inr, arith, filter, fold, map, length, option_map, Some, None, nat_le, nat_lt}
use Rattle.std.specs.List.{AllByRecursion, reduce}
use Rattle.std.proofs.lemmas.Bool.{cases_Bool, leb-true}
use Rattle.mdcc_base.specs.Ballot.{ballot_eq, ballot_lt, fast_ballot, is_fast}
use Rattle.mdcc_base.specs.Counts.{number_of}
use Rattle.mdcc_base.specs.Key.{key_eq}
use Rattle.mdcc_base.specs.Quorums.{quorum_size}
use Rattle.mdcc_base.specs.Sizes.{Sizes}
use Rattle.mdcc_base.specs.TxId.{tx_eq}
use Rattle.mdcc_base.specs.declared.identifiers.TxId.{TxId}
use Rattle.mdcc_base.specs.declared.key.Key.{Key}
use Rattle.mdcc_option.proofs.Equal.{Decides-mark}
use Rattle.mdcc_option.specs.Equality.{mark_eq}
use Rattle.mdcc_option.specs.declared.choices.Choice.{Choice}
use Rattle.mdcc_option.specs.declared.choices.Mark.{Mark}
use Rattle.mdcc_struct.proofs.Order.{tx_eq-refl}
use Rattle.mdcc_def_protocol.specs.Learner.{collided, has_quorum, is_learned, is_out_of_reach, learned, lower_vote, votes_on}
use Rattle.mdcc_def_protocol.specs.Marks.{is_accept}
use Rattle.mdcc_def_protocol.specs.declared.votes.Vote.{Vote}
use Rattle.mdcc_theorem_round_trip.specs.Messages.{vote_counted}
use Rattle.mdcc_theorem_round_trip.proofs.Apart.{of_key}
use Rattle.mdcc_theorem_round_trip.proofs.Lists.{each-any, each-kept, each-map, each-passing, each-weaker, filter-all, filter-none, number-all, number-filter}

-- ---- votes with one mark at the fast ballot

abbrev pub IsFor : Mark → Vote → Type 0
IsFor mark vote = (vote.ballot ≡ fast_ballot) × (vote.mark ≡ mark)

lower-for : (mark : Mark) (a b : Vote) → IsFor mark a → IsFor mark b → IsFor mark (lower_vote a b)
lower-for mark a b h g = elim (cases_Bool (ballot_lt b.ballot a.ballot)) [ inl e ↦ rw e g | inr e ↦ rw e h ]

folded-for : (mark : Mark) (vote : Vote) (votes : List Vote) → IsFor mark vote → AllByRecursion (IsFor mark) votes → IsFor mark (fold lower_vote vote votes)
folded-for mark vote [] h g = h
folded-for mark vote (v ∷ vs) h g = folded-for mark (lower_vote vote v) vs (lower-for mark vote v h g.0) g.1

reduced-for : (mark : Mark) (votes : List Vote) → AllByRecursion (IsFor mark) votes → 1 ≤ length votes → option_map (λ vote. vote.mark) (reduce lower_vote votes) ≡ Some mark
reduced-for mark [] h some = absurd (omega (arith, some))
reduced-for mark (v ∷ vs) h some = ap Some (folded-for mark v vs h.0 h.1).1

same-for : (mark : Mark) (vote other : Vote) → IsFor mark vote → IsFor mark other → (ballot_eq other.ballot vote.ballot && mark_eq other.mark vote.mark) ≡ true
same-for mark vote other h g = rw (h.0, h.1, g.0, g.1, (Decides-mark mark mark).1 refl) refl

quorum-for : (quorums : Sizes) (mark : Mark) (votes : List Vote) (vote : Vote) → AllByRecursion (IsFor mark) votes → IsFor mark vote
    → has_quorum quorums votes vote ≡ nat_le quorums.fast (length votes)
quorum-for quorums mark votes vote h k =
    let all = number-all (λ other. ballot_eq other.ballot vote.ballot && mark_eq other.mark vote.mark) votes
    (each-weaker (IsFor mark) (λ other. (ballot_eq other.ballot vote.ballot && mark_eq other.mark vote.mark) ≡ true) votes (λ other g. same-for mark vote other k g) h) in
    ap (λ n. nat_le (quorum_size quorums vote.ballot) n) all ∙ ap (λ b. nat_le (quorum_size quorums b) (length votes)) k.0

-- they are learned just where they are as many as a fast quorum
pub learned-for : (quorums : Sizes) (mark : Mark) (votes : List Vote) → 1 ≤ quorums.fast → AllByRecursion (IsFor mark) votes
    → option_map (λ vote. vote.mark) (reduce lower_vote (filter (has_quorum quorums votes) votes)) ≡ cond (nat_le quorums.fast (length votes)) (Some mark) None
learned-for quorums mark votes some h =
    elim (cases_Bool (nat_le quorums.fast (length votes))) [
      | inl e ↦
          let all = filter-all (has_quorum quorums votes) votes (each-weaker (IsFor mark) (λ vote. has_quorum quorums votes vote ≡ true) votes (λ vote k. quorum-for quorums mark votes vote h k ∙ e) h) in
          let enough = leb-true quorums.fast (length votes) e in
          ap (λ vs. option_map (λ vote. vote.mark) (reduce lower_vote vs)) all ∙ reduced-for mark votes h (omega (arith, some, enough)) ∙ rw e refl
      | inr e ↦
          let none = filter-none (has_quorum quorums votes) votes (each-weaker (IsFor mark) (λ vote. has_quorum quorums votes vote ≡ false) votes (λ vote k. quorum-for quorums mark votes vote h k ∙ e) h) in
          ap (λ vs. option_map (λ vote. vote.mark) (reduce lower_vote vs)) none ∙ rw e refl
    ]

-- ---- the votes that a manager has counted on a transaction

module _ (old : List Vote) (tx : TxId) (others : AllByRecursion (λ (vote : Vote). tx_eq vote.tx tx ≡ false) old) where
  -- those on a key are the new ones of it
  pub votes-on : (key : Key) (pairs : List (Choice × ℕ)) → AllByRecursion (λ (pair : Choice × ℕ). pair.0.tx ≡ tx) pairs
      → votes_on (old ++ map vote_counted pairs) tx key ≡ map vote_counted (filter (of_key key) pairs)
  votes-on key pairs own = by_old old others
    where
      by_new : (ps : List (Choice × ℕ)) → AllByRecursion (λ (pair : Choice × ℕ). pair.0.tx ≡ tx) ps
          → filter (λ vote. tx_eq vote.tx tx && key_eq vote.key key) (map vote_counted ps) ≡ map vote_counted (filter (of_key key) ps)
      by_new [] h = refl
      by_new (p ∷ ps) h =
          let is : tx_eq p.0.tx tx ≡ true = rw h.0 (tx_eq-refl tx) in
          elim (cases_Bool (key_eq p.0.key key)) [
            | inl e ↦ rw (is, e) (ap (λ vs. vote_counted p ∷ vs) (by_new ps h.1))
            | inr e ↦ rw (is, e) (by_new ps h.1)
          ]

      by_old : (vs : List Vote) → AllByRecursion (λ (vote : Vote). tx_eq vote.tx tx ≡ false) vs
          → filter (λ vote. tx_eq vote.tx tx && key_eq vote.key key) (vs ++ map vote_counted pairs) ≡ map vote_counted (filter (of_key key) pairs)
      by_old [] h = by_new pairs own
      by_old (v ∷ vs) h = rw h.0 (by_old vs h.1)

  -- each pair of the choice's key is of the choice
  abbrev pub AreOf : Choice → List (Choice × ℕ) → Type 0
  AreOf choice pairs = AllByRecursion (λ (pair : Choice × ℕ). of_key choice.key pair ≡ true → pair.0 ≡ choice) pairs

  votes-for : (choice : Choice) (pairs : List (Choice × ℕ)) → AreOf choice pairs → AllByRecursion (IsFor (Mark.Accept choice)) (map vote_counted (filter (of_key choice.key) pairs))
  votes-for choice pairs h =
      each-map (IsFor (Mark.Accept choice)) vote_counted (filter (of_key choice.key) pairs)
      (each-passing (λ pair. IsFor (Mark.Accept choice) (vote_counted pair)) (of_key choice.key) pairs
      (each-weaker (λ (pair : Choice × ℕ). of_key choice.key pair ≡ true → pair.0 ≡ choice) (λ pair. of_key choice.key pair ≡ true → IsFor (Mark.Accept choice) (vote_counted pair)) pairs
      (λ pair f e. (refl, ap Mark.Accept (f e))) h))

  module _ (quorums : Sizes) (some : 1 ≤ quorums.fast) (pairs : List (Choice × ℕ)) (own : AllByRecursion (λ (pair : Choice × ℕ). pair.0.tx ≡ tx) pairs) where
    -- the choice is learned just where as many accept it as a fast quorum has
    pub learned-counted : (choice : Choice) → AreOf choice pairs
        → learned quorums (old ++ map vote_counted pairs) tx choice.key ≡ cond (nat_le quorums.fast (number_of (of_key choice.key) pairs)) (Some (Mark.Accept choice)) None
    learned-counted choice h =
        ap (λ on. option_map (λ vote. vote.mark) (reduce lower_vote (filter (has_quorum quorums on) on))) (votes-on choice.key pairs own)
        ∙ learned-for quorums (Mark.Accept choice) (map vote_counted (filter (of_key choice.key) pairs)) some (votes-for choice pairs h)
        ∙ ap (λ n. cond (nat_le quorums.fast n) (Some (Mark.Accept choice)) None) (length-mapped (filter (of_key choice.key) pairs) ∙ number-filter (of_key choice.key) pairs)
      where
        length-mapped : (ps : List (Choice × ℕ)) → length (map vote_counted ps) ≡ length ps
        length-mapped [] = refl
        length-mapped (p ∷ ps) = let ih = length-mapped ps in omega (arith, ih)

    -- no key has collided
    pub uncollided : quorums.fast ≤ quorums.centres → (key : Key) → collided quorums (old ++ map vote_counted pairs) tx key ≡ false
    uncollided within key =
        and_left3 (is_learned quorums (old ++ map vote_counted pairs) tx key) (is_out_of_reach quorums fast_votes is_accept) (is_out_of_reach quorums fast_votes (λ mark. not (is_accept mark))) in_reach
      where
        fast_votes : List Vote
        fast_votes = filter (λ vote. is_fast vote.ballot) (votes_on (old ++ map vote_counted pairs) tx key)

        and_left3 : (l r s : Bool) → r ≡ false → (not l && r && s) ≡ false
        and_left3 true r s h = refl
        and_left3 false r s h = rw h refl

        in_reach : is_out_of_reach quorums fast_votes is_accept ≡ false
        in_reach =
            let all = number-all (λ vote. is_accept vote.mark) fast_votes
            (each-kept (λ vote. is_accept vote.mark ≡ true) (λ vote. is_fast vote.ballot) (votes_on (old ++ map vote_counted pairs) tx key)
            (subst (λ vs. AllByRecursion (λ vote. is_accept vote.mark ≡ true) vs) (sym (votes-on key pairs own))
            (each-map (λ vote. is_accept vote.mark ≡ true) vote_counted (filter (of_key key) pairs) (each-any (λ pair. is_accept (vote_counted pair).mark ≡ true) (filter (of_key key) pairs) (λ pair. refl))))) in
            below (number_of (λ vote. is_accept vote.mark) fast_votes) (length fast_votes) all
          where
            below : (n m : ℕ) → n ≡ m → nat_lt (n + (quorums.centres - m)) quorums.fast ≡ false
            below n m e = grind (arith, e, within)
