-- The mark that is chosen in an instance is the one that is found there.
use Rattle.std.proofs.Common.{◌≡◌, ℕ, ◌<◌, ◌≤◌, ◌==◌, Bool, true, ◌&&◌, List, [], ◌∷◌, refl, sym, ap, ◌∙◌, subst, arith, inl, inr, ◌⊎◌, Option, Some, None}
use Rattle.std.proofs.lemmas.Bool.{cases_Bool, false≢true, and_parts, or_cases, leb-true, le-leb, ltb-true, lt-ltb, eqb-true}
use Rattle.std.specs.List.{fold, find, list_any}
use Rattle.std.specs.Option.{option_or}
use Rattle.mdcc_base.specs.Ballot.{ballot_eq}
use Rattle.mdcc_base.specs.Counts.{number_of}
use Rattle.mdcc_base.specs.Key.{key_eq}
use Rattle.mdcc_base.specs.Quorums.{quorum_size}
use Rattle.mdcc_base.specs.declared.identifiers.Ballot.{Ballot}
use Rattle.mdcc_base.specs.declared.identifiers.TxId.{TxId}
use Rattle.mdcc_base.specs.declared.key.Key.{Key}
use Rattle.mdcc_option.specs.Equality.{mark_eq}
use Rattle.mdcc_option.specs.declared.choices.Mark.{Mark}
use Rattle.mdcc_option.specs.declared.cluster.Cluster.{Cluster}
use Rattle.mdcc_def_ledger.specs.Ledger as ledger
use Rattle.mdcc_def_messages.specs.declared.facts.Fact.{Fact}
use Rattle.mdcc_struct.proofs.Reports.{cases_Option}
use Rattle.mdcc_theorem_agreement.proofs.ReportsCounted.{some_counted}
use Rattle.mdcc_theorem_agreement.proofs.Reduction.{setup_of, reduced_fact, reduced, facts_reduced, facts_same}
use Rattle.mdcc_theorem_agreement.proofs.OneMark.{one_mark, size-classic}
use Rattle.mdcc_theorem_agreement.proofs.Setups.{IsSetup, centres_to}
use Rattle.mdcc_theorem_agreement.proofs.ReducedFacts.{votes}
use Rattle.mdcc_theorem_agreement.proofs.ReducedLedger.{facts_of, IsChosen, Allowed}
use Rattle.mdcc_theorem_agreement.proofs.ReducedOptions.{In, Place, mark_of, gives}
use Rattle.mdcc_theorem_agreement.proofs.TestsDecide.{Decides-key, Decides-ballot, Decides-mark, Decides-is_mark}
use Rattle.mdcc_theorem_agreement.proofs.ViewsReduced.{chosen_reduced, reduced_chosen}
use Rattle.mdcc_theorem_agreement.proofs.VotesOfFacts.{HasVoted, HasVoted-mark}

-- the first that passes
pub found : {X : Type 0} (p : X → Bool) (x : X) (xs : List X) → find p xs ≡ Some x → In x xs × (p x ≡ true)
found p x [] h = absurd (cc)
found p x (y ∷ ys) h =
    elim (cases_Bool (p y)) [
      | inl e ↦ (let is : Some y ≡ Some x = rw e at h in let same : y ≡ x = cc in (inl same, ap p (sym same) ∙ e))
      | inr e ↦ (let more : In x ys × (p x ≡ true) = found p x ys (rw e at h) in (inr more.0, more.1))
    ]

pub find_some : {X : Type 0} (p : X → Bool) (x : X) (xs : List X) → In x xs → p x ≡ true → (y : X) × (find p xs ≡ Some y)
find_some p x [] h e = absurd h
find_some p x (y ∷ ys) h e =
    elim (cases_Bool (p y)) [
      | inl f ↦ (y, rw f refl)
      | inr f ↦ elim h [
        | inl here ↦ absurd (false≢true (sym f ∙ ap p here ∙ e))
        | inr there ↦ (let more : (z : _) × (find p ys ≡ Some z) = find_some p x ys there e in (more.0, rw f more.1))
      ]
    ]

module _ (cluster : Cluster) (es : List ledger.Entry) (key : Key) (version : ℕ) (tx : TxId) where
  abbrev at_ballot : Ballot → Option Mark
  at_ballot k = ledger.chosen_at cluster.quorums es key version tx k

  at_ballot-shows : (k : Ballot) (x : Mark) → at_ballot k ≡ Some x → ledger.is_chosen_at cluster.quorums es key version k tx x ≡ true
  at_ballot-shows k x h = (found (ledger.is_mark_of_quorum cluster.quorums k (ledger.marks_given cluster.quorums es key version k tx)) x (ledger.marks_given cluster.quorums es key version k tx) h).1

  fold_shows : (acc : Option Mark) (ks : List Ballot) (x : Mark) → fold (λ o ballot. option_or o (at_ballot ballot)) acc ks ≡ Some x →
      (acc ≡ Some x) ⊎ ((k : Ballot) × (at_ballot k ≡ Some x))
  fold_shows acc [] x h = inl h
  fold_shows acc (k ∷ ks) x h =
      elim (fold_shows (option_or acc (at_ballot k)) ks x h) [
        | inl first ↦ elim (cases_Option acc) [
          | inl none ↦ inr (k, (let is : option_or None (at_ballot k) ≡ Some x = rw none at first in is))
          | inr some ↦ inl (let is : option_or (Some some.0) (at_ballot k) ≡ Some x = rw some.1 at first in some.1 ∙ is)
        ]
        | inr later ↦ inr later
      ]

  fold_kept : (y : Mark) (ks : List Ballot) → fold (λ o ballot. option_or o (at_ballot ballot)) (Some y) ks ≡ Some y
  fold_kept y [] = refl
  fold_kept y (k ∷ ks) = fold_kept y ks

  fold_some : (ks : List Ballot) (k : Ballot) (x : Mark) → In k ks → at_ballot k ≡ Some x → (y : Mark) × (fold (λ o ballot. option_or o (at_ballot ballot)) None ks ≡ Some y)
  fold_some [] k x h e = absurd h
  fold_some (l ∷ ks) k x h e =
      elim (cases_Option (at_ballot l)) [
        | inr some ↦ (some.0, ap (λ o. fold (λ o ballot. option_or o (at_ballot ballot)) o ks) some.1 ∙ fold_kept some.0 ks)
        | inl none ↦ elim h [
          | inl here ↦ absurd (let bad : None ≡ Some x = sym none ∙ ap at_ballot here ∙ e in cc)
          | inr there ↦ (let more : (y : Mark) × (fold (λ o ballot. option_or o (at_ballot ballot)) None ks ≡ Some y) = fold_some ks k x there e in
              (more.0, ap (λ o. fold (λ o ballot. option_or o (at_ballot ballot)) o ks) none ∙ more.1))
        ]
      ]

  pub chosen_of-shows : (x : Mark) → ledger.chosen_of cluster.quorums es key version tx ≡ Some x → (k : Ballot) × (ledger.is_chosen_at cluster.quorums es key version k tx x ≡ true)
  chosen_of-shows x h =
      elim (fold_shows None (ledger.ballots_voted es key version) x h) [
        | inl none ↦ absurd (cc)
        | inr there ↦ (there.0, at_ballot-shows there.0 x there.1)
      ]

  number_In : (x : Mark) (ms : List Mark) → 0 < number_of (mark_eq x) ms → In x ms
  number_In x [] h = absurd (omega arith)
  number_In x (m ∷ ms) h =
      elim (cases_Bool (mark_eq x m)) [
        | inl e ↦ inl (sym ((Decides-mark x m).0 e))
        | inr e ↦ (let less : number_of (mark_eq x) (m ∷ ms) ≡ number_of (mark_eq x) ms = rw e (omega arith) in inr (number_In x ms (omega arith)))
      ]

  at_ballot-some : (k : Ballot) (x : Mark) → 0 < quorum_size cluster.quorums k → ledger.is_chosen_at cluster.quorums es key version k tx x ≡ true → (y : Mark) × (at_ballot k ≡ Some y)
  at_ballot-some k x some h =
      let enough : quorum_size cluster.quorums k ≤ number_of (mark_eq x) (ledger.marks_given cluster.quorums es key version k tx) = leb-true _ _ h in
      find_some (ledger.is_mark_of_quorum cluster.quorums k (ledger.marks_given cluster.quorums es key version k tx)) x (ledger.marks_given cluster.quorums es key version k tx)
      (number_In x (ledger.marks_given cluster.quorums es key version k tx) (omega arith)) h

-- the ballots of votes
In-with_ballot : (ks : List Ballot) (k l : Ballot) → In l (ledger.with_ballot ks k) ⊎ (In l ks → ⊥)
In-with_ballot ks k l = elim (cases_Bool (list_any (ballot_eq k) ks)) [
  | inl e ↦ rw e (In-or ks l)
  | inr e ↦ rw e (elim (In-or ks l) [ inl there ↦ inl (inr there) | inr none ↦ inr none ])
]
  where
    In-or : (ks : List Ballot) (l : Ballot) → In l ks ⊎ (In l ks → ⊥)
    In-or [] l = inr (λ h. h)
    In-or (k ∷ ks) l = elim (cases_Bool (ballot_eq k l)) [
      | inl e ↦ inl (inl ((Decides-ballot k l).0 e))
      | inr e ↦ elim (In-or ks l) [
        | inl there ↦ inl (inr there)
        | inr none ↦ inr (λ h. elim h [ inl here ↦ false≢true (sym e ∙ (Decides-ballot k l).1 here) | inr there ↦ none there ])
      ]
    ]

ballot_kept : (ks : List Ballot) (k l : Ballot) → In l ks → In l (ledger.with_ballot ks k)
ballot_kept ks k l h = elim (In-with_ballot ks k l) [ inl there ↦ there | inr none ↦ absurd (none h) ]

any_In : (k : Ballot) (ks : List Ballot) → list_any (ballot_eq k) ks ≡ true → In k ks
any_In k [] h = absurd (cc)
any_In k (l ∷ ks) h = elim (or_cases (ballot_eq k l) (list_any (ballot_eq k) ks) h) [ inl e ↦ inl (sym ((Decides-ballot k l).0 e)) | inr e ↦ inr (any_In k ks e) ]

ballot_new : (ks : List Ballot) (k : Ballot) → In k (ledger.with_ballot ks k)
ballot_new ks k = elim (cases_Bool (list_any (ballot_eq k) ks)) [ inl e ↦ rw e (any_In k ks e) | inr e ↦ rw e (inl refl) ]

ballot_more : (es : List ledger.Entry) (e : ledger.Entry) (key : Key) (version : ℕ) (k : Ballot) → In k (ledger.ballots_voted es key version) → In k (ledger.ballots_voted (e ∷ es) key version)
ballot_more es (ledger.Begun a t cs) key version k h = h
ballot_more es (ledger.Valued a k' v b os) key version k h = h
ballot_more es (ledger.Added a (Fact.Booted epoch)) key version k h = h
ballot_more es (ledger.Added a (Fact.Floor centre epoch seq)) key version k h = h
ballot_more es (ledger.Added a (Fact.Promised k' low high b)) key version k h = h
ballot_more es (ledger.Added a (Fact.Heard t o)) key version k h = h
ballot_more es (ledger.Added a (Fact.Adopted k' v item adds)) key version k h = h
ballot_more es (ledger.Added a (Fact.Voted k' v b os offered)) key version k h =
    elim (cases_Bool ((v == version) && key_eq k' key)) [
      | inl e ↦ rw e (ballot_kept (ledger.ballots_voted es key version) b k h)
      | inr e ↦ rw e h
    ]

ballot_now : (es : List ledger.Entry) (a : ℕ) (f : Fact) (i : Place) (k : Ballot) (fs : List Fact) → HasVoted (reduced_fact f ∷ facts_reduced fs) i k →
    In k (ledger.ballots_voted (ledger.Added a f ∷ es) i.key i.version) ⊎ HasVoted (facts_reduced fs) i k
ballot_now es a (Fact.Booted epoch) i k fs h = inr h
ballot_now es a (Fact.Floor centre epoch seq) i k fs h = inr h
ballot_now es a (Fact.Promised k' low high b) i k fs h = inr h
ballot_now es a (Fact.Heard t o) i k fs h = inr h
ballot_now es a (Fact.Adopted k' v item adds) i k fs h = inr h
ballot_now es a (Fact.Voted k' v b os offered) i k fs h =
    elim h [
      | inl here ↦
          let test : ((v == i.version) && key_eq k' i.key) ≡ true =
          Rattle.std.proofs.lemmas.Bool.and_from (v == i.version) (key_eq k' i.key) (Rattle.std.proofs.lemmas.Bool.eq-eqb v i.version (ap (λ z. z.version) here.0)) ((Decides-key k' i.key).1 (ap (λ z. z.key) here.0)) in
          inl (rw test (subst (λ z. In z (ledger.with_ballot (ledger.ballots_voted es i.key i.version) b)) here.1 (ballot_new (ledger.ballots_voted es i.key i.version) b)))
      | inr there ↦ inr there
    ]

ballot_there : (es : List ledger.Entry) (a : ℕ) (i : Place) (k : Ballot) → HasVoted (facts_reduced (ledger.facts_of es a)) i k → In k (ledger.ballots_voted es i.key i.version)
ballot_there [] a i k h = h
ballot_there (ledger.Begun b t cs ∷ es) a i k h = ballot_there es a i k h
ballot_there (ledger.Valued b k' v l os ∷ es) a i k h = ballot_there es a i k h
ballot_there (ledger.Added b f ∷ es) a i k h =
    elim (cases_Bool (b == a)) [
      | inl e ↦ elim (ballot_now es b f i k (ledger.facts_of es a) (rw e at h)) [
        | inl now ↦ now
        | inr before ↦ ballot_more es (ledger.Added b f) i.key i.version k (ballot_there es a i k before)
      ]
      | inr e ↦ ballot_more es (ledger.Added b f) i.key i.version k (ballot_there es a i k (rw e at h))
    ]

module _ (cluster : Cluster) (sizes : IsSetup (setup_of cluster)) (es : List ledger.Entry) (allowed : Allowed (setup_of cluster) (reduced es)) where
  pub quorum_some : (k : Ballot) → 0 < quorum_size cluster.quorums k
  quorum_some k = omega (arith, size-classic (setup_of cluster) sizes k, sizes.two_classic)

  -- what is chosen is found, in its instance
  pub chosen_found : (i : Place) (k : Ballot) (t : TxId) (x : Mark) → IsChosen (setup_of cluster) (reduced es) i k t x → ledger.chosen_of cluster.quorums es i.key i.version t ≡ Some x
  chosen_found i k t x h =
      let voter : (a : ℕ) × In a (centres_to cluster.quorums.centres) × (gives (votes (facts_of a (reduced es)) i k) t x ≡ true) =
      some_counted (λ a. gives (votes (facts_of a (reduced es)) i k) t x) (centres_to cluster.quorums.centres) (omega (arith, quorum_some k)) in
      let vote : mark_of t (votes (facts_of voter.0 (reduced es)) i k) ≡ Some x = (Decides-is_mark (mark_of t (votes (facts_of voter.0 (reduced es)) i k)) x).0 voter.2 in
      let voted : HasVoted (facts_of voter.0 (reduced es)) i k = HasVoted-mark (facts_of voter.0 (reduced es)) i k t x vote in
      let ballot : In k (ledger.ballots_voted es i.key i.version) = ballot_there es voter.0 i k (subst (λ fs. HasVoted fs i k) (facts_same voter.0 es) voted) in
      let here : (y : Mark) × (ledger.chosen_at cluster.quorums es i.key i.version t k ≡ Some y) =
      at_ballot-some cluster es i.key i.version t k x (quorum_some k) (reduced_chosen cluster es i k t x h) in
      let some : (y : Mark) × (ledger.chosen_of cluster.quorums es i.key i.version t ≡ Some y) =
      fold_some cluster es i.key i.version t (ledger.ballots_voted es i.key i.version) k here.0 ballot here.1 in
      let shown : (l : Ballot) × (ledger.is_chosen_at cluster.quorums es i.key i.version l t some.0 ≡ true) = chosen_of-shows cluster es i.key i.version t some.0 some.1 in
      let same : x ≡ some.0 = one_mark (setup_of cluster) sizes (reduced es) allowed i k shown.0 t x some.0 h (chosen_reduced cluster es i shown.0 t some.0 shown.1) in
      some.1 ∙ ap Some (sym same)
