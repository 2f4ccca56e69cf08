-- Promises, votes, reports and what is chosen, of a ledger and of its reduced ledger.
use Rattle.std.proofs.Common.{◌≡◌, ℕ, ◌+◌, ◌≤◌, ◌==◌, Bool, true, false, cond, ◌&&◌, nat_le, List, [], ◌∷◌, refl, sym, ap, ◌∙◌, arith, inl, inr, Option, Some, None}
use Rattle.std.proofs.lemmas.Bool.{cases_Bool, and_parts, or_cases, leb-true, le-leb}
use Rattle.std.specs.List.{list_any, filter_map, cons_option}
use Rattle.std.specs.Option.{option_or}
use Rattle.mdcc_base.specs.Ballot.{ballot_eq, ballot_lt}
use Rattle.mdcc_base.specs.Counts.{number_of}
use Rattle.mdcc_base.specs.Key.{key_eq}
use Rattle.mdcc_base.specs.Quorums.{all_centres, quorum_size}
use Rattle.mdcc_base.specs.declared.identifiers.Ballot.{Ballot}
use Rattle.mdcc_base.specs.declared.identifiers.TxId.{TxId}
use Rattle.mdcc_option.specs.Equality.{mark_eq}
use Rattle.mdcc_option.specs.declared.choices.Mark.{Mark}
use Rattle.mdcc_option.specs.declared.cluster.Cluster.{Cluster}
use Rattle.mdcc_struct.specs.Maps.{value_of}
use Rattle.mdcc_def_ledger.specs.AllowedStructures.{has_promised_in}
use Rattle.mdcc_def_protocol.specs.Facts as full
use Rattle.mdcc_struct.specs.Options.{is_mark}
use Rattle.mdcc_def_ledger.specs.Ledger as ledger
use Rattle.mdcc_def_messages.specs.declared.facts.Fact.{Fact}
use Rattle.mdcc_struct.proofs.Values.{value_of-union}
use Rattle.mdcc_theorem_agreement.proofs.BallotOrder.{Below-cases, Below-trans, Below-irrefl}
use Rattle.mdcc_theorem_agreement.proofs.Ballots.{fast}
use Rattle.mdcc_theorem_agreement.proofs.Reduction.{setup_of, reduced_fact, reduced, facts_reduced, facts_same, and_swap, mark_of-or}
use Rattle.mdcc_theorem_agreement.proofs.MapValues.{mark_value}
use Rattle.mdcc_theorem_agreement.proofs.Setups.{count}
use Rattle.mdcc_theorem_agreement.proofs.ReducedFacts.{greater, promised_by, promise, marks_at, votes, voted_by, voted_below, report, HasPromised}
use Rattle.mdcc_theorem_agreement.proofs.ReducedLedger.{facts_of, IsChosen}
use Rattle.mdcc_theorem_agreement.proofs.ReducedOptions.{Place, mark_of, gives}
use Rattle.mdcc_theorem_agreement.proofs.TestsDecide.{Decides-ballot_lt, Decides-key, Decides-ballot}

and_three : (p q r : Bool) → ((p && q) && r) ≡ ((q && r) && p)
and_three true true true = refl
and_three true true false = refl
and_three true false true = refl
and_three true false false = refl
and_three false true true = refl
and_three false true false = refl
and_three false false true = refl
and_three false false false = refl

marks_same : (f : Fact) (i : Place) (k : Ballot) → marks_at (reduced_fact f) i k ≡ full.marks_voted i.key i.version k f
marks_same (Fact.Booted epoch) i k = refl
marks_same (Fact.Floor centre epoch seq) i k = refl
marks_same (Fact.Promised key low high ballot) i k = refl
marks_same (Fact.Heard tx outcome) i k = refl
marks_same (Fact.Adopted key version item adds) i k = refl
marks_same (Fact.Voted key version ballot options offered) i k =
    ap (λ b. cond b options []) (and_three (key_eq key i.key) (version == i.version) (ballot_eq ballot k))

pub votes_same : (fs : List Fact) (i : Place) (k : Ballot) (t : TxId) →
    mark_of t (votes (facts_reduced fs) i k) ≡ value_of (full.votes_of fs i.key i.version k) t
votes_same [] i k t = refl
votes_same (f ∷ fs) i k t =
    mark_of-or t (votes (facts_reduced fs) i k) (marks_at (reduced_fact f) i k)
    ∙ ap (λ o. option_or o (mark_of t (marks_at (reduced_fact f) i k))) (votes_same fs i k t)
    ∙ ap (option_or (value_of (full.votes_of fs i.key i.version k) t))
    (ap (mark_of t) (marks_same f i k) ∙ mark_value t (full.marks_voted i.key i.version k f))
    ∙ sym (value_of-union (full.votes_of fs i.key i.version k) (full.marks_voted i.key i.version k f) t)

-- the greater of two, either way
pub greater-comm : (k m : Ballot) → greater k m ≡ greater m k
greater-comm k m =
    elim (Below-cases k m) [
      | inl below ↦
          let up : ballot_lt k m ≡ true = (Decides-ballot_lt k m).1 below in
          let down : ballot_lt m k ≡ false = elim (cases_Bool (ballot_lt m k)) [
            | inl e ↦ absurd (Below-irrefl k (Below-trans k m k below ((Decides-ballot_lt m k).0 e)))
            | inr e ↦ e
          ] in
          rw (up, down) refl
      | inr rest ↦ elim rest [
        | inl same ↦ rw same refl
        | inr above ↦
            let down : ballot_lt m k ≡ true = (Decides-ballot_lt m k).1 above in
            let up : ballot_lt k m ≡ false = elim (cases_Bool (ballot_lt k m)) [
              | inl e ↦ absurd (Below-irrefl m (Below-trans m k m above ((Decides-ballot_lt k m).0 e)))
              | inr e ↦ e
            ] in
            rw (up, down) refl
      ]
    ]

promised_same : (f : Fact) (i : Place) → promised_by (reduced_fact f) i ≡ full.ballot_promised i.key i.version f
promised_same (Fact.Booted epoch) i = refl
promised_same (Fact.Floor centre epoch seq) i = refl
promised_same (Fact.Heard tx outcome) i = refl
promised_same (Fact.Adopted key version item adds) i = refl
promised_same (Fact.Promised key low high ballot) i =
    ap (λ b. cond b ballot fast) (and_swap (key_eq key i.key) (nat_le low i.version && nat_le i.version high))
promised_same (Fact.Voted key version ballot options offered) i =
    ap (λ b. cond b ballot fast) (and_swap (key_eq key i.key) (version == i.version))

pub promise_same : (fs : List Fact) (i : Place) → promise (facts_reduced fs) i ≡ full.promise_of fs i.key i.version
promise_same [] i = refl
promise_same (f ∷ fs) i =
    greater-comm (promised_by (reduced_fact f) i) (promise (facts_reduced fs) i)
    ∙ ap (λ k. greater k (promised_by (reduced_fact f) i)) (promise_same fs i)
    ∙ ap (greater (full.promise_of fs i.key i.version)) (promised_same f i)

voted_same : (f : Fact) (i : Place) (m : Ballot) → voted_by (reduced_fact f) i m ≡ full.ballot_voted i.key i.version m f
voted_same (Fact.Booted epoch) i m = refl
voted_same (Fact.Floor centre epoch seq) i m = refl
voted_same (Fact.Promised key low high ballot) i m = refl
voted_same (Fact.Heard tx outcome) i m = refl
voted_same (Fact.Adopted key version item adds) i m = refl
voted_same (Fact.Voted key version ballot options offered) i m =
    ap (λ b. cond b ballot fast) (and_three (key_eq key i.key) (version == i.version) (ballot_lt ballot m))

pub voted_below_same : (fs : List Fact) (i : Place) (m : Ballot) → voted_below (facts_reduced fs) i m ≡ full.last_ballot fs i.key i.version m
voted_below_same [] i m = refl
voted_below_same (f ∷ fs) i m =
    greater-comm (voted_by (reduced_fact f) i m) (voted_below (facts_reduced fs) i m)
    ∙ ap (λ k. greater k (voted_by (reduced_fact f) i m)) (voted_below_same fs i m)
    ∙ ap (greater (full.last_ballot fs i.key i.version m)) (voted_same f i m)

-- what a centre reports
pub report_ballot : (a b : ℕ) (fs : List Fact) (i : Place) (m : Ballot) → (report (facts_reduced fs) i m).ballot ≡ (full.report_of a fs i.key i.version m).ballot
report_ballot a b fs i m = voted_below_same fs i m

-- promises
pub promised_reduced : (fs : List Fact) (i : Place) (m : Ballot) → list_any (has_promised_in i.key i.version m) fs ≡ true → HasPromised (facts_reduced fs) i m
promised_reduced [] i m h = absurd (cc)
promised_reduced (Fact.Booted epoch ∷ fs) i m h = promised_reduced fs i m h
promised_reduced (Fact.Floor centre epoch seq ∷ fs) i m h = promised_reduced fs i m h
promised_reduced (Fact.Voted key version ballot options offered ∷ fs) i m h = promised_reduced fs i m h
promised_reduced (Fact.Heard tx outcome ∷ fs) i m h = promised_reduced fs i m h
promised_reduced (Fact.Adopted key version item adds ∷ fs) i m h = promised_reduced fs i m h
promised_reduced (Fact.Promised key low high ballot ∷ fs) i m h =
    elim (or_cases (has_promised_in i.key i.version m (Fact.Promised key low high ballot)) (list_any (has_promised_in i.key i.version m) fs) h) [
      | inl here ↦
          let one : (((nat_le low i.version && nat_le i.version high) && ballot_eq ballot m) ≡ true) × (key_eq key i.key ≡ true) = and_parts _ _ here in
          let two : ((nat_le low i.version && nat_le i.version high) ≡ true) × (ballot_eq ballot m ≡ true) = and_parts _ _ one.0 in
          let three : (nat_le low i.version ≡ true) × (nat_le i.version high ≡ true) = and_parts _ _ two.0 in
          inl ((Decides-key key i.key).0 one.1, leb-true low i.version three.0, leb-true i.version high three.1, (Decides-ballot ballot m).0 two.1)
      | inr there ↦ inr (promised_reduced fs i m there)
    ]

-- chosen
one_given : (x : Mark) (o : Option Mark) (ms : List Mark) → number_of (mark_eq x) (cons_option o ms) ≡ cond (is_mark x o) 1 0 + number_of (mark_eq x) ms
one_given x None ms = omega arith
one_given x (Some y) ms = refl

pub given_number : (es : List ledger.Entry) (i : Place) (k : Ballot) (t : TxId) (x : Mark) (as' : List ℕ) →
    number_of (mark_eq x) (filter_map (ledger.mark_given es i.key i.version k t) as') ≡ count (λ a. gives (votes (facts_of a (reduced es)) i k) t x) as'
given_number es i k t x [] = refl
given_number es i k t x (a ∷ as') =
    let mark : mark_of t (votes (facts_of a (reduced es)) i k) ≡ ledger.mark_given es i.key i.version k t a =
    ap (λ fs. mark_of t (votes fs i k)) (facts_same a es) ∙ votes_same (ledger.facts_of es a) i k t in
    let test : is_mark x (mark_of t (votes (facts_of a (reduced es)) i k)) ≡ is_mark x (ledger.mark_given es i.key i.version k t a) = ap (λ o. is_mark x o) mark in
    one_given x (ledger.mark_given es i.key i.version k t a) (filter_map (ledger.mark_given es i.key i.version k t) as')
    ∙ ap (λ n. cond (is_mark x (ledger.mark_given es i.key i.version k t a)) 1 0 + n) (given_number es i k t x as')
    ∙ ap (λ b. cond b 1 0 + count (λ a. gives (votes (facts_of a (reduced es)) i k) t x) as') (sym test)

pub chosen_reduced : (cluster : Cluster) (es : List ledger.Entry) (i : Place) (k : Ballot) (t : TxId) (x : Mark) →
    ledger.is_chosen_at cluster.quorums es i.key i.version k t x ≡ true → IsChosen (setup_of cluster) (reduced es) i k t x
chosen_reduced cluster es i k t x h =
    let enough : quorum_size cluster.quorums k ≤ number_of (mark_eq x) (filter_map (ledger.mark_given es i.key i.version k t) (all_centres cluster.quorums)) = leb-true _ _ h in
    omega (arith, given_number es i k t x (all_centres cluster.quorums))

pub reduced_chosen : (cluster : Cluster) (es : List ledger.Entry) (i : Place) (k : Ballot) (t : TxId) (x : Mark) →
    IsChosen (setup_of cluster) (reduced es) i k t x → ledger.is_chosen_at cluster.quorums es i.key i.version k t x ≡ true
reduced_chosen cluster es i k t x h =
    let enough : quorum_size cluster.quorums k ≤ count (λ a. gives (votes (facts_of a (reduced es)) i k) t x) (all_centres cluster.quorums) = h in
    le-leb _ _ (omega (arith, given_number es i k t x (all_centres cluster.quorums)))
